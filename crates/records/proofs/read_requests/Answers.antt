use Rattle.records.specs.CoreRecord.{requests_in}
use Rattle.records.proofs.read_requests.Goals as goal

pub returns : goal.returns
unfolding requests_in
returns c = c.words_from.ensures
