use Rattle.image.specs.Fetch.{instruction_at}
use Rattle.image.proofs.fetch.read_record.Goals as goal

pub returns : goal.returns
unfolding instruction_at
returns c = λ pc e. rw (c.decode.ensures, c.word_at.ensures, e)
