use Rattle.image.proofs.Tests.{word_form}
use Rattle.image.proofs.records.word_long.Goals as goal

pub returns : goal.returns
returns c = word_form c.args.w
