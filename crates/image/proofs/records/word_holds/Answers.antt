use Rattle.image.specs.Records.{record_holds}
use Rattle.image.proofs.Tests.{word_number}
use Rattle.image.proofs.records.word_holds.Goals as goal

pub returns : goal.returns
unfolding record_holds
returns c = rw (← word_number c.args.w, ← c.is_operation.ensures, ← c.is_compare.ensures)
