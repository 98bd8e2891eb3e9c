use Rattle.words.specs.Bits.{bit}
use Rattle.fields.specs.Field.{is_set}
use Rattle.protection.specs.Range.{enables}
use Rattle.protection.proofs.range.enabled.Goals as goal

pub returns-in-Read : goal.returns-in-Read
unfolding enables is_set bit
returns-in-Read c = rw c.in-Read.is

pub returns-in-Write : goal.returns-in-Write
unfolding enables is_set bit
returns-in-Write c = rw c.in-Write.is

pub returns-in-Execute : goal.returns-in-Execute
unfolding enables is_set bit
returns-in-Execute c = rw c.in-Execute.is
