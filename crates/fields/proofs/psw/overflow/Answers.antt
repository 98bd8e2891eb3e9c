use mathlib.Core.Path.{refl}
use Rattle.words.specs.Bits.{bit}
use Rattle.fields.specs.Field.{is_set}
use Rattle.fields.proofs.psw.overflow.Goals as goal

pub returns : goal.returns
unfolding is_set bit
returns c = refl
