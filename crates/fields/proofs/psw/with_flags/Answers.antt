use Rattle.words.specs.Bits.{bit}
use Rattle.fields.specs.Field.{is_set}
use Rattle.fields.specs.Psw.{status_of, flagged_of}
use native.Mathlib.Omega.{arith}
use Rattle.fields.proofs.psw.with_flags.Goals as goal

pub returns : goal.returns
unfolding flagged_of status_of is_set bit
returns c = omega (arith, c.bit_of.ensures.0, c.sticky.ensures.0, c.sticky-2.ensures.0)
