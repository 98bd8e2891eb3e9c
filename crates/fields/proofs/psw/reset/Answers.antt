use Rattle.fields.specs.Psw.{status_of, reset_of}
use Rattle.fields.proofs.Flags.{number_is_set}
use native.Mathlib.Omega.{arith}
use Rattle.fields.proofs.psw.reset.Goals as goal

pub returns : goal.returns
unfolding reset_of status_of
returns c = let k = number_is_set 31 c.args.psw in omega arith
