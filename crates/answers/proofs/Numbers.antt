-- The numbers of refusals and stops fit a byte.
-- Assumes nothing.
use Prim.Native.Nat.{◌<◌}
use native.Mathlib.Omega.{arith}
use Rattle.events.specs.Events.{stop_number}
use Rattle.events.specs.declared.event.Stop.{Stop}
use Rattle.events.specs.declared.event.Stop.TheVariants.{NoArea, Outside}
use Rattle.inputs.specs.Verdict.{number_of}
use Rattle.inputs.specs.declared.verdict.Refusal.{Refusal}
use Rattle.inputs.specs.declared.verdict.Refusal.TheVariants as refusal

pub number_small : (x : Refusal) → number_of x < 256
number_small refusal.Window = omega arith
number_small refusal.Overlap = omega arith
number_small (refusal.Table entry) = omega arith
number_small (refusal.Record index) = omega arith
number_small refusal.OddPc = omega arith
number_small refusal.LinkOutside = omega arith
number_small refusal.MetAgain = omega arith

pub stop_small : (s : Stop) → stop_number s < 256
stop_small NoArea = omega arith
stop_small Outside = omega arith
