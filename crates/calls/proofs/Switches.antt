-- A call leaves ICR, SYSCON and PSW.PRS as they are.
-- Assumes nothing.
use Prim.Native.Nat.{ℕ}
use Rattle.fields.proofs.RangeSets.{prs_called}
use Rattle.registers.specs.Registers.{psw}
use Rattle.registers.specs.declared.Registers.{Registers}
use Rattle.acts.proofs.Steadiness.{Steady, steady_flags}
use Rattle.calls.specs.Saves.{called_then}

-- once its context is saved
pub called_steady : (to next : ℕ) (q : Registers) → Steady q (called_then to next q)
unfolding called_then
called_steady to next q = steady_flags _ _ _ _ q (prs_called (psw q))
