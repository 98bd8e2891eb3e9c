-- A step: refused by the rules 1, 13 and 2 to 4, or stopped, with all as before; or made, with an event. It names the ranges that permitted its accesses, where it is not refused.
use Rattle.std.specs.Prelude.{ℕ, List, Err, Ok, Result, ⊤}
use Rattle.memory.specs.Memory.{Memory}
use Rattle.registers.specs.Registers.{pc}
use Rattle.registers.specs.declared.Registers.{Registers}
use Rattle.protection.specs.declared.range.Range.{Range}
use Rattle.inputs.specs.Checks.{step_verdict}
use Rattle.decisions.specs.Decision.{one_of, requests_of}
use Rattle.permits.specs.Permits.{no_permits, permits_of}
use Rattle.permits.specs.declared.Permits.{Permits}
use Rattle.events.specs.declared.event.Event.{Event}
use Rattle.events.specs.declared.event.Stop.{Stop}
use Rattle.inputs.specs.declared.verdict.Refusal.{Refusal}
use Rattle.machine.specs.declared.answer.Unmade.{Unmade}
use Rattle.machine.specs.declared.answer.Unmade.TheVariants.{Refused, Stopped}

abbrev pub outcome_of : Result Event Stop → Result Event Unmade
outcome_of (Ok e) = Ok e
outcome_of (Err s) = Err (Stopped s)

-- what an outcome says of the rules 1, 13 and 2 to 4
abbrev pub verdict_in : Result Event Unmade → Result ⊤ Refusal
verdict_in (Ok e) = Ok tt
verdict_in (Err (Stopped s)) = Ok tt
verdict_in (Err (Refused x)) = Err x

-- the outcome; registers, requests and memory after the step; and the ranges that permitted its fetch and its data access
pub record StepOf : Type 0 where
  pub outcome : Result Event Unmade
  pub registers : Registers
  pub requests : List ℕ
  pub memory : Memory
  pub permits : Permits

abbrev pub stepped : Result Event Unmade → Registers → List ℕ → Memory → Permits → StepOf
stepped o r xs m p = record { outcome = o; registers = r; requests = xs; memory = m; permits = p }

-- a stop hands no new state on, but names the ranges; ys are the requests after a step that is made
abbrev pub accepted_by : Registers → List ℕ → Memory → List ℕ → Permits → Result Event Stop → Registers → Memory → StepOf
accepted_by r xs m ys p (Err s) q n = stepped (Err (Stopped s)) r xs m p
accepted_by r xs m ys p (Ok e) q n = stepped (Ok e) q ys n p

abbrev pub accepted_of : List ℕ → Registers → List ℕ → List Range → Memory → StepOf
accepted_of img r xs rs m =
    let v = one_of img r xs rs m in
    accepted_by r xs m (requests_of img r xs rs) (permits_of img r.a r.core xs rs) v.ending v.registers v.memory

abbrev pub stepped_by : List ℕ → Registers → List ℕ → List Range → Memory → Result ⊤ Refusal → StepOf
stepped_by img r xs rs m (Err x) = stepped (Err (Refused x)) r xs m no_permits
stepped_by img r xs rs m (Ok _) = accepted_of img r xs rs m

-- img is the image, xs the request words of the 16 sources, rs the 32 ranges
unfoldable pub step_of : List ℕ → Registers → List ℕ → List Range → Memory → StepOf
step_of img r xs rs m = stepped_by img r xs rs m (step_verdict m img (pc r))
