-- A run of n steps: one after the other, to the first stop or to the n-th.
use Rattle.std.specs.Prelude.{◌≡◌, ℕ, zero, suc, ◌+◌, List, Err, Ok, Result, ⊤}
use Rattle.memory.specs.Memory.{Memory}
use Rattle.registers.specs.Registers.{pc}
use Rattle.registers.specs.declared.Registers.{Registers}
use Rattle.events.specs.declared.event.Event.TheVariants as event
use Rattle.protection.specs.declared.range.Range.{Range}
use Rattle.inputs.specs.Checks.{step_verdict}
use Rattle.inputs.specs.declared.verdict.Refusal.{Refusal}
use Rattle.machine.specs.Step.{StepOf, step_of}
use Rattle.events.specs.declared.event.Event.{Event}
use Rattle.machine.specs.declared.answer.Unmade.{Unmade}
use Rattle.machine.specs.declared.answer.Unmade.TheVariants.{Refused, Stopped}

-- the last step's outcome, the steps made, and registers, requests and memory as the last step made left them
pub record RunOf : Type 0 where
  pub outcome : Result Event Unmade
  pub made : ℕ
  pub registers : Registers
  pub requests : List ℕ
  pub memory : Memory

abbrev pub ran : Result Event Unmade → ℕ → Registers → List ℕ → Memory → RunOf
ran o made r xs m = record { outcome = o; made = made; registers = r; requests = xs; memory = m }

-- after a step: a run goes on from one that was made, and else ends with it
abbrev pub onward : Result Event Unmade → ℕ → StepOf → RunOf → RunOf
onward (Ok e) made s next = next
onward (Err (Stopped x)) made s next = ran (Err (Stopped x)) made s.registers s.requests s.memory
onward (Err (Refused x)) made s next = ran (Err (Refused x)) made s.registers s.requests s.memory

-- n steps more, after `made` of which the last had that outcome
unfoldable pub run_from : ℕ → List ℕ → List Range → Result Event Unmade → ℕ → Registers → List ℕ → Memory → RunOf
run_from zero img rs last made r xs m = ran last made r xs m
run_from (suc n) img rs last made r xs m =
    let s = step_of img r xs rs m in
    onward s.outcome made s (run_from n img rs s.outcome (made + 1) s.registers s.requests s.memory)

abbrev pub run_by : ℕ → List ℕ → Registers → List ℕ → List Range → Memory → Result ⊤ Refusal → RunOf
run_by n img r xs rs m (Err x) = ran (Err (Refused x)) 0 r xs m
run_by n img r xs rs m (Ok _) = run_from n img rs (Ok event.Instruction) 0 r xs m

-- a run that is refused makes no step and leaves registers, requests and memory as they were
abbrev pub RefusedKeeps : Registers → List ℕ → Memory → RunOf → Type 0
RefusedKeeps r xs m after = (x : Refusal) → after.outcome ≡ Err (Refused x) → after ≡ ran (Err (Refused x)) 0 r xs m

-- a run of no steps is tried with the rules 1, 13 and 2 to 4 too, and ends as an instruction
unfoldable pub run_of : ℕ → List ℕ → Registers → List ℕ → List Range → Memory → RunOf
run_of n img r xs rs m = run_by n img r xs rs m (step_verdict m img (pc r))
