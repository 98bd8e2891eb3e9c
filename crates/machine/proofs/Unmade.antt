-- A step that is not made, and a run of which none is, leave all as it was.
-- Assumes nothing.
use Rattle.std.proofs.Common.{◌≡◌, ℕ, zero, suc, ◌+◌, ◌≤◌, List, refl, arith}
use Rattle.memory.specs.Memory.{Memory}
use Rattle.registers.specs.Registers.{pc}
use Rattle.registers.specs.declared.Registers.{Registers}
use Rattle.events.specs.declared.event.Event.TheVariants as event
use Rattle.protection.specs.declared.range.Range.{Range}
use Rattle.inputs.specs.Checks.{step_verdict}
use Rattle.decisions.specs.Decision.{one_of}
use Rattle.permits.specs.declared.Permits.{Permits}
use Rattle.machine.specs.Step.{StepOf, accepted_by, stepped_by, step_of}
use Rattle.machine.specs.Run.{RunOf, ran, onward, run_from, run_by, run_of}
use Rattle.std.specs.Prelude.{Err, Ok, Result, ⊤}
use Rattle.events.specs.declared.event.Event.{Event}
use Rattle.events.specs.declared.event.Stop.{Stop}
use Rattle.inputs.specs.declared.verdict.Refusal.{Refusal}
use Rattle.machine.specs.declared.answer.Unmade.{Unmade}
use Rattle.machine.specs.declared.answer.Unmade.TheVariants.{Refused, Stopped}

-- registers, requests and memory are these
pub record Leaves (r : Registers) (xs : List ℕ) (m : Memory) (v : RunOf) : Type 0 where
  pub registers : v.registers ≡ r
  pub requests : v.requests ≡ xs
  pub memory : v.memory ≡ m

-- steps made are counted
more : (o : Result Event Unmade) (made : ℕ) (s : StepOf) (next : RunOf) → made ≤ next.made → made ≤ (onward o made s next).made
more (Ok e) made s next h = h
more (Err (Stopped x)) made s next h = omega arith
more (Err (Refused x)) made s next h = omega arith

counted : (n : ℕ) (img : List ℕ) (rs : List Range) (last : Result Event Unmade) (made : ℕ) (r : Registers) (xs : List ℕ) (m : Memory) → made ≤ (run_from n img rs last made r xs m).made
unfolding run_from
counted zero img rs last made r xs m = omega arith
counted (suc n) img rs last made r xs m =
    let s = step_of img r xs rs m in
    let h = counted n img rs s.outcome (made + 1) s.registers s.requests s.memory in
    more s.outcome made s _ (omega arith)

-- ---- a step that is not made
module _ (img : List ℕ) (r : Registers) (xs : List ℕ) (rs : List Range) (m : Memory) where
  abbrev pub Unmoved : Result Event Unmade → StepOf → Type 0
  Unmoved (Ok e) s = Unit {0}
  Unmoved (Err (Stopped x)) s = Leaves r xs m (ran (Err (Stopped x)) 0 s.registers s.requests s.memory)
  Unmoved (Err (Refused x)) s = Leaves r xs m (ran (Err (Refused x)) 0 s.registers s.requests s.memory)

  by_ending : (ys : List ℕ) (p : Permits) (e : Result Event Stop) (q : Registers) (w : Memory) → (let s = accepted_by r xs m ys p e q w in Unmoved s.outcome s)
  by_ending ys p (Ok e) q w = tt
  by_ending ys p (Err s) q w = record { registers = refl; requests = refl; memory = refl }

  by_verdict : (v : Result ⊤ Refusal) → (let s = stepped_by img r xs rs m v in Unmoved s.outcome s)
  by_verdict (Ok _) = let v = one_of img r xs rs m in by_ending _ _ v.ending v.registers v.memory
  by_verdict (Err x) = record { registers = refl; requests = refl; memory = refl }

  pub unmoved : (let s = step_of img r xs rs m in Unmoved s.outcome s)
  unfolding step_of
  unmoved = by_verdict (step_verdict m img (pc r))

  ended : (o : Result Event Unmade) (s : StepOf) (next : RunOf) → Unmoved o s → 1 ≤ next.made → (onward o 0 s next).made ≡ 0 → Leaves r xs m (onward o 0 s next)
  ended (Ok e) s next u h z = absurd (omega arith)
  ended (Err (Stopped x)) s next u h z = u
  ended (Err (Refused x)) s next u h z = u

  from : (n : ℕ) → (run_from n img rs (Ok event.Instruction) 0 r xs m).made ≡ 0 → Leaves r xs m (run_from n img rs (Ok event.Instruction) 0 r xs m)
  unfolding run_from
  from zero z = record { registers = refl; requests = refl; memory = refl }
  from (suc n) z = let s = step_of img r xs rs m in ended s.outcome s _ unmoved (counted n img rs s.outcome 1 s.registers s.requests s.memory) z

  pub none_made : (n : ℕ) → (run_of n img r xs rs m).made ≡ 0 → Leaves r xs m (run_of n img r xs rs m)
  unfolding run_of
  none_made n = by (step_verdict m img (pc r))
    where
      by : (v : Result ⊤ Refusal) → (run_by n img r xs rs m v).made ≡ 0 → Leaves r xs m (run_by n img r xs rs m v)
      by (Ok _) z = from n z
      by (Err x) z = record { registers = refl; requests = refl; memory = refl }
