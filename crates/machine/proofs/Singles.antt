-- A step is a run of one; and both, where the rules refuse.
-- Assumes nothing.
use Rattle.std.proofs.Common.{◌≡◌, ℕ, List, sym, refl, ap, ◌∙◌, arith}
use Rattle.words.specs.Exactly.{Exactly}
use Rattle.memory.specs.Memory.{Memory}
use Rattle.registers.specs.Registers.{pc}
use Rattle.registers.specs.declared.Registers.{Registers}
use Rattle.events.specs.declared.event.Event.TheVariants as event
use Rattle.protection.specs.declared.range.Range.{Range}
use Rattle.inputs.specs.Checks.{step_verdict}
use Rattle.inputs.specs.declared.verdict.Refusal.{Refusal}
use Rattle.inputs.specs.Rules.{StepSays}
use Rattle.inputs.proofs.Verdicts.{step_exactly}
use Rattle.decisions.specs.Decision.{one_of}
use Rattle.permits.specs.Permits.{no_permits, permits_of}
use Rattle.permits.specs.declared.Permits.{Permits}
use Rattle.machine.specs.Step.{outcome_of, verdict_in, StepOf, stepped, accepted_by, stepped_by, step_of}
use Rattle.machine.proofs.Turns.{accepted_step}
use Rattle.machine.specs.Run.{RunOf, ran, onward, run_from, run_of, RefusedKeeps}
use Rattle.std.specs.Prelude.{Err, Ok, Result, ⊤}
use Rattle.events.specs.declared.event.Event.{Event}
use Rattle.events.specs.declared.event.Stop.{Stop}
use Rattle.machine.specs.declared.answer.Unmade.{Unmade}
use Rattle.machine.specs.declared.answer.Unmade.TheVariants.{Refused, Stopped}

-- a run's answer without the steps made, as a step's that names these ranges
abbrev strip : Permits → RunOf → StepOf
strip p v = stepped v.outcome v.registers v.requests v.memory p

onward_one : (o : Result Event Unmade) (k : ℕ) (s : StepOf) → o ≡ s.outcome → strip s.permits (onward o 0 s (ran s.outcome k s.registers s.requests s.memory)) ≡ s
onward_one (Ok e) k s h = refl
onward_one (Err (Stopped x)) k s h = rw h
onward_one (Err (Refused x)) k s h = rw h

module _ (img : List ℕ) (r : Registers) (xs : List ℕ) (rs : List Range) (m : Memory) where
  one_step : strip (step_of img r xs rs m).permits (run_from 1 img rs (Ok event.Instruction) 0 r xs m) ≡ step_of img r xs rs m
  unfolding run_from
  one_step = let s = step_of img r xs rs m in onward_one s.outcome _ s refl

  -- made or stopped, it names them
  accepted_permits : (ys : List ℕ) (p : Permits) (e : Result Event Stop) (q : Registers) (n : Memory) → (accepted_by r xs m ys p e q n).permits ≡ p
  accepted_permits ys p (Ok e) q n = refl
  accepted_permits ys p (Err s) q n = refl

  -- of an accepted machine: the run of one, and the ranges named
  pub accepted_one : step_verdict m img (pc r) ≡ (Ok tt) → {v : RunOf} → v ≡ run_from 1 img rs (Ok event.Instruction) 0 r xs m → {p : Permits} → p ≡ permits_of img r.a r.core xs rs → strip p v ≡ step_of img r xs rs m
  accepted_one e {v} is {p} named =
      let w = one_of img r xs rs m in
      let same : (step_of img r xs rs m).permits ≡ p = ap (λ (s : StepOf). s.permits) (accepted_step img r xs rs m e) ∙ accepted_permits _ _ w.ending w.registers w.memory ∙ sym named in
      ap (λ (x : Permits). strip x v) (sym same) ∙ ap (strip (step_of img r xs rs m).permits) is ∙ one_step

  module _ (x : Refusal) (e : step_verdict m img (pc r) ≡ Err x) where
    pub step_refused : step_of img r xs rs m ≡ stepped (Err (Refused x)) r xs m no_permits
    unfolding step_of
    step_refused = rw e

    pub run_refused : (n : ℕ) → run_of n img r xs rs m ≡ ran (Err (Refused x)) 0 r xs m
    unfolding run_of
    run_refused n = rw e

  pub run_accepted : (n : ℕ) → step_verdict m img (pc r) ≡ (Ok tt) → run_of n img r xs rs m ≡ run_from n img rs (Ok event.Instruction) 0 r xs m
  unfolding run_of
  run_accepted n e = rw e

  -- what the outcome says of the rules
  accepted_verdict : (ys : List ℕ) (p : Permits) (e : Result Event Stop) (q : Registers) (n : Memory) → verdict_in (accepted_by r xs m ys p e q n).outcome ≡ (Ok tt)
  accepted_verdict ys p (Ok e) q n = refl
  accepted_verdict ys p (Err s) q n = refl

  step_verdict_lem : verdict_in (step_of img r xs rs m).outcome ≡ step_verdict m img (pc r)
  unfolding step_of
  step_verdict_lem = by (step_verdict m img (pc r))
    where
      by : (v : Result ⊤ Refusal) → verdict_in (stepped_by img r xs rs m v).outcome ≡ v
      by (Err x) = refl
      by (Ok _) = let v = one_of img r xs rs m in accepted_verdict _ _ v.ending v.registers v.memory

  pub step_told : {o : Result Event Unmade} {q : Registers} {ys : List ℕ} {n : Memory} {p : Permits} → stepped o q ys n p ≡ step_of img r xs rs m → Exactly (StepSays m img (pc r)) (verdict_in o)
  step_told {o} e = (step_exactly m img (pc r) (verdict_in o) (ap (λ (s : StepOf). verdict_in s.outcome) e ∙ step_verdict_lem)).1

-- an ending is that of an accepted machine
pub ending_verdict : (e : Result Event Stop) {o : Result Event Unmade} → o ≡ outcome_of e → verdict_in o ≡ (Ok tt)
ending_verdict (Ok e) h = rw h
ending_verdict (Err s) h = rw h

-- a refused run leaves all as it was
pub refused_keeps_lem : (r : Registers) (xs : List ℕ) (m : Memory) (x : Refusal) → RefusedKeeps r xs m (ran (Err (Refused x)) 0 r xs m)
refused_keeps_lem r xs m x y p = ap (λ (o : Result Event Unmade). ran o 0 r xs m) p

-- and the outcome of an accepted one is no refusal
pub not_refused : (e : Result Event Stop) {o : Result Event Unmade} → o ≡ outcome_of e → (x : Refusal) → o ≡ Err (Refused x) → ⊥
not_refused (Ok e) h x p = let z : ◌≡◌ {A = ℕ} 0 1 = cc in omega arith
not_refused (Err s) h x p = let z : ◌≡◌ {A = ℕ} 0 1 = cc in omega arith
