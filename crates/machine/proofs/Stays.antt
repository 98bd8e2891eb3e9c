-- Over a step and a run registers stay words and bytes stay bytes; and a run that is accepted is not refused later.
-- Assumes nothing.
use Rattle.std.proofs.Common.{◌≡◌, ℕ, zero, suc, ◌+◌, List, refl, ap, ◌∙◌}
use Rattle.memory.specs.Memory.{Memory}
use Rattle.registers.specs.Registers.{pc}
use Rattle.registers.specs.declared.Registers.{Registers}
use Rattle.events.specs.declared.event.Event.{Event}
use Rattle.events.specs.declared.event.Event.TheVariants as event
use Rattle.protection.specs.declared.range.Range.{Range}
use Rattle.inputs.specs.Checks.{step_verdict}
use Rattle.inputs.specs.declared.verdict.Refusal.{Refusal}
use Rattle.decisions.specs.Decision.{one_of, requests_of}
use Rattle.decisions.specs.Valid.{Valid, Bytes}
use Rattle.permits.specs.declared.Permits.{Permits}
use Rattle.decisions.proofs.Steps.{one_kept}
use Rattle.machine.specs.Step.{StepOf, accepted_by, stepped_by, step_of}
use Rattle.machine.specs.Run.{RunOf, onward, run_from, run_by, run_of, RefusedKeeps}
use Rattle.machine.specs.Inner.{Ready}
use Rattle.machine.proofs.Turns.{ready_next, run_made, run_stopped}
use Rattle.machine.proofs.Singles.{run_refused, run_accepted, refused_keeps_lem, not_refused}
use Rattle.std.specs.Prelude.{Err, Ok, Result, ⊤}
use Rattle.events.specs.declared.event.Stop.{Stop}
use Rattle.machine.specs.declared.answer.Unmade.{Unmade}
use Rattle.machine.specs.declared.answer.Unmade.TheVariants.{Refused, Stopped}

-- registers are words, with PC even, and bytes are bytes
pub record InBounds (r : Registers) (m : Memory) : Type 0 where
  pub valid : Valid r
  pub bytes : Bytes m.bytes

module _ {img : List ℕ} (image : Bytes img) (rs : List Range) where
  -- ---- a step
  pub step_bounds : {r : Registers} {m : Memory} → InBounds r m → (xs : List ℕ) → (let s = step_of img r xs rs m in InBounds s.registers s.memory)
  unfolding step_of
  step_bounds {r} {m} h xs = by_verdict (step_verdict m img (pc r))
    where
      by_ending : (ys : List ℕ) (p : Permits) (e : Result Event Stop) (q : Registers) (n : Memory) → InBounds q n → (let s = accepted_by r xs m ys p e q n in InBounds s.registers s.memory)
      by_ending ys p (Ok e) q n k = k
      by_ending ys p (Err s) q n k = h

      by_verdict : (v : Result ⊤ Refusal) → (let s = stepped_by img r xs rs m v in InBounds s.registers s.memory)
      by_verdict (Ok tt) =
          let v = one_of img r xs rs m in
          let k = one_kept h.valid m h.bytes image xs rs in
          by_ending _ _ v.ending v.registers v.memory (record { valid = k.valid; bytes = k.bytes })
      by_verdict (Err x) = h

  -- ---- a run
  onward_bounds : (made : ℕ) (o : Result Event Unmade) (s : StepOf) (next : RunOf) → InBounds s.registers s.memory → InBounds next.registers next.memory
      → (let v = onward o made s next in InBounds v.registers v.memory)
  onward_bounds made (Ok e) s next a b = b
  onward_bounds made (Err (Stopped x)) s next a b = a
  onward_bounds made (Err (Refused x)) s next a b = a

  from_bounds : (n : ℕ) (last : Result Event Unmade) (made : ℕ) {r : Registers} {m : Memory} → InBounds r m → (xs : List ℕ) → (let v = run_from n img rs last made r xs m in InBounds v.registers v.memory)
  unfolding run_from
  from_bounds zero last made h xs = h
  from_bounds (suc n) last made {r} {m} h xs =
      let s = step_of img r xs rs m in
      let k = step_bounds h xs in
      onward_bounds made s.outcome s (run_from n img rs s.outcome (made + 1) s.registers s.requests s.memory) k (from_bounds n s.outcome (made + 1) k s.requests)

  pub run_bounds : (n : ℕ) {r : Registers} {m : Memory} → InBounds r m → (xs : List ℕ) → (let v = run_of n img r xs rs m in InBounds v.registers v.memory)
  unfolding run_of
  run_bounds n {r} {m} h xs = by (step_verdict m img (pc r))
    where
      by : (v : Result ⊤ Refusal) → (let w = run_by n img r xs rs m v in InBounds w.registers w.memory)
      by (Ok _) = from_bounds n (Ok event.Instruction) 0 h xs
      by (Err x) = h

  -- ---- no refusal after an accepted start
  from_accepted : (n : ℕ) (last : Event) (made : ℕ) {r : Registers} {m : Memory} → Ready img r m → (xs : List ℕ) (x : Refusal) → (run_from n img rs (Ok last) made r xs m).outcome ≡ Err (Refused x) → ⊥
  unfolding run_from
  from_accepted zero last made y xs x p = not_refused (Ok last) refl x p
  from_accepted (suc n) last made {r} {m} y xs x p =
      let v = one_of img r xs rs m in
      by v.ending refl (λ e. from_accepted n e (made + 1) (ready_next y xs rs v refl) (requests_of img r xs rs) x)
    where
      by : (d : Result Event Stop) → (one_of img r xs rs m).ending ≡ d
          → ((e : Event) → (run_from n img rs (Ok e) (made + 1) (one_of img r xs rs m).registers (requests_of img r xs rs) (one_of img r xs rs m).memory).outcome ≡ Err (Refused x) → ⊥) → ⊥
      by (Ok e) g next = next e (ap (λ (w : RunOf). w.outcome) (run_made y xs rs (one_of img r xs rs m) refl n made (Ok last) e g) ∙ p)
      by (Err s) g next = not_refused (Err s) refl x (ap (λ (w : RunOf). w.outcome) (run_stopped y xs rs (one_of img r xs rs m) refl n made (Ok last) s g) ∙ p)

  pub run_refuses : (n : ℕ) {r : Registers} {m : Memory} → InBounds r m → (xs : List ℕ) → RefusedKeeps r xs m (run_of n img r xs rs m)
  run_refuses n {r} {m} h xs = by (step_verdict m img (pc r)) refl
    where
      by : (v : Result ⊤ Refusal) → step_verdict m img (pc r) ≡ v → RefusedKeeps r xs m (run_of n img r xs rs m)
      by (Err x) e = rw (run_refused img r xs rs m x e n) (refused_keeps_lem r xs m x)
      by (Ok tt) e =
          rw (run_accepted img r xs rs m n e)
          (λ x p. absurd (from_accepted n event.Instruction 0 (record { accepted = e; image = image; valid = h.valid; bytes = h.bytes }) xs x p))
