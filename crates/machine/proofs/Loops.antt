-- The run's loop: interrupts, and instructions between them.
-- Assumes nothing.
use Rattle.std.proofs.Common.{◌≡◌, ℕ, suc, ◌+◌, ◌-◌, ◌<◌, ◌≤◌, Bool, true, false, cond, not, ◌&&◌, eqb, ◌⊎◌, List, sym, refl, ap, ◌∙◌, subst, inl, inr, ⊎_elim, arith, eq-eqb, ne_eqb, eqb-true}
use Rattle.words.proofs.Truth.{never}
use Rattle.memory.specs.Memory.{Memory}
use Rattle.fields.specs.Icr.{icr_ie}
use Rattle.registers.specs.Registers.{icr}
use Rattle.registers.specs.declared.Registers.{Registers}
use Rattle.events.specs.declared.event.Event.{Event}
use Rattle.events.specs.declared.event.Event.TheVariants as event
use Rattle.events.specs.declared.event.Stop.{Stop}
use Rattle.protection.specs.declared.range.Range.{Range}
use Rattle.interrupts.specs.Sources.{best, best_of, takes, cleared_at}
use Rattle.interrupts.specs.declared.Best.{Best}
use Rattle.entries.specs.Entry.{MadeOf, enter_of}
use Rattle.entries.specs.declared.entry.Cause.TheVariants as cause
use Rattle.decisions.specs.Decision.{one_of}
use Rattle.decisions.proofs.Beginnings.{taken_one, taken_requests}
use Rattle.machine.specs.Run.{RunOf, ran, run_from}
use Rattle.machine.specs.Inner.{foremost_of, Ready, left_by, Paces}
use Rattle.machine.specs.declared.instructions.Paced.{Paced}
use Rattle.machine.proofs.Turns.{ready_next, run_made, run_stopped, run_end, off}
use Rattle.std.specs.Prelude.{Err, Ok}
use Rattle.machine.specs.declared.answer.Unmade.TheVariants.{Stopped}

-- ---- the source that n steps begin with, by cases
module _ (n icr : ℕ) (xs : List ℕ) where
  pub foremost_none : n ≡ 1 → icr_ie icr ≡ false → best 16 0 ≡ foremost_of n icr xs
  unfolding foremost_of
  foremost_none e f = rw (eq-eqb n 1 e, f)

  pub foremost_several : (n ≡ 1 → ⊥) → best_of xs ≡ foremost_of n icr xs
  unfolding foremost_of
  foremost_several d = rw (ne_eqb n 1 d)

  pub foremost_enabled : icr_ie icr ≡ true → best_of xs ≡ foremost_of n icr xs
  unfolding foremost_of
  foremost_enabled e = rw e (by (eqb n 1))
    where
      by : (b : Bool) → best_of xs ≡ cond (b && false) (best 16 0) (best_of xs)
      by true = refl
      by false = refl

  -- it is the best one, or none is taken
  foremost_is : (foremost_of n icr xs ≡ best_of xs) ⊎ ((n ≡ 1) × (icr_ie icr ≡ false))
  unfolding foremost_of
  foremost_is = by (eqb n 1) (icr_ie icr) refl refl
    where
      by : (b c : Bool) → eqb n 1 ≡ b → icr_ie icr ≡ c → (cond (b && not c) (best 16 0) (best_of xs) ≡ best_of xs) ⊎ ((n ≡ 1) × (icr_ie icr ≡ false))
      by false c e f = inl refl
      by true true e f = inl refl
      by true false e f = inr (eqb-true n 1 e, f)

-- ---- the run that is to be made: n steps from r₀, xs₀ and m₀
module _ (n : ℕ) (img : List ℕ) (rs : List Range) (r₀ : Registers) (xs₀ : List ℕ) (m₀ : Memory) where
  abbrev Whole : RunOf
  Whole = run_from n img rs (Ok event.Instruction) 0 r₀ xs₀ m₀

  -- with `left` steps to make
  pub record Turn (left : ℕ) (last : Event) (r : Registers) (xs : List ℕ) (m : Memory) (best : Best) : Type 0 where
    pub ready : Ready img r m
    pub best_is : (best ≡ best_of xs) ⊎ ((n ≡ 1) × (left ≡ n → icr_ie (icr r) ≡ false))
    pub most : left ≤ n
    pub run : run_from left img rs (Ok last) (n - left) r xs m ≡ run_from n img rs (Ok event.Instruction) 0 r₀ xs₀ m₀

  pub turn_first : (best : Best) → Ready img r₀ m₀ → best ≡ foremost_of n (icr r₀) xs₀ → Turn n event.Instruction r₀ xs₀ m₀ best
  turn_first best y b =
      record {
        ready = y;
        best_is = ⊎_elim (λ e. inl (b ∙ e)) (λ w. inr (w.0, λ e. w.1)) (foremost_is n (icr r₀) xs₀);
        most = omega arith;
        run = let z : n - n ≡ 0 = omega arith in rw z;
      }

  module _ {left : ℕ} {last : Event} {r : Registers} {xs : List ℕ} {m : Memory} {best : Best} (t : Turn left last r xs m best) (h : 0 < left) where
    -- the best source is known where it matters
    pub not_taken : takes (icr r) best.level ≡ false → takes (icr r) (best_of xs).level ≡ false
    not_taken p =
        ⊎_elim
        (λ e. rw (← e) p)
        (λ w. off (icr r) (best_of xs).level (w.1 (let l = t.most in omega (arith, w.0))))
        t.best_is

    is_best : takes (icr r) best.level ≡ true → best ≡ best_of xs
    is_best p =
        ⊎_elim
        (λ e. e)
        (λ w. absurd (never (sym p ∙ off (icr r) best.level (w.1 (let l = t.most in omega (arith, w.0))))))
        t.best_is

    before : left ≡ suc (left - 1)
    before = omega arith

    whole : run_from (suc (left - 1)) img rs (Ok last) (n - left) r xs m ≡ run_from n img rs (Ok event.Instruction) 0 r₀ xs₀ m₀
    whole = subst (λ (l : ℕ). run_from l img rs (Ok last) (n - left) r xs m ≡ run_from n img rs (Ok event.Instruction) 0 r₀ xs₀ m₀) before t.run

    -- ---- an interrupt
    module _ (p : takes (icr r) best.level ≡ true) {v : MadeOf} (is : v ≡ enter_of (cause.Interrupt best.source best.level) r m) where
      taken : takes (icr r) (best_of xs).level ≡ true
      taken = rw (← is_best p) p

      one : v ≡ one_of img r xs rs m
      one = is ∙ ap (λ (b : Best). enter_of (cause.Interrupt b.source b.level) r m) (is_best p) ∙ taken_one img r rs m xs taken

      pub turn_interrupt : (e : Event) → v.ending ≡ Ok e → (ys : List ℕ) → ys ≡ cleared_at xs best.source → (best' : Best) → best' ≡ best_of ys → Turn (left - 1) e v.registers ys v.memory best'
      turn_interrupt e f ys y best' b =
          let l = t.most in
          let z : n - left + 1 ≡ n - (left - 1) = omega arith in
          let q = y ∙ ap (λ (b : Best). cleared_at xs b.source) (is_best p) ∙ taken_requests img r rs m xs taken in
          record {
            ready = ready_next t.ready xs rs v one;
            best_is = inl b;
            most = omega arith;
            run = rw (← z, q) (run_made t.ready xs rs v one (left - 1) (n - left) (Ok last) e f) ∙ whole;
          }

      pub stop_interrupt : (s : Stop) → v.ending ≡ Err s → ran (Err (Stopped s)) (n - left) v.registers xs v.memory ≡ run_from n img rs (Ok event.Instruction) 0 r₀ xs₀ m₀
      stop_interrupt s f = run_stopped t.ready xs rs v one (left - 1) (n - left) (Ok last) s f ∙ whole

    -- ---- instructions
    module _ (p : takes (icr r) best.level ≡ false) {x : Paced} {q : Registers} {w : Memory} (a : Paces left img rs r m x q w) where
      made : n - left + (left - x.left) ≡ n - x.left
      made = let l = t.most in let k = a.most in omega arith

      rest : left_by x.ending x.left img rs (n - x.left) q xs w ≡ run_from n img rs (Ok event.Instruction) 0 r₀ xs₀ m₀
      rest = rw made at (a.run xs (not_taken p) last (n - left)) ∙ t.run

      pub turn_instructions : (e : Event) → x.ending ≡ Ok e → Turn x.left e q xs w best
      turn_instructions e f =
          let l = t.most in
          let k = a.some e f in
          record {
            ready = a.ready xs (not_taken p);
            best_is = ⊎_elim inl (λ b. inr (b.0, λ z. absurd (omega arith))) t.best_is;
            most = omega arith;
            run = rw f at rest;
          }

      pub stop_instructions : (s : Stop) → x.ending ≡ Err s → ran (Err (Stopped s)) (n - x.left) q xs w ≡ run_from n img rs (Ok event.Instruction) 0 r₀ xs₀ m₀
      stop_instructions s f = rw f at rest

  pub turn_end : {left : ℕ} {last : Event} {r : Registers} {xs : List ℕ} {m : Memory} {best : Best} → Turn left last r xs m best → left ≡ 0 → ran (Ok last) n r xs m ≡ run_from n img rs (Ok event.Instruction) 0 r₀ xs₀ m₀
  turn_end {left} {last} {r} {xs} {m} t e =
      let z : n ≡ n - 0 = omega arith in
      ap (λ (k : ℕ). ran (Ok last) k r xs m) z ∙ run_end img rs (Ok last) (n - 0) r xs m ∙ (rw e at t.run)
