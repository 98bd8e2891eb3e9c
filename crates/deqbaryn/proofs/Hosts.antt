-- The calls of the host library from the machine's own: a record of another length, and one of 616 bytes.
-- Assumes nothing.
use Prim.Native.Nat.{ℕ, ◌^◌, ◌<◌}
use native.Mathlib.Omega.{arith}
use mathlib.Core.Path.{◌≡◌, refl, sym, ap, subst, ◌∙◌}
use mathlib.Core.Bool.{Bool, true, false, cond}
use mathlib.Core.List.{List}
use lib.ListN.{length, get_or}
use borrow.Author.Tests.{eq-eqb, ne_eqb}
use Rattle.memory.specs.Memory.{Memory}
use Rattle.registers.specs.Registers.{pc, fcx, pcxi}
use Rattle.registers.specs.declared.Registers.{Registers}
use Rattle.protection.specs.declared.range.Range.{Range}
use Rattle.words.specs.Exactly.{Exactly}
use Rattle.inputs.specs.Checks.{start_verdict}
use Rattle.inputs.specs.Rules.{StepSays, StartSays}
use Rattle.decisions.specs.Valid.{Words}
use Rattle.machine.specs.Step.{verdict_in, StepOf, stepped, step_of}
use Rattle.machine.specs.Run.{RunOf, ran, run_of, RefusedKeeps}
use Rattle.machine.proofs.Unmade.{Unmoved, unmoved, none_made}
use Rattle.permits.specs.declared.Permits.{Permits}
use Rattle.series.specs.Calls.{state}
use Rattle.records.specs.CoreRecord.{registers_in, requests_in, ranges_of, stored_in}
use Rattle.records.proofs.Kept.{stored_kept, registers_back}
use Rattle.answers.specs.Answers.{packed_of, permits_number, outcome_answer, wrong_length, verdict_answer}
use Rattle.deqbaryn.specs.Host.{is_record, start_answer, StartTells, Called, called, step_stored, run_stored, step_call, StepTells, StepHolds, run_on, run_called, run_call, RunTells, RunHolds, UnmadeKeeps}
use Rattle.deqbaryn.specs.Calls.{HostFollows, AcceptedFollows}
use Rattle.std.specs.Prelude.{Err, Ok, Result, ⊤}
use Rattle.inputs.specs.declared.verdict.Refusal.{Refusal}
use Rattle.events.specs.declared.event.Event.{Event}
use Rattle.machine.specs.declared.answer.Unmade.{Unmade}
use Rattle.machine.specs.declared.answer.Unmade.TheVariants.{Refused, Stopped}

-- only a start that is accepted is answered so
accepted : (v : Result ⊤ Refusal) → verdict_answer v ≡ verdict_answer (Ok tt) → v ≡ (Ok tt)
unfolding packed_of
accepted (Ok _) e = refl
accepted (Err x) e = absurd (omega arith)

wrong_differs : wrong_length ≡ verdict_answer (Ok tt) → ⊥
unfolding packed_of
wrong_differs e = omega arith

-- ---- what is stored is read back
module _ (bytes : List ℕ) (l : length bytes ≡ 616) (q : Registers) (w : Words 16 q.d × Words 16 q.a × Words 10 q.core) (ys : List ℕ) where
  back : registers_in (stored_in q ys bytes) ≡ q
  back = registers_back q ys bytes l (w.0.size, w.0.each) (w.1.size, w.1.each) (w.2.size, w.2.each)

  module _ {r : Registers} (reg : r ≡ registers_in bytes) (xs : List ℕ) (m after : Memory) where
    pub step_stored_lem : (img : List ℕ) (rs : List Range) (o : Result Event Unmade) (p : Permits) → Unmoved img r xs rs m o (stepped o q ys after p) → registers_in (step_stored o q ys bytes) ≡ q
    step_stored_lem img rs (Ok e) p u = back
    step_stored_lem img rs (Err (Stopped x)) p u = sym (u.registers ∙ reg)
    step_stored_lem img rs (Err (Refused x)) p u = sym (u.registers ∙ reg)

    pub run_stored_lem : (o : Result Event Unmade) (made : ℕ) → RefusedKeeps r xs m (ran o made q ys after) → registers_in (run_stored o q ys bytes) ≡ q
    run_stored_lem (Ok e) made u = back
    run_stored_lem (Err (Stopped x)) made u = back
    run_stored_lem (Err (Refused x)) made u = sym (ap (λ (v : RunOf). v.registers) (u x refl) ∙ reg)

module _ (bytes : List ℕ) (m : Memory) (img : List ℕ) where
  -- ---- a record of another length
  module _ (w : length bytes ≡ 616 → ⊥) {n : ℕ} (is : n ≡ wrong_length) where
    pub start_wrong : (n ≡ start_answer bytes m img) × (StartTells bytes m img n × AcceptedFollows bytes m n)
    start_wrong = (rw (ne_eqb (length bytes) 616 w) is, (λ l. absurd (w l), λ e. absurd (wrong_differs (sym is ∙ e))))

    pub step_wrong : (called n bytes m ≡ step_call bytes m img) × (StepTells bytes m img × StepHolds bytes m img bytes)
    step_wrong = (rw (ne_eqb (length bytes) 616 w, is), (λ l. absurd (w l), λ l. absurd (w l)))

    pub run_wrong : (k : ℕ) → (called n bytes m ≡ run_call k bytes m img) × RunTells k bytes m img × RunHolds k bytes m img bytes
    run_wrong k = (rw (ne_eqb (length bytes) 616 w, is), λ l. absurd (w l), λ l. absurd (w l))

  -- ---- a record, with what is read from it
  module _ (l : length bytes ≡ 616) {r : Registers} (reg : r ≡ registers_in bytes) where
    pub start_right : {v : Result ⊤ Refusal} {n : ℕ} → v ≡ start_verdict m img (pc r) (fcx r) (pcxi r) → Exactly (StartSays m img (pc r) (fcx r) (pcxi r)) v → (v ≡ (Ok tt) → HostFollows (state r m)) → n ≡ verdict_answer v
        → (n ≡ start_answer bytes m img) × (StartTells bytes m img n × AcceptedFollows bytes m n)
    start_right {v} said x follows is =
        (rw (eq-eqb (length bytes) 616 l, ← reg) (is ∙ ap verdict_answer said), (λ _. record { answer = v; number = is; exactly = rw (← reg) x }, λ e. rw (← reg) (follows (accepted v (sym is ∙ e)))))

    module _ {xs : List ℕ} (req : xs ≡ requests_in bytes) {rs : List Range} (rng : rs ≡ ranges_of bytes) {o : Result Event Unmade} {q : Registers} {ys : List ℕ} {after : Memory} where
      module _ {p : Permits} (s : stepped o q ys after p ≡ step_of img r xs rs m) {core : List ℕ} (is : core ≡ step_stored o q ys bytes) where
        step_called_lem : {n : ℕ} → n ≡ outcome_answer o (permits_number p) 0 → called n core after ≡ step_call bytes m img
        step_called_lem e = rw (eq-eqb (length bytes) 616 l, ← reg, ← req, ← rng, ← s, is, e)

        step_holds : Words 16 q.d × Words 16 q.a × Words 10 q.core → StepHolds bytes m img core
        step_holds w _ =
            rw (← reg, ← req, ← rng, ← s, is)
            (step_stored_lem bytes l q w ys reg xs m after img rs o p (subst (λ (v : StepOf). Unmoved img r xs rs m v.outcome v) (sym s) (unmoved img r xs rs m)))

        pub step_right : Words 16 q.d × Words 16 q.a × Words 10 q.core → Exactly (StepSays m img (pc r)) (verdict_in o) → {n : ℕ} → n ≡ outcome_answer o (permits_number p) 0
            → (called n core after ≡ step_call bytes m img) × (StepTells bytes m img × StepHolds bytes m img core)
        step_right w x e = (step_called_lem e, (λ _. rw (← reg, ← req, ← rng, ← s) x, step_holds w))

      module _ (k made : ℕ) (s : ran o made q ys after ≡ run_of k img r xs rs m) where
        run_holds : Words 16 q.d × Words 16 q.a × Words 10 q.core → RefusedKeeps r xs m (ran o made q ys after)
            → {core : List ℕ} → core ≡ run_stored o q ys bytes → RunHolds k bytes m img core
        run_holds w u is _ = rw (← reg, ← req, ← rng, ← s, is) (run_stored_lem bytes l q w ys reg xs m after o made u)

        pub run_right : Words 16 q.d × Words 16 q.a × Words 10 q.core → RefusedKeeps r xs m (ran o made q ys after)
            → Exactly (StepSays m img (pc r)) (verdict_in o) → {core : List ℕ} → core ≡ run_stored o q ys bytes → {n : ℕ} → n ≡ outcome_answer o 0 made
            → (called n core after ≡ run_call k bytes m img) × RunTells k bytes m img × RunHolds k bytes m img core
        run_right w u x is e =
            (rw (eq-eqb (length bytes) 616 l, ← reg, ← req, ← rng, ← s, is, e), λ _. rw (← reg, ← req, ← rng, ← s) x, run_holds w u is)

  -- ---- a run of which no step is made
  module _ (b : (j : ℕ) → get_or bytes j 0 < 2 ^ 8) where
    stored : (o : Result Event Unmade) → run_stored o (registers_in bytes) (requests_in bytes) bytes ≡ bytes
    stored (Ok e) = stored_kept bytes b
    stored (Err (Stopped s)) = stored_kept bytes b
    stored (Err (Refused x)) = refl

    pub run_kept : (k : ℕ) {n : ℕ} {core : List ℕ} {after : Memory} → called n core after ≡ run_call k bytes m img → UnmadeKeeps k bytes m img core after
    run_kept k is z = let h = by (is_record bytes) in (ap (λ (x : Called). x.core) is ∙ h.0, ap (λ (x : Called). x.memory) is ∙ h.1)
      where
        by : (t : Bool) → (let x = cond t (run_called (run_on k bytes m img) bytes) (called wrong_length bytes m) in (x.core ≡ bytes) × (x.memory ≡ m))
        by true =
            let l = none_made img (registers_in bytes) (requests_in bytes) (ranges_of bytes) m k z in
            (rw (l.registers, l.requests) (stored (run_on k bytes m img).outcome), l.memory)
        by false = (refl, refl)
