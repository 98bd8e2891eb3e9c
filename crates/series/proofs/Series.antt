-- Steps, runs and calls, one after the other.
-- Assumes nothing.
use Prim.Native.Nat.{ℕ, zero, suc, ◌+◌}
use mathlib.Core.Path.{◌≡◌, refl, subst}
use mathlib.Core.Bool.{false}
use mathlib.Core.List.{List, [], ◌∷◌, ◌++◌}
use Rattle.memory.specs.Memory.{Memory}
use Rattle.registers.specs.Registers.{pc}
use Rattle.registers.specs.declared.Registers.{Registers}
use Rattle.protection.specs.declared.range.Range.{Range}
use Rattle.fields.specs.declared.link.Link.{Link}
use Rattle.events.specs.declared.event.Event.TheVariants as event
use Rattle.entries.specs.Entry.{MadeOf}
use Rattle.inputs.specs.Checks.{step_verdict}
use Rattle.decisions.specs.Heads.{step_heads}
use Rattle.execute.specs.Decision.{Decision}
use Rattle.decisions.specs.Decision.{one_of}
use Rattle.decisions.proofs.Decides.{decision_sound}
use Rattle.decisions.proofs.Steps.{Kept, one_kept}
use Rattle.permits.specs.Permits.{no_permits}
use Rattle.permits.specs.declared.Permits.{Permits}
use Rattle.machine.specs.Step.{StepOf, stepped, accepted_by}
use Rattle.machine.specs.Run.{RunOf, onward, run_from, run_of}
use Rattle.machine.proofs.Turns.{accepted_step}
use Rattle.machine.proofs.Singles.{step_refused, run_refused, run_accepted}
use Rattle.series.specs.Abstract.{AbstractLists, list_move_of, moved}
use Rattle.series.specs.Calls.{Image, Kind, step, run, Call, State, state, after_step, after_run, after_kind, after, after_all, Args, args, step_at, only_made, run_args, kind_args, all_args}
use Rattle.series.specs.Conditions.{verdict_at, decision_at, move_by, moved_at, moved_all, QuietBy, AllQuiet}
use Rattle.series.specs.Claim.{RestoredBy, StopsBy, StepBy, EachStep}
use Rattle.series.proofs.Invariant.{Inv}
use Rattle.series.proofs.Steps.{Moves, decision_moves}
use Rattle.std.specs.Prelude.{Err, Ok, Result, ⊤}
use Rattle.inputs.specs.declared.verdict.Refusal.{Refusal}
use Rattle.events.specs.declared.event.Event.{Event}
use Rattle.events.specs.declared.event.Stop.{Stop}
use Rattle.machine.specs.declared.answer.Unmade.TheVariants.{Refused, Stopped}
use Rattle.machine.specs.declared.answer.Unmade.{Unmade}

-- ---- a step
module _ (L : List Link) (a : Args) (b : AbstractLists) where
  abbrev r : Registers
  r = a.registers

  abbrev m : Memory
  m = a.memory

  pub record Turned (v : Result ⊤ Refusal) (now : AbstractLists) : Type 0 where
    pub inv : Inv L (after_step (step_at a)) now
    pub restored : StepBy v a b
    pub stops : StopsBy (step_at a).outcome b now

  moved_is : (v : Result ⊤ Refusal) → verdict_at a ≡ v → moved_at a b ≡ moved (move_by v a) b
  unfolding moved_at
  moved_is v e = rw e

  -- what an accepted step comes to
  record Settled (d : Decision) (s : StepOf) (now : AbstractLists) : Type 0 where
    inv : Inv L (after_step s) now
    restored : RestoredBy d s.registers b
    stops : StopsBy s.outcome b now

  settled : (d : Decision) (ys : List ℕ) (p : Permits) (x : MadeOf) → Kept r m x → Moves L d r b x → Settled d (accepted_by r a.requests m ys p x.ending x.registers x.memory) (moved (list_move_of d r) b)
  settled d ys p x k z = by x.ending refl
    where
      by : (e : Result Event Stop) → x.ending ≡ e → Settled d (accepted_by r a.requests m ys p e x.registers x.memory) (moved (list_move_of d r) b)
      by (Ok e) h = record { inv = z.inv; restored = z.restores; stops = tt }
      by (Err y) h =
          record {
            inv = subst (λ (q : Registers). Inv L (state q m) (moved (list_move_of d r) b)) (k.leaves y h).0 (subst (λ (n : Memory). Inv L (state x.registers n) (moved (list_move_of d r) b)) (k.leaves y h).1 z.inv);
            restored = subst (λ (q : Registers). RestoredBy d q b) (k.leaves y h).0 z.restores;
            stops = z.stays y h;
          }

  pub step_turns : Inv L (state r m) b → QuietBy (verdict_at a) L a → Turned (verdict_at a) (moved_at a b)
  unfolding moved one_of
  step_turns i q = by (verdict_at a) refl q
    where
      by : (v : Result ⊤ Refusal) → verdict_at a ≡ v → QuietBy v L a → Turned v (moved_at a b)
      by (Err x) e k =
          let s : step_at a ≡ stepped (Err (Refused x)) r a.requests m no_permits = step_refused a.image.bytes r a.requests a.ranges m x e in
          record { inv = rw (moved_is (Err x) e, s) i; restored = tt; stops = rw (moved_is (Err x) e, s) refl }
      by (Ok tt) e k =
          let w = i.valid in
          let y = i.bytes in
          let d = decision_at a in
          let x = one_of a.image.bytes r a.requests a.ranges m in
          let z : Moves L d r b x = (decision_moves (step_heads a.image.bytes r a.requests a.ranges ≡ false) k.heads i d (decision_sound a.image.are w a.requests a.ranges m y) k.stores) in
          let t = settled d _ _ x (one_kept w m y a.image.are a.requests a.ranges) z in
          let s = accepted_step a.image.bytes r a.requests a.ranges m e in
          record {
            inv = rw (moved_is (Ok tt) e, s) t.inv;
            restored = rw s t.restored;
            stops = rw (moved_is (Ok tt) e, s) t.stops;
          }

-- ---- a run
-- a run that is refused is its first step, refused
pub run_state : (n : ℕ) (img : List ℕ) (r : Registers) (xs : List ℕ) (rs : List Range) (m : Memory) → after_run (run_of n img r xs rs m) ≡ after_run (run_from n img rs (Ok event.Instruction) 0 r xs m)
unfolding run_from
run_state n img r xs rs m = by (step_verdict m img (pc r)) refl n
  where
    by : (v : Result ⊤ Refusal) → step_verdict m img (pc r) ≡ v → (n : ℕ) → after_run (run_of n img r xs rs m) ≡ after_run (run_from n img rs (Ok event.Instruction) 0 r xs m)
    by (Ok _) e n = rw (run_accepted img r xs rs m n e)
    by (Err x) e zero = rw (run_refused img r xs rs m x e 0)
    by (Err x) e (suc n) = rw (run_refused img r xs rs m x e (suc n), step_refused img r xs rs m x e)

module _ (L : List Link) where
  pub run_turns : (n : ℕ) (img : Image) (rs : List Range) (last : Result Event Unmade) (k : ℕ) (r : Registers) (xs : List ℕ) (m : Memory) (b : AbstractLists) → Inv L (state r m) b → AllQuiet L (run_args n img rs r xs m)
      → Inv L (after_run (run_from n img.bytes rs last k r xs m)) (moved_all (run_args n img rs r xs m) b) × EachStep (run_args n img rs r xs m) b
  unfolding run_from run_args
  run_turns zero img rs last k r xs m b i q = (i, tt)
  run_turns (suc n) img rs last k r xs m b i q =
      let a = args img r xs rs m in
      let s = step_at a in
      let t = step_turns L a b i q.0 in
      let rest = run_args n img rs s.registers s.requests s.memory in
      let next = run_from n img.bytes rs s.outcome (k + 1) s.registers s.requests s.memory in
      let u = by s (moved_at a b) rest next t.inv (run_turns n img rs s.outcome (k + 1) s.registers s.requests s.memory (moved_at a b) t.inv) s.outcome q.1 in
      (u.0, (t.restored, t.stops, u.1))
    where
      by : (s : StepOf) (now : AbstractLists) (rest : List Args) (next : RunOf) → Inv L (after_step s) now → (AllQuiet L rest → Inv L (after_run next) (moved_all rest now) × EachStep rest now)
          → (o : Result Event Unmade) → AllQuiet L (only_made o rest) → Inv L (after_run (onward o k s next)) (moved_all (only_made o rest) now) × EachStep (only_made o rest) now
      by s now rest next i f (Ok e) h = f h
      by s now rest next i f (Err (Stopped x)) h = (i, tt)
      by s now rest next i f (Err (Refused x)) h = (i, tt)

  -- ---- a call
  kind_turns : (k : Kind) (c : Call) (s : State) (b : AbstractLists) → Inv L s b → AllQuiet L (kind_args k c s) → Inv L (after_kind k c s) (moved_all (kind_args k c s) b) × EachStep (kind_args k c s) b
  kind_turns step c s b i q =
      let t = step_turns L (args c.image s.registers c.requests c.ranges s.memory) b i q.0 in (t.inv, (t.restored, t.stops, tt))
  kind_turns (run n) c s b i q =
      let t = run_turns n c.image c.ranges (Ok event.Instruction) 0 s.registers c.requests s.memory b i q in
      (rw (run_state n c.image.bytes s.registers c.requests c.ranges s.memory) t.0, t.1)

  -- ---- a series
  quiet_left : (xs ys : List Args) → AllQuiet L (xs ++ ys) → AllQuiet L xs
  quiet_left [] ys q = tt
  quiet_left (x ∷ xs) ys q = (q.0, quiet_left xs ys q.1)

  quiet_right : (xs ys : List Args) → AllQuiet L (xs ++ ys) → AllQuiet L ys
  quiet_right [] ys q = q
  quiet_right (x ∷ xs) ys q = quiet_right xs ys q.1

  moved_both : (xs ys : List Args) (b : AbstractLists) → moved_all (xs ++ ys) b ≡ moved_all ys (moved_all xs b)
  moved_both [] ys b = refl
  moved_both (x ∷ xs) ys b = moved_both xs ys (moved_at x b)

  steps_both : (xs ys : List Args) (b : AbstractLists) → EachStep xs b → EachStep ys (moved_all xs b) → EachStep (xs ++ ys) b
  steps_both [] ys b p q = q
  steps_both (x ∷ xs) ys b p q = (p.0, p.1, steps_both xs ys (moved_at x b) p.2 q)

  pub series_turns : (cs : List Call) (s : State) (b : AbstractLists) → Inv L s b → AllQuiet L (all_args cs s) → Inv L (after_all cs s) (moved_all (all_args cs s) b) × EachStep (all_args cs s) b
  series_turns [] s b i q = (i, tt)
  series_turns (c ∷ cs) s b i q =
      let xs = kind_args c.kind c s in
      let ys = all_args cs (after c s) in
      let t = kind_turns c.kind c s b i (quiet_left xs ys q) in
      let u = series_turns cs (after c s) (moved_all xs b) t.0 (quiet_right xs ys q) in
      (rw (moved_both xs ys b) u.0, steps_both xs ys b t.1 u.1)
