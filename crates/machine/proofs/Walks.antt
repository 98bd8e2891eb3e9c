-- Instructions of a span, one after the other.
-- Assumes nothing.
use Rattle.std.proofs.Common.{◌≡◌, ℕ, suc, ◌+◌, ◌-◌, ◌*◌, ◌%◌, ◌^◌, ◌<◌, ◌≤◌, Bool, true, false, List, sym, refl, ap, ◌∙◌, subst, arith}
use Rattle.words.proofs.Truth.{never}
use Rattle.memory.specs.Memory.{Memory}
use Rattle.registers.specs.Registers.{pc, icr}
use Rattle.registers.specs.declared.Registers.{Registers}
use Rattle.events.specs.declared.event.Event.{Event}
use Rattle.events.specs.declared.event.Event.TheVariants as event
use Rattle.events.specs.declared.event.Stop.{Stop}
use Rattle.protection.specs.declared.range.Range.{Range}
use Rattle.interrupts.specs.Sources.{best_of, takes}
use Rattle.image.proofs.Addresses.{after_none}
use Rattle.image.specs.Rest.{IndexSays}
use Rattle.image.specs.Fetch.{next_after, instruction_at}
use Rattle.image.specs.declared.fetch.Instruction.{Instruction}
use Rattle.entries.specs.Entry.{MadeOf}
use Rattle.acts.specs.Acts.{control_of}
use Rattle.acts.specs.declared.Control.{Control}
use Rattle.acts.proofs.Steadiness.{same_control}
use Rattle.execute.specs.Execute.{execute_of}
use Rattle.execute.specs.Executed.{ending_of, is_steady, stays_steady}
use Rattle.execute.specs.declared.Executed.{Executed}
use Rattle.execute.specs.declared.Executed.TheVariants as executed
use Rattle.decisions.specs.Decision.{one_of, requests_of}
use Rattle.decisions.proofs.Beginnings.{fetched_step, quiet_one, quiet_requests}
use Rattle.machine.specs.Run.{run_from}
use Rattle.spans.specs.Spans.{begin, EndsAt}
use Rattle.spans.proofs.Holds.{Lies, SpanHolds, IndexIn, PlaceIn}
use Rattle.machine.specs.Inner.{Ready, paced, paced_after, Paces}
use Rattle.spans.specs.declared.Span.{Span}
use Rattle.machine.proofs.Turns.{ready_next, run_made, run_stopped, run_last}
use Rattle.spans.proofs.Spans.{in_span, span_steady, index_by, counted_long, next_begins, long_four}
use Rattle.std.specs.Prelude.{Err, Ok, Result}
use Rattle.machine.specs.declared.answer.Unmade.{Unmade}

module _ (n : ℕ) (img : List ℕ) (rs : List Range) (r₀ : Registers) (m₀ : Memory) where
  -- no interrupt is taken before the first step
  abbrev Quiet : List ℕ → Type 0
  Quiet xs = takes (icr r₀) (best_of xs).level ≡ false

  -- before an instruction, with `left` steps to make
  pub record Stands (left : ℕ) (r : Registers) (m : Memory) : Type 0 where
    pub same : icr r ≡ icr r₀
    pub some : 0 < left
    pub most : left ≤ n
    pub ready : (xs : List ℕ) → Quiet xs → Ready img r m
    pub run : (xs : List ℕ) → Quiet xs → (x last : Result Event Unmade) (k : ℕ) → run_from left img rs x (k + (n - left)) r xs m ≡ run_from n img rs last k r₀ xs m₀

  pub stands_first : 0 < n → Ready img r₀ m₀ → Stands n r₀ m₀
  stands_first h y =
      record {
        same = refl;
        some = h;
        most = omega arith;
        ready = λ xs q. y;
        run = λ xs q x last k. let z : k + (n - n) ≡ k = omega arith in rw z (run_last n img rs x last k r₀ xs m₀ h);
      }

  -- ---- after the instruction
  module _ {left : ℕ} {r : Registers} {m : Memory} (t : Stands left r m) {v : MadeOf} (is : v ≡ fetched_step img r rs m) where
    one : (xs : List ℕ) → Quiet xs → v ≡ one_of img r xs rs m
    one xs q = is ∙ quiet_one img r rs m xs (rw t.same q)

    requests : (xs : List ℕ) → Quiet xs → requests_of img r xs rs ≡ xs
    requests xs q = quiet_requests img r rs m xs (rw t.same q)

    ready : (xs : List ℕ) → Quiet xs → Ready img v.registers v.memory
    ready xs q = ready_next (t.ready xs q) xs rs v (one xs q)

    before : left ≡ suc (left - 1)
    before = let h = t.some in omega arith

    stopped : (s : Stop) → v.ending ≡ Err s → Paces n img rs r₀ m₀ (paced (Err s) left) v.registers v.memory
    stopped s e =
        record {
          most = t.most;
          some = λ f z. absurd (let y : ◌≡◌ {A = ℕ} 0 1 = cc in omega arith);
          ready = ready;
          run = λ xs q last k.
              run_stopped (t.ready xs q) xs rs v (one xs q) (left - 1) (k + (n - left)) (Ok last) s e
              ∙ subst (λ (l : ℕ). run_from l img rs (Ok last) (k + (n - left)) r xs m ≡ run_from n img rs (Ok last) k r₀ xs m₀) before (t.run xs q (Ok last) (Ok last) k);
        }

    -- a step made, and the run from there
    onward : (f : Event) → v.ending ≡ Ok f → (xs : List ℕ) → Quiet xs → (last : Result Event Unmade) (k : ℕ)
        → run_from (left - 1) img rs (Ok f) (k + (n - (left - 1))) v.registers xs v.memory ≡ run_from n img rs last k r₀ xs m₀
    onward f e xs q last k =
        let h = t.some in
        let l = t.most in
        let z : k + (n - left) + 1 ≡ k + (n - (left - 1)) = omega arith in
        let step = rw (requests xs q, z) at (run_made (t.ready xs q) xs rs v (one xs q) (left - 1) (k + (n - left)) last f e) in
        step ∙ subst (λ (l : ℕ). run_from l img rs last (k + (n - left)) r xs m ≡ run_from n img rs last k r₀ xs m₀) before (t.run xs q last last k)

    made_one : (f : Event) → v.ending ≡ Ok f → Paces n img rs r₀ m₀ (paced (Ok f) (left - 1)) v.registers v.memory
    made_one f e =
        let h = t.some in
        let l = t.most in
        record {
          most = omega arith;
          some = λ g z. omega arith;
          ready = ready;
          run = λ xs q last k. onward f e xs q (Ok last) k;
        }

    -- it stopped, or some steps end with it
    pub ends_stopped : (x : Result Event Stop) → v.ending ≡ x → (s : Stop) → x ≡ Err s → Paces n img rs r₀ m₀ (paced x left) v.registers v.memory
    ends_stopped x e s f = rw f (stopped s (e ∙ f))

    pub ends_made : (x : Result Event Stop) → v.ending ≡ x → (f : Event) → x ≡ Ok f → Paces n img rs r₀ m₀ (paced x (left - 1)) v.registers v.memory
    ends_made x e f g = rw g (made_one f (e ∙ g))

    pub ends_after : Paces n img rs r₀ m₀ (paced_after v.ending left) v.registers v.memory
    ends_after = by v.ending refl
      where
        by : (x : Result Event Stop) → v.ending ≡ x → Paces n img rs r₀ m₀ (paced_after x left) v.registers v.memory
        by (Ok f) e = made_one f e
        by (Err s) e = stopped s e

    -- or there are more
    pub stands_next : v.ending ≡ Ok event.Instruction → icr v.registers ≡ icr r → 0 < left - 1 → Stands (left - 1) v.registers v.memory
    stands_next e i h =
        let l = t.most in
        record {
          same = i ∙ t.same;
          some = h;
          most = omega arith;
          ready = ready;
          run = λ xs q x last k. run_last (left - 1) img rs x (Ok event.Instruction) (k + (n - (left - 1))) v.registers xs v.memory h ∙ onward event.Instruction e xs q last k;
        }

  -- ---- in a span
  module _ (long : Bool) (s : Span) where
    pub record Walk (left k : ℕ) (r : Registers) (m : Memory) : Type 0 where
      pub stands : Stands left r m
      pub span : SpanHolds img long r.core rs s
      pub inside : k < s.records
      pub at : pc r ≡ begin img s k

    pub walk_first : 0 < n → Ready img r₀ m₀ → SpanHolds img long r₀.core rs s × (s.from ≡ pc r₀) → Walk n 0 r₀ m₀
    walk_first h y (p, e) = record { stands = stands_first h y; span = p; inside = p.spans.some; at = sym e ∙ sym (after_none img s.at s.from) }

    pub walk_is : {left k : ℕ} {r : Registers} {m : Memory} → Walk left k r m → {i : Instruction} → i ≡ instruction_at img (s.at + 8 * k) (pc r) → {v : MadeOf} → v ≡ execute_of i r rs m → v ≡ fetched_step img r rs m
    walk_is {left} {k} {r} {m} t e h = h ∙ ap (λ (i : Instruction). execute_of i r rs m) e ∙ in_span r t.span k t.inside t.at m

    pub walk_next : {left k : ℕ} {r : Registers} {m : Memory} → Walk left k r m → {v : MadeOf} → v ≡ fetched_step img r rs m → (x : Executed) → v.ending ≡ ending_of x → is_steady x ≡ true → is_steady x ≡ stays_steady (ending_of x) r v.registers → 0 < left - 1
        → (j : ℕ) → IndexIn img s (pc v.registers) j → j < s.records → Walk (left - 1) j v.registers v.memory
    walk_next {left} {k} {r} {m} t {v} is executed.Steady e z x h j i l =
        let p = t.span in
        let y = same_control (control_of r.core) (control_of v.registers.core) (sym x) in
        record {
          stands = stands_next t.stands is e (ap (λ (c : Control). c.icr) y) h;
          span = span_steady r p v.registers (record { same = y });
          inside = l;
          at = i l;
        }
    walk_next t is (executed.Ended y) e z x h j i l = absurd (never (sym z))

    -- the record at byte at + 8 * k is the walk's, and `next` the address after it. Among long ones k is its index; otherwise it is 0, and `after` is that address too
    pub record Goes (left at k next after : ℕ) (r : Registers) (m : Memory) : Type 0 where
      pub index : ℕ
      pub walk : Walk left index r m
      pub stands : at + 8 * k ≡ s.at + 8 * index
      pub next_is : next ≡ next_after img (at + 8 * k) (pc r)
      pub by_index : long ≡ true → at ≡ s.at
      pub by_record : long ≡ false → EndsAt img s at after

    pub goes_first : {next : ℕ} → (w : Walk n 0 r₀ m₀) → next ≡ next_after img s.at s.from → Goes n s.at 0 next next r₀ m₀
    goes_first {next} w e =
        let z : s.at + 8 * 0 ≡ s.at = omega arith in
        let first = sym (after_none img s.at s.from) in
        let b = rw z at (next_begins img s w.span.lies 0 s.from w.inside first) in
        record {
          index = 0;
          walk = w;
          stands = refl;
          next_is = rw (z, w.at, ← first) e;
          by_index = λ _. refl;
          by_record = λ _. (0, w.inside, sym z, e ∙ b);
        }

    pub goes_read : {left at k next after : ℕ} {r : Registers} {m : Memory} (g : Goes left at k next after r m) {i : Instruction}
        → ((p : ℕ) → next ≡ next_after img (at + 8 * k) p → i ≡ instruction_at img (at + 8 * k) p) → i ≡ instruction_at img (s.at + 8 * g.index) (pc r)
    goes_read {r = r} g f = rw g.stands at (f (pc r) g.next_is)

    -- a record of an index, among long ones
    pub goes_index : {left at k next after j : ℕ} {r : Registers} {m : Memory} → Goes left at k next after r m → {q : Registers} {w : Memory} {l then : ℕ} → j < s.long
        → (IndexSays s.from (pc q) j) → (((j < s.records) → IndexIn img s (pc q) j → Walk l j q w)) → then ≡ (pc q + 4) % 2 ^ 32 → Goes l at j then after q w
    goes_index {j = j} g {q} h i f e =
        let y = g.walk.span.lies in
        let c = counted_long img s y j h in
        let b = g.by_index c.0 in
        record {
          index = j;
          walk = f c.1 (index_by img s y c.0 (pc q) j i);
          stands = rw b;
          next_is = rw (b, long_four img s y c.0 j c.1) e;
          by_index = g.by_index;
          by_record = λ t. absurd (never (sym c.0 ∙ t));
        }

    -- a record at a byte, among others
    pub goes_place : {at next : ℕ} {q : Registers} {w : Memory} {l : ℕ} → Lies img long s → (long ≡ true → at ≡ s.end) → at < s.end → PlaceIn img s (pc q) at
        → ((k : ℕ) → k < s.records → IndexIn img s (pc q) k → Walk l k q w) → next ≡ next_after img at (pc q) → Goes l at 0 next next q w
    goes_place {at} {next} {q} {w} {l} y b h p f e =
        let (k, i, st, x) = p h in
        let z : at + 8 * 0 ≡ at = omega arith in
        record {
          index = k;
          walk = f k i (λ _. x);
          stands = z ∙ st;
          next_is = rw z e;
          by_index = λ t. absurd (let o = b t in omega arith);
          by_record = λ t. (k, i, st, e ∙ rw st (next_begins img s y k (pc q) i x));
        }
