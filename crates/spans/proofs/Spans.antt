-- Records that are fetched one after the other without a trap.
-- Assumes nothing.
use Rattle.std.proofs.Common.{◌≡◌, ℕ, ◌+◌, ◌-◌, ◌*◌, ◌%◌, ◌^◌, ◌<◌, ◌≤◌, min, Bool, true, false, cond, ◌&&◌, eqb, ltb, leb, ◌⊎◌, List, length, get_or, sym, refl, ap, ◌∙◌, subst, inl, inr, arith, ltb-true, le-ltb, lt-ltb, eq-eqb, ne_eqb, le-leb}
use native.Mathlib.Decide.{ℕ_discrete}
use lib.ListN.{get_or-eq_default}
use borrow.Author.Tests.{lt-leb}
use Rattle.words.proofs.Integers.{lt_or_ge}
use Rattle.words.proofs.Truth.{never, both_true}
use Rattle.fields.specs.Psw.{psw_prs}
use Rattle.fields.specs.Syscon.{syscon_proten}
use Rattle.memory.specs.Address.{as_address}
use Rattle.memory.specs.Memory.{Memory}
use Rattle.memory.specs.declared.address.Address.{Address}
use Rattle.registers.specs.Registers.{pc}
use Rattle.registers.specs.declared.Registers.{Registers}
use Rattle.events.specs.Traps.{CODE}
use Rattle.events.specs.declared.trap.Trap.{Trap}
use Rattle.protection.specs.Range.{no_range, lowest_of, PermittedBy, Lowest}
use Rattle.protection.specs.Access.{check_of}
use Rattle.protection.specs.declared.range.Range.{Range}
use Rattle.protection.specs.declared.range.Right.TheVariants.{Execute}
use Rattle.protection.proofs.Searches.{lowest_says, one_of_all, below_upper, onward}
use Rattle.protection.proofs.Checks.{unasked, allowed, same_check}
use Rattle.image.specs.Lengths.{length_of, address_after}
use Rattle.image.specs.Table.{entry_at}
use Rattle.image.specs.Records.{ImageHolds}
use Rattle.image.specs.Rest.{body_walk, rest_of, entry_of, IndexSays, Begins}
use Rattle.image.specs.Marks.{long_only, mark_entry, mark_index, slot_of}
use Rattle.image.specs.declared.marks.Guide.{Guide}
use Rattle.image.specs.Rules.{ImageRight}
use Rattle.image.specs.Fetch.{next_after, instruction_at, fetch_of}
use Rattle.image.specs.declared.fetch.Instruction.{Instruction}
use Rattle.image.specs.declared.fetch.Rest.{Rest}
use Rattle.image.specs.declared.fetch.InBody.{InBody}
use Rattle.image.proofs.Addresses.{after_none, after_low, after_high, after_rest, after_less, after_join, after_plus}
use Rattle.image.proofs.Walks.{Walked, nowhere, somewhere, walked, walk_at_lem, walk_before, turn_on, turn_end}
use Rattle.image.proofs.Rests.{rest_of_lem, entry_begins}
use Rattle.image.proofs.Images.{image_right}
use Rattle.image.proofs.Fetches.{rest_bounds, rest_long_lem, next, fetch_none, fetch_next}
use Rattle.acts.specs.declared.Control.{Control}
use Rattle.acts.proofs.Steadiness.{Steady}
use Rattle.execute.specs.Execute.{execute_of}
use Rattle.decisions.specs.Beginning as beginning
use Rattle.decisions.specs.Beginning.{Executes, check_begins, fetching_at}
use Rattle.decisions.proofs.Beginnings.{fetched_step, executes}
use Rattle.spans.specs.Spans.{records_below, fetchable_by, fetchable_of, found_of, span_of, begin, IsSpan, index_on, IndexTells, names_in, marked_index, EndsAt, place_after, LiesAhead}
use Rattle.spans.specs.declared.Span.{Span}
use Rattle.spans.proofs.Holds.{LiesInBody, Lies, SpanHolds, IndexIn, PlaceIn}
use Rattle.std.specs.Prelude.{Err, None, Ok, Option, Result, Some, ⊤}

-- ---- of the records from pc on, those that protection lets be fetched
-- of `most` records from pc on, whatever their lengths, the first n pass the fetch's check
pub record Fetchable (core : List ℕ) (rs : List Range) (pc most n : ℕ) : Type 0 where
  pub some : 0 < n
  pub within : n ≤ most
  pub passes : (a : ℕ) → pc ≤ a → a + 4 ≤ pc + 4 * n → a < 0xE000_0000 → check_of core rs Execute (as_address a) ≡ (Ok tt)

module _ (core : List ℕ) (rs : List Range) (pc most : ℕ) (n0 : 0 < most) where
  all_unasked : syscon_proten (get_or core 9 0) ≡ false → Fetchable core rs pc most most
  all_unasked p = record { some = n0; within = omega arith; passes = λ a l h b. sym (unasked core rs Execute (as_address a) (lt-leb _ _ b) p) }

  the_first : check_of core rs Execute (as_address pc) ≡ (Ok tt) → Fetchable core rs pc most 1
  the_first p =
      record {
        some = omega arith;
        within = n0;
        passes = λ a l h b. let e : pc ≡ a = omega arith in subst (λ (a : ℕ). check_of core rs Execute (as_address a) ≡ (Ok tt)) e p;
      }

  -- below the upper bound of a range that permits the first
  by_range : (k n : ℕ) → syscon_proten (get_or core 9 0) ≡ true → PermittedBy rs (psw_prs (get_or core 1 0)) Execute (as_address pc) k → 0 < n → n ≤ most → pc + 4 * n < (get_or rs k no_range).upper + 4 → Fetchable core rs pc most n
  by_range k n p a s w u =
      record {
        some = s;
        within = w;
        passes = λ x l h b. sym (allowed core rs Execute (as_address x) k (lt-leb _ _ b) p (onward rs (psw_prs (get_or core 1 0)) Execute (as_address pc) k a (as_address x) l (omega arith)));
      }

  pub fetchable_says : check_of core rs Execute (as_address pc) ≡ (Ok tt) → Fetchable core rs pc most (fetchable_of core rs pc most)
  unfolding fetchable_of
  fetchable_says h = by (syscon_proten (get_or core 9 0)) refl
    where
      by_permit : syscon_proten (get_or core 9 0) ≡ true → (p : Option ℕ) → Lowest rs (psw_prs (get_or core 1 0)) Execute (as_address pc) p → Fetchable core rs pc most (fetchable_by rs pc most p)
      by_permit e (Some k) l = let u = below_upper rs (psw_prs (get_or core 1 0)) Execute (as_address pc) k l.one in by_range k (fetchable_by rs pc most (Some k)) e l.one (omega arith) (omega arith) (omega arith)
      by_permit e None l = the_first h

      by : (b : Bool) → syscon_proten (get_or core 9 0) ≡ b → Fetchable core rs pc most (cond b (fetchable_by rs pc most (lowest_of rs (psw_prs (get_or core 1 0)) Execute (as_address pc))) most)
      by true e = by_permit e (lowest_of rs (psw_prs (get_or core 1 0)) Execute (as_address pc)) (lowest_says rs Execute (as_address pc) (psw_prs (get_or core 1 0)))
      by false e = all_unasked e

-- the number by cases
module _ (core : List ℕ) (rs : List Range) (pc most : ℕ) where
  pub fetch_all : syscon_proten (get_or core 9 0) ≡ false → most ≡ fetchable_of core rs pc most
  unfolding fetchable_of
  fetch_all e = rw e

  pub fetch_by_lem : (p : Option ℕ) → syscon_proten (get_or core 9 0) ≡ true → p ≡ lowest_of rs (psw_prs (get_or core 1 0)) Execute (as_address pc) → fetchable_by rs pc most p ≡ fetchable_of core rs pc most
  unfolding fetchable_of
  fetch_by_lem p e q = rw (e, ← q)

-- the range named for a fetch
module _ (rs : List Range) (core : List ℕ) (address : Address) (k : ℕ) (a : PermittedBy rs (psw_prs (get_or core 1 0)) Execute address k) where
  pub range_below : k < 32
  range_below = one_of_all rs (psw_prs (get_or core 1 0)) Execute address k (omega arith) a

-- the number below the upper bound of the range named
module _ (rs : List Range) (core : List ℕ) (pc most k below : ℕ) (p : syscon_proten (get_or core 9 0) ≡ true) (q : Some k ≡ lowest_of rs (psw_prs (get_or core 1 0)) Execute (as_address pc)) (is : below ≡ records_below (get_or rs k no_range).upper pc) where
  pub fetch_least : (r : ℕ) → r ≡ min below most → r ≡ fetchable_of core rs pc most
  fetch_least r e =
      let same : min below most ≡ fetchable_by rs pc most (Some k) = rw is in
      e ∙ same ∙ fetch_by_lem core rs pc most (Some k) p q

-- ---- the span at pc
module _ (img : List ℕ) (g : ImageRight img) (long : Bool) (pc : ℕ) (b : InBody) (is : b ≡ found_of img long pc) (h : 0 < b.rest.records) where
  found_rest : b.rest ≡ rest_of img pc
  found_rest = ap (λ (x : InBody). x.rest) is

  -- the records from pc on end in the image
  pub rest_ends : b.rest.at + 8 * b.rest.records ≤ length img
  rest_ends = rw found_rest (rest_bounds img g pc (rw found_rest at h)).inside

  -- where in its body the record at pc stands
  pub in_body : long ≡ false → Begins img pc b.entry ((entry_at img b.entry).records - b.rest.records) × (b.rest.at ≡ (entry_at img b.entry).offset + 8 * ((entry_at img b.entry).records - b.rest.records)) × (b.rest.records ≤ (entry_at img b.entry).records)
  in_body f =
      let i : b.entry ≡ entry_of img pc = ap (λ (x : InBody). x.entry) is ∙ rw f in
      let s : Begins img pc b.entry ((entry_at img b.entry).records - b.rest.records) = rw (found_rest, i) (entry_begins img pc (rw found_rest at h)) in
      let j = (entry_at img b.entry).records - b.rest.records in
      let r = found_rest ∙ rest_of_lem img g.table pc b.entry j s in
      let n : b.rest.records ≡ (entry_at img b.entry).records - j = ap (λ (x : Rest). x.records) r in
      (s, ap (λ (x : Rest). x.at) r, omega arith)

-- the first n of the records from pc on, of which the first stands at byte `at`
pub record Stretches (img : List ℕ) (long : Bool) (pc n at : ℕ) (s : Span) : Type 0 where
  pub from : s.from ≡ pc
  pub records : s.records ≡ n
  pub at_is : s.at ≡ at
  pub ends : s.end ≡ at + 8 * n
  pub counted : s.long ≡ cond long n 0
  pub body : long ≡ false → LiesInBody img s

pub stretches : (img : List ℕ) (long : Bool) (pc n : ℕ) → ImageRight img → 0 < (rest_of img pc).records → Stretches img long pc n (rest_of img pc).at (span_of img long pc n)
stretches img true pc n g h = record { from = refl; records = refl; at_is = refl; ends = refl; counted = refl; body = λ e. absurd (never e) }
stretches img false pc n g h =
    let (b, at, l) = in_body img g false pc (found_of img false pc) refl h refl in
    record {
      from = refl;
      records = refl;
      at_is = refl;
      ends = refl;
      counted = refl;
      body = λ e. record { entry = entry_of img pc; is = refl; begins = b; few = omega (arith, (g.table.entries (entry_of img pc) b.0).most, l); place = at };
    }

-- where a span lies
module _ {img : List ℕ} {long : Bool} {s : Span} (y : IsSpan img long s) where
  right : ImageRight img
  right = image_right img y.image

  any : 0 < (rest_of img s.from).records
  any = omega (arith, y.some, y.most)

  stretch : Stretches img long s.from s.records (rest_of img s.from).at s
  stretch = subst (λ (x : Span). Stretches img long s.from s.records (rest_of img s.from).at x) (sym y.is) (stretches img long s.from s.records right any)

  pub lies : Lies img long s
  lies =
      let b = rest_bounds img right s.from any in
      let at = (rest_of img s.from).at in
      record {
        most = omega (arith, b.most, y.most);
        below = rw stretch.at_is (omega (arith, after_less s.records (rest_of img s.from).records img at s.from y.most, b.below));
        inside = rw stretch.at_is (omega (arith, b.inside, y.most));
        ends = rw stretch.at_is stretch.ends;
        counted = stretch.counted;
        each = λ e j l. rw stretch.at_is (rest_long_lem img right (y.all_long e) s.from j any (omega (arith, y.most)));
        body = stretch.body;
      }

  -- what is fetched in one that passes the check
  span_holds : {core : List ℕ} {rs : List Range} → Fetchable core rs s.from (rest_of img s.from).records s.records → SpanHolds img long core rs s
  unfolding fetching_at
  span_holds f =
      let b = rest_bounds img right s.from any in
      let at = (rest_of img s.from).at in
      let from = s.from in
      record {
        fetched = λ j l.
            let c = f.passes (address_after j img at from) (omega (arith, after_low j img at from)) (omega (arith, after_high j img at from)) (omega (arith, after_less j (rest_of img from).records img at from (omega (arith, y.most)), b.below)) in
            rw (stretch.at_is, c, fetch_next img right from j (omega (arith, y.most))) refl;
        fields = λ j l. rw stretch.at_is (next img right from j (omega (arith, y.most))).fields;
        lies = lies;
        spans = y;
      }

-- ---- the traps of the fetch
module _ (img core : List ℕ) (rs : List Range) where
  pub ahead_denied : (t : Trap) → Err t ≡ check_of core rs Execute (as_address (get_or core 0 0)) → fetching_at img core rs (get_or core 0 0) ≡ beginning.Traps t
  unfolding fetching_at
  ahead_denied t h = rw (← h)

  pub ahead_nothing : (Ok tt) ≡ check_of core rs Execute (as_address (get_or core 0 0)) → None ≡ fetch_of img (get_or core 0 0) → fetching_at img core rs (get_or core 0 0) ≡ beginning.Traps CODE
  unfolding fetching_at
  ahead_nothing h n = rw (← h, ← n)

-- ---- the span ahead
never_executes : {t : Trap} {i : Instruction} → beginning.Traps t ≡ Executes i → ⊥
never_executes e = let z : ◌≡◌ {A = ℕ} 0 1 = cc in omega arith

module _ (img core : List ℕ) (rs : List Range) where
  -- an instruction is fetched at PC: its fetch passes the check, and a record begins there
  module _ {i : Instruction} (h : fetching_at img core rs (get_or core 0 0) ≡ Executes i) where
    fetch_passes : check_of core rs Execute (as_address (get_or core 0 0)) ≡ (Ok tt)
    fetch_passes = by (check_of core rs Execute (as_address (get_or core 0 0))) refl
      where
        by : (c : Result ⊤ Trap) → check_of core rs Execute (as_address (get_or core 0 0)) ≡ c → c ≡ (Ok tt)
        by (Ok _) e = refl
        by (Err t) e = absurd (never_executes (sym (ahead_denied img core rs t (sym e)) ∙ h))

    fetch_finds : 0 < (rest_of img (get_or core 0 0)).records
    fetch_finds = by (lt_or_ge 0 (rest_of img (get_or core 0 0)).records)
      where
        by : (0 < (rest_of img (get_or core 0 0)).records) ⊎ ((rest_of img (get_or core 0 0)).records ≤ 0) → 0 < (rest_of img (get_or core 0 0)).records
        by (inl l) = l
        by (inr l) = absurd (never_executes (sym (ahead_nothing img core rs (sym fetch_passes) (fetch_none img (get_or core 0 0) (omega arith))) ∙ h))

  module _ (long : Bool) (s : Span) (right : ImageHolds img) (p : long ≡ true → long_only img ≡ true) (passes : check_of core rs Execute (as_address (get_or core 0 0)) ≡ (Ok tt)) (any : 0 < (rest_of img (get_or core 0 0)).records)
      (is : s ≡ span_of img long (get_or core 0 0) (fetchable_of core rs (get_or core 0 0) (rest_of img (get_or core 0 0)).records)) where
    reaches : Fetchable core rs (get_or core 0 0) (rest_of img (get_or core 0 0)).records (fetchable_of core rs (get_or core 0 0) (rest_of img (get_or core 0 0)).records)
    reaches = fetchable_says core rs (get_or core 0 0) (rest_of img (get_or core 0 0)).records any passes

    pub from_pc : s.from ≡ get_or core 0 0
    from_pc = rw is (stretches img long (get_or core 0 0) _ (image_right img right) any).from

    counts : s.records ≡ fetchable_of core rs (get_or core 0 0) (rest_of img (get_or core 0 0)).records
    counts = rw is (stretches img long (get_or core 0 0) _ (image_right img right) any).records

    same : span_of img long (get_or core 0 0) (fetchable_of core rs (get_or core 0 0) (rest_of img (get_or core 0 0)).records) ≡ span_of img long s.from s.records
    same = rw (from_pc, counts)

    pub ahead_spans : IsSpan img long s
    ahead_spans =
        record {
          image = right;
          all_long = p;
          some = rw counts reaches.some;
          most = rw (counts, from_pc) reaches.within;
          is = is ∙ same;
        }

    pub ahead_holds : SpanHolds img long core rs s
    ahead_holds = span_holds ahead_spans (rw (from_pc, counts) reaches)

    -- the first of them is the instruction at PC
    pub ahead_first : fetching_at img core rs (get_or core 0 0) ≡ Executes (instruction_at img s.at (get_or core 0 0))
    ahead_first =
        let z : s.at + 8 * 0 ≡ s.at = omega arith in
        rw (z, after_none img s.at s.from, from_pc) at (ahead_holds.fetched 0 ahead_spans.some)

  -- what is known of the records that lie ahead
  pub ahead_known : (long : Bool) (s : Span) → ImageHolds img → (long ≡ true → long_only img ≡ true) → LiesAhead img long core rs (Ok s) → SpanHolds img long core rs s × (s.from ≡ get_or core 0 0)
  ahead_known long s right p (h, is) =
      (ahead_holds long s right p (fetch_passes h) (fetch_finds h) is, from_pc long s right p (fetch_passes h) (fetch_finds h) is)

-- ---- an instruction of a span
module _ {img : List ℕ} (r : Registers) {rs : List Range} {long : Bool} {s : Span} (h : SpanHolds img long r.core rs s) where
  pub in_span : (k : ℕ) → k < s.records → pc r ≡ begin img s k → (m : Memory) → execute_of (instruction_at img (s.at + 8 * k) (pc r)) r rs m ≡ fetched_step img r rs m
  in_span k l e m = executes img r rs m (instruction_at img (s.at + 8 * k) (pc r)) (rw e (h.fetched k l))

  -- the span holds while PROTEN and PRS stay
  pub span_steady : (q : Registers) → Steady r q → SpanHolds img long q.core rs s
  unfolding fetching_at
  span_steady q x =
      record {
        fetched = λ j l.
            ap (λ (c : Result ⊤ Trap). check_begins c (fetch_of img (begin img s j)))
            (same_check r.core rs Execute (as_address (begin img s j)) q.core (omega (arith, h.lies.below, after_less j s.records img s.at s.from (omega arith))) (ap (λ (c : Control). syscon_proten c.syscon) x.same) (ap (λ (c : Control). c.prs) x.same))
            ∙ h.fetched j l;
        fields = h.fields;
        lies = h.lies;
        spans = h.spans;
      }

-- ---- the index of a record
module _ (img : List ℕ) (s : Span) where
  pub outside : (pc : ℕ) → IndexIn img s pc s.records
  outside pc l = absurd (omega arith)

  -- a walk from record to record
  pub record Here (j a : ℕ) : Type 0 where
    pub within : j ≤ s.records
    pub at : a ≡ begin img s j

  -- the index by the walk from the record with index j on
  module _ (j pc : ℕ) where
    pub index_end : s.records ≤ j → s.records ≡ index_on img s j pc
    unfolding index_on
    index_end h = rw (← turn_end s.records img s.at (begin img s j) pc j h) (omega arith)

    pub index_past : pc < begin img s j → s.records ≡ index_on img s j pc
    unfolding index_on
    index_past h = rw (walk_before (s.records - j) img (s.at + 8 * j) (begin img s j) pc h) (omega arith)

    index_own : (i : ℕ) → j ≤ i → i < s.records → pc ≡ begin img s i → index_on img s j pc ≡ i
    unfolding index_on
    index_own i l h e = rw (walk_at_lem (i - j) (s.records - j) img (s.at + 8 * j) (begin img s j) pc (omega arith) (after_rest j i img s.at s.from l ∙ sym e)) (omega arith)

    pub index_here : j ≤ s.records → begin img s j ≡ pc → j ≡ index_on img s j pc
    index_here h e = by (lt_or_ge j s.records)
      where
        by : (j < s.records) ⊎ (s.records ≤ j) → j ≡ index_on img s j pc
        by (inl l) = sym (index_own j (omega arith) l (sym e))
        by (inr l) = let z : j ≡ s.records = omega arith in z ∙ index_end l

    pub index_up : j < s.records → (begin img s j ≡ pc → ⊥) → index_on img s (j + 1) pc ≡ index_on img s j pc
    unfolding index_on
    index_up h d = rw (after_plus j img s.at s.from, turn_on s.records img s.at (begin img s j) pc j h d)

    -- an index that the walk finds is that of the record that begins at pc
    index_in : j ≤ s.records → IndexIn img s pc (index_on img s j pc)
    unfolding index_on
    index_in h = by (body_walk (s.records - j) img (s.at + 8 * j) (begin img s j) pc) (walked (s.records - j) img (s.at + 8 * j) (begin img s j) pc)
      where
        by : (r : Rest) → Walked (s.records - j) img (s.at + 8 * j) (begin img s j) pc r → IndexIn img s pc (s.records - r.records)
        by _ (nowhere n) l = absurd (omega arith)
        by _ (somewhere i k e) l =
            let z : s.records - (s.records - j - i) ≡ j + i = omega arith in
            rw (z, after_join j i img s.at s.from) (sym e)

    pub index_tells : j ≤ s.records → (r : ℕ) → r ≡ index_on img s j pc → (r ≡ index_on img s j pc) × IndexTells img s j pc r
    index_tells h r e = (e, record { begins = rw e (index_in h); only = λ i l k b. e ∙ index_own i l k b })

  -- the index by the mark in the place p for pc
  module _ (shift : ℕ) (marks : List ℕ) (pc p : ℕ) (is : p ≡ slot_of s.bias s.entry shift pc) where
    unnamed : names_in s (get_or marks p 0) ≡ false → s.records ≡ marked_index img shift marks s pc
    unfolding marked_index
    unnamed e = rw (← is, e)

    pub marked_other : (mark_entry (get_or marks p 0) ≡ s.entry → ⊥) → s.records ≡ marked_index img shift marks s pc
    marked_other d = unnamed (rw (ne_eqb _ _ d))

    -- there is no such place
    pub marked_none : (i : ℕ) → s.entry ≡ i + 1 → length marks ≤ p → s.records ≡ marked_index img shift marks s pc
    marked_none i e l = marked_other (λ x. let z = get_or-eq_default marks 0 l in let y : mark_entry 0 ≡ s.entry = rw z at x in omega arith)

    -- the record k after the span's first, counted modulo 2^32, is not in the span, or is
    module _ (k : ℕ) (k32 : k < 2 ^ 32) (f : s.first < 0x1_0000) (m : s.records ≤ 0x1_0000) (w : (k + s.first) % 2 ^ 32 ≡ mark_index (get_or marks p 0)) where
      pub marked_outside : s.records ≤ k → s.records ≡ marked_index img shift marks s pc
      marked_outside l = unnamed (by (eqb (mark_entry (get_or marks p 0)) s.entry) (lt_or_ge (mark_index (get_or marks p 0)) s.first))
        where
          by : (b : Bool) → (mark_index (get_or marks p 0) < s.first) ⊎ (s.first ≤ mark_index (get_or marks p 0)) → (b && (leb s.first (mark_index (get_or marks p 0)) && ltb (mark_index (get_or marks p 0)) (s.first + s.records))) ≡ false
          by false o = refl
          by true (inl o) = rw (lt-leb _ _ o)
          by true (inr o) = let q : s.first + s.records ≤ mark_index (get_or marks p 0) = omega arith in rw (le-leb _ _ o, le-ltb _ _ q)

      pub marked_inside : mark_entry (get_or marks p 0) ≡ s.entry → k < s.records → index_on img s k pc ≡ marked_index img shift marks s pc
      unfolding marked_index
      marked_inside e l =
          let q : s.first ≤ mark_index (get_or marks p 0) = omega arith in
          let r : mark_index (get_or marks p 0) < s.first + s.records = omega arith in
          let z : k ≡ mark_index (get_or marks p 0) - s.first = omega arith in
          rw (← is, eq-eqb _ _ e, le-leb _ _ q, lt-ltb _ _ r, ← z)

  marked_in : (shift : ℕ) (marks : List ℕ) (pc : ℕ) → IndexIn img s pc (marked_index img shift marks s pc)
  unfolding marked_index
  marked_in shift marks pc = by (get_or marks (slot_of s.bias s.entry shift pc) 0)
    where
      by_name : (m : ℕ) (b : Bool) → names_in s m ≡ b → IndexIn img s pc (cond b (index_on img s (mark_index m - s.first) pc) s.records)
      by_name m false e = outside pc
      by_name m true e =
          let t = (both_true (eqb (mark_entry m) s.entry) (leb s.first (mark_index m) && ltb (mark_index m) (s.first + s.records)) e).1 in
          let u = ltb-true (mark_index m) (s.first + s.records) (both_true (leb s.first (mark_index m)) (ltb (mark_index m) (s.first + s.records)) t).1 in
          index_in (mark_index m - s.first) pc (omega arith)

      by : (m : ℕ) → IndexIn img s pc (cond (names_in s m) (index_on img s (mark_index m - s.first) pc) s.records)
      by m = by_name m (names_in s m) refl

  -- the place by cases
  module _ (guide : Guide) (marks : List ℕ) (at next pc : ℕ) where
    pub place_long : guide.long ≡ true → s.end ≡ place_after img guide marks s at next pc
    unfolding place_after
    place_long e = rw e

    pub place_follows : guide.long ≡ false → pc ≡ next → at + 8 ≡ place_after img guide marks s at next pc
    unfolding place_after
    place_follows e f = rw (e, eq-eqb _ _ f)

    pub place_marked : guide.long ≡ false → (pc ≡ next → ⊥) → s.at + 8 * marked_index img guide.shift marks s pc ≡ place_after img guide marks s at next pc
    unfolding place_after
    place_marked e f = rw (e, ne_eqb _ _ f)

  module _ {long : Bool} (y : Lies img long s) where
    -- among long records
    pub index_by : long ≡ true → (pc k : ℕ) → IndexSays s.from pc k → IndexIn img s pc k
    index_by p pc k i l =
        let m = y.most in
        let b = y.below in
        let e = y.each p in
        i s.records (omega arith) (omega (arith, e s.records (omega arith))) l ∙ sym (e k (omega arith))

    -- an index among those counted as long
    pub counted_long : (j : ℕ) → j < s.long → (long ≡ true) × (j < s.records)
    counted_long j l = by long y.counted
      where
        by : (b : Bool) → s.long ≡ cond b s.records 0 → (b ≡ true) × (j < s.records)
        by true e = (refl, omega arith)
        by false e = absurd (omega arith)

    -- the address after a record, and the length where all are long
    pub next_begins : (k p : ℕ) → k < s.records → p ≡ begin img s k → next_after img (s.at + 8 * k) p ≡ begin img s (k + 1)
    next_begins k p l e =
        let m = after_plus k img s.at s.from in
        let b = after_less (k + 1) s.records img s.at s.from (omega arith) in
        let w = y.below in
        omega arith

    pub long_four : long ≡ true → (k : ℕ) → k < s.records → length_of (get_or img (s.at + 8 * k) 0) ≡ 4
    long_four e k l = omega (arith, y.each e k (omega arith), y.each e (k + 1) (omega arith), after_plus k img s.at s.from)

    pub here_below : (j a : ℕ) → Here j a → a ≤ 0xE000_0000
    here_below j a h = omega (arith, h.at, y.below, after_less j s.records img s.at s.from h.within)

    pub here_up : (j a x : ℕ) → Here j a → j < s.records → x ≡ length_of (get_or img (s.at + 8 * j) 0) → Here (j + 1) (a + x)
    here_up j a x h l e = record { within = omega arith; at = omega (arith, h.at, after_plus j img s.at s.from) }

    -- the record after another, and one by its index, as a byte of the image
    place_next : (at next pc : ℕ) → EndsAt img s at next → pc ≡ next → PlaceIn img s pc (at + 8)
    place_next at next pc (k, i, stands, ends) e h = (k + 1, omega (arith, stands, y.ends), omega (arith, stands), e ∙ ends)

    place_index : (pc j : ℕ) → IndexIn img s pc j → PlaceIn img s pc (s.at + 8 * j)
    place_index pc j i h = let l : j < s.records = omega (arith, y.ends) in (j, l, refl, i l)

    -- the record that a mark of the span's body names
    pub by_mark : (b : LiesInBody img s) (a j k : ℕ) → Begins img a b.entry j → (k + s.first) % 2 ^ 32 ≡ j → k < s.records → a ≡ begin img s k
    by_mark b a j k m w l =
        let i = b.entry in
        let q : (k + s.first) % 2 ^ 32 ≡ k + s.first = let n = y.most in omega (arith, b.few) in
        let z : s.first + k ≡ j = omega arith in
        let x = after_join s.first k img (entry_at img i).offset (entry_at img i).load in
        m.2 ∙ rw (← z, x, ← b.place, ← b.begins.2)

  -- what the place tells
  module _ (guide : Guide) (y : Lies img guide.long s) (marks : List ℕ) (at next pc r : ℕ) (is : r ≡ place_after img guide marks s at next pc) where
    pub place_end : guide.long ≡ true → r ≡ s.end
    place_end e = is ∙ sym (place_long guide marks at next pc e)

    pub place_in : (guide.long ≡ false → EndsAt img s at next) → PlaceIn img s pc r
    place_in c = by guide.long refl (ℕ_discrete pc next)
      where
        by : (b : Bool) → guide.long ≡ b → Dec (pc ≡ next) → PlaceIn img s pc r
        by true e d = λ h. absurd (omega (arith, place_end e))
        by false e (yes f) = rw (is ∙ sym (place_follows guide marks at next pc e f)) (place_next y at next pc (c e) f)
        by false e (no d) = rw (is ∙ sym (place_marked guide marks at next pc e d)) (place_index y pc (marked_index img guide.shift marks s pc) (marked_in guide.shift marks pc))
