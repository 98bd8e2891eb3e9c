-- Marks that hold, and the walk from one.
-- Assumes nothing.
use Rattle.std.proofs.Common.{◌≡◌, ℕ, zero, suc, ◌+◌, ◌-◌, ◌*◌, ◌/◌, ◌^◌, ◌<◌, ◌≤◌, Bool, true, false, cond, ◌&&◌, eqb, ltb, Option, Some, None, unwrap_or, List, length, get_or, set, replicate, sym, refl, ap, ◌∙◌, subst, add-one, add-zero, arith, length-set, get_or-set_other, get_or-set_same, le-ltb, lt-ltb, eq-eqb, ne_eqb, le-leb}
use native.Mathlib.Decide.{ℕ_discrete}
use Rattle.std.specs.List.{find, range_with_len}
use Rattle.std.specs.Option.{option_map}
use lib.ListN.{length-replicate, get_or-replicate, get_or-eq_default}
use borrow.Author.Tests.{lt-leb}
use Rattle.image.specs.Lengths.{address_after}
use Rattle.image.specs.Table.{entries_of, entry_at}
use Rattle.image.specs.Rest.{rest, body_walk, rest_in, Begins, far_of}
use Rattle.image.specs.declared.fetch.Start.{Start}
use Rattle.image.specs.Marks.{mark_entry, mark_index, mark_address, slot_of, bias_of, shift_from, mark_of, put_mark, body_marks, image_marks, marked_start, MarkHolds, MarksHold, Marked}
use Rattle.image.specs.Rules.{ImageRight}
use Rattle.image.specs.declared.table.Entry.{Entry}
use Rattle.image.proofs.Addresses.{after_none, after_rest, after_low, after_high}
use Rattle.image.proofs.Walks.{walk_before, walk_beyond, walk_skip}

abbrev at_record : ℕ → ℕ → Start
at_record k address = record { index = k; address = address }

-- ---- a mark
-- entry 0 says nothing
pub unmarked : (img marks : List ℕ) → ((s : ℕ) → s < length marks → get_or marks s 0 ≡ 0) → MarksHold img marks
unmarked img marks z = record { each = λ s h i e. absurd (let y = z s h in let x : mark_entry 0 ≡ i + 1 = rw y at e in omega arith) }

-- a mark of a record that begins where it says
pub mark_holds : (img : List ℕ) (m i k a : ℕ) → mark_entry m ≡ i + 1 → mark_index m ≡ k → mark_address m ≡ a → Begins img a i k → MarkHolds img m
mark_holds img m i k a e x y b j f =
    let z : i ≡ j = omega arith in
    subst (λ (n : ℕ). Begins img (mark_address m) n (mark_index m)) z (rw (x, y) b)

put_holds : (img marks : List ℕ) (s m : ℕ) → MarksHold img marks → MarkHolds img m → MarksHold img (set marks s m)
put_holds img marks s m h n = record { each = λ t l. go t (rw (length-set marks s m) at l) (ℕ_discrete t s) }
  where
    go : (t : ℕ) → t < length marks → Dec (t ≡ s) → MarkHolds img (get_or (set marks s m) t 0)
    go t l (yes e) = let k : s < length marks = omega arith in rw (e, get_or-set_same marks s m 0 k) n
    go t l (no d) = rw (get_or-set_other marks s t m 0 (λ e. d e)) (h.each t l)

pub put_marked : (img marks : List ℕ) (s m : ℕ) → Marked img marks → MarkHolds img m → Marked img (set marks s m)
put_marked img marks s m h n = record { marks_hold = put_holds img marks s m h.marks_hold n; size = length-set marks s m ∙ h.size }

-- ---- which records are marked: the loops' turns
module _ (marks : List ℕ) (slot i k address : ℕ) where
  pub put_here : slot < 4096 → (mark_entry (get_or marks slot 0) ≡ i + 1 → ⊥) → set marks slot (mark_of i k address) ≡ put_mark marks slot i k address
  unfolding put_mark
  put_here h d = rw (lt-ltb _ _ h, ne_eqb _ _ d)

  pub put_had : slot < 4096 → mark_entry (get_or marks slot 0) ≡ i + 1 → marks ≡ put_mark marks slot i k address
  unfolding put_mark
  put_had h e = rw (lt-ltb _ _ h, eq-eqb _ _ e)

  pub put_beyond : 4096 ≤ slot → marks ≡ put_mark marks slot i k address
  unfolding put_mark
  put_beyond h = rw (le-ltb _ _ h)

module _ (img : List ℕ) (shift : ℕ) (marks : List ℕ) where
  pub body_none : (i : ℕ) → marks ≡ body_marks 0 img shift i marks
  unfolding body_marks
  body_none i = refl

  pub body_more : (i : ℕ) (e : Entry) → e ≡ entry_at img i → (k here slot : ℕ) → here ≡ address_after k img e.offset e.load → slot ≡ slot_of (bias_of e) (i + 1) shift here → (now after : List ℕ) → now ≡ body_marks k img shift i marks → after ≡ put_mark now slot i k here → after ≡ body_marks (k + 1) img shift i marks
  unfolding body_marks
  body_more i e is k here slot h p now after n a = rw (add-one k, ← is, ← h, ← p, ← n) a

  pub image_none : marks ≡ image_marks 0 img shift marks
  unfolding image_marks
  image_none = refl

  pub image_more : (i : ℕ) (now after : List ℕ) → now ≡ image_marks i img shift marks → after ≡ body_marks (entry_at img i).records img shift i now → after ≡ image_marks (i + 1) img shift marks
  unfolding image_marks
  image_more i now after n a = rw (add-one i, ← n) a

-- the first shift of a range that serves, or the range's end
pub shift_found : (n shift bytes : ℕ) → unwrap_or (find (λ s. ltb (bytes / 2 / 2 ^ s) 4080) (range_with_len shift n)) (shift + n) ≡ shift_from n shift bytes
unfolding shift_from
shift_found zero shift bytes = add-zero shift
shift_found (suc n) shift bytes = by (ltb (bytes / 2 / 2 ^ shift) 4080) (shift_found n (shift + 1) bytes)
  where
    by : (t : Bool) → unwrap_or (find (λ s. ltb (bytes / 2 / 2 ^ s) 4080) (range_with_len (shift + 1) n)) (shift + 1 + n) ≡ shift_from n (shift + 1) bytes
        → unwrap_or (cond t (Some shift) (find (λ s. ltb (bytes / 2 / 2 ^ s) 4080) (range_with_len (shift + 1) n))) (shift + suc n) ≡ cond t shift (shift_from n (shift + 1) bytes)
    by true r = refl
    by false r = let e : shift + suc n ≡ shift + 1 + n = omega arith in rw e r

pub shift_first : (n shift bytes : ℕ) (r : Option ℕ) → option_map (λ x. x) r ≡ find (λ s. ltb (bytes / 2 / 2 ^ s) 4080) (range_with_len shift n) → unwrap_or r (shift + n) ≡ shift_from n shift bytes
shift_first n shift bytes None e = ap (λ o. unwrap_or o (shift + n)) e ∙ shift_found n shift bytes
shift_first n shift bytes (Some s) e = ap (λ o. unwrap_or o (shift + n)) e ∙ shift_found n shift bytes

-- ---- where a walk to pc starts, by the mark in its place s
module _ (marks : List ℕ) (shift i : ℕ) (e : Entry) (pc s : ℕ) (is : s ≡ slot_of (bias_of e) (i + 1) shift pc) where
  pub start_marked : mark_entry (get_or marks s 0) ≡ i + 1 → mark_address (get_or marks s 0) ≤ pc → at_record (mark_index (get_or marks s 0)) (mark_address (get_or marks s 0)) ≡ marked_start marks shift i e pc
  unfolding marked_start
  start_marked f l = rw (← is, eq-eqb _ _ f, le-leb _ _ l)

  pub start_past : pc < mark_address (get_or marks s 0) → at_record 0 e.load ≡ marked_start marks shift i e pc
  unfolding marked_start
  start_past l = rw (← is, lt-leb _ _ l) (by (eqb (mark_entry (get_or marks s 0)) (i + 1)))
    where
      by : (b : Bool) → at_record 0 e.load ≡ cond (b && false) (at_record (mark_index (get_or marks s 0)) (mark_address (get_or marks s 0))) (at_record 0 e.load)
      by true = refl
      by false = refl

  pub start_other : (mark_entry (get_or marks s 0) ≡ i + 1 → ⊥) → at_record 0 e.load ≡ marked_start marks shift i e pc
  unfolding marked_start
  start_other d = rw (← is, ne_eqb _ _ d)

  -- there is no such place
  pub start_unmarked : length marks ≤ s → at_record 0 e.load ≡ marked_start marks shift i e pc
  start_unmarked l = start_other (λ x. let z = get_or-eq_default marks 0 l in let y : mark_entry 0 ≡ i + 1 = rw z at x in omega arith)

-- ---- the search in one body, whose entry is e
module _ (img : List ℕ) (g : ImageRight img) (i : ℕ) (h : i < entries_of img) (e : Entry) (is : e ≡ entry_at img i) where
  pub whole : (1 ≤ e.records) × (e.records ≤ 0x1_0000) × (e.offset + 8 * e.records ≤ length img) × (address_after e.records img e.offset e.load ≤ 0xE000_0000)
  whole = let r = g.table.entries i h in rw is (r.some, r.most, r.ends, r.below)

  -- the body's first record
  pub first_begins : Begins img e.load i 0
  first_begins = let r = g.table.entries i h in (h, omega (arith, r.some), rw is (sym (after_none img (entry_at img i).offset (entry_at img i).load)))

  -- pc lies before the body, or past the end that it had with long records alone
  pub outside : (pc : ℕ) → pc < 2 ^ 32 → 4 * e.records ≤ far_of e.load pc → rest 0 0 ≡ rest_in img (entry_at img i) pc
  outside pc p l = rw is at (go (ℕ_discrete (far_of e.load pc) (pc - e.load)))
    where
      go : Dec (far_of e.load pc ≡ pc - e.load) → rest 0 0 ≡ body_walk e.records img e.offset e.load pc
      go (yes f) = by whole.1
        where
          by : e.records ≤ 0x1_0000 → rest 0 0 ≡ body_walk e.records img e.offset e.load pc
          by m = let b = whole.3 in let u = after_high e.records img e.offset e.load in let s = whole.0 in sym (walk_beyond e.records img e.offset e.load pc (omega arith))
      go (no f) = let b = whole.3 in let s = whole.0 in let u = after_low e.records img e.offset e.load in sym (walk_before e.records img e.offset e.load pc (omega arith))

  -- otherwise pc is not before it
  pub inside : (pc : ℕ) → pc < 2 ^ 32 → far_of e.load pc < 4 * e.records → e.load ≤ pc
  inside pc p l = let m = whole.1 in let b = whole.3 in let u = after_low e.records img e.offset e.load in omega arith

  -- from a record that begins at pc or before it
  module _ (k a : ℕ) (b : Begins img a i k) where
    at_is : a ≡ address_after k img e.offset e.load
    at_is = rw is b.2

    pub few : k < e.records
    few = rw is b.1

    pub left : (e.offset + 8 * k + 8 * (e.records - k) ≤ length img) × (e.records - k ≤ 0x1_0000) × (address_after (e.records - k) img (e.offset + 8 * k) a ≤ 0xE000_0000)
    left =
        let w = whole in
        let f = few in
        let r = after_rest k e.records img e.offset e.load (omega arith) in
        (omega (arith, w.2), omega (arith, w.1), rw (at_is, r) w.3)

    pub walk_marked : (pc : ℕ) → a ≤ pc → body_walk (e.records - k) img (e.offset + 8 * k) a pc ≡ rest_in img (entry_at img i) pc
    walk_marked pc l =
        let f = few in
        let s = walk_skip k e.records img e.offset e.load pc (omega arith) (rw at_is at l) in
        let w : body_walk e.records img e.offset e.load pc ≡ rest_in img (entry_at img i) pc = rw is in
        rw at_is (s ∙ w)

-- an array of zeros has no mark
pub no_marks : (img : List ℕ) (n : ℕ) → MarksHold img (replicate n 0)
no_marks img n = let z : ℕ = 0 in unmarked img (replicate n z) (λ s h. get_or-replicate n s z z (rw (length-replicate n z) at h))

pub unmarked_array : (img : List ℕ) → Marked img (replicate 4096 0)
unmarked_array img = let z : ℕ = 0 in record { marks_hold = no_marks img 4096; size = length-replicate 4096 z }
