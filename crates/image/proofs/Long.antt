-- Images without short forms: the pass that finds out, and the record at an index.
-- Assumes nothing.
use Rattle.std.proofs.Common.{◌≡◌, ℕ, zero, suc, ◌+◌, ◌-◌, ◌*◌, ◌^◌, ◌<◌, ◌≤◌, Bool, true, false, not, ◌&&◌, List, get_or, sym, refl, ◌∙◌, arith, leb-false}
use mathlib.Core.Bool.{and_assoc}
use borrow.Author.Tests.{not-true}
use Rattle.words.proofs.Truth.{both_true}
use Rattle.operations.specs.Forms.{is_short}
use Rattle.image.specs.Lengths.{address_after}
use Rattle.image.specs.Table.{entries_of, entry_at, bodies_of}
use Rattle.image.specs.Records.{total_of}
use Rattle.image.specs.Rest.{rest, body_walk, rest_in, index_of}
use Rattle.image.specs.Marks.{long_from, long_only}
use Rattle.image.specs.Rules.{records_before, EntryAt, ImageRight}
use Rattle.image.specs.declared.table.Entry.{Entry}
use Rattle.image.proofs.Addresses.{after_long}
use Rattle.image.proofs.Walks.{Walked, nowhere, somewhere, walked, walk_at_lem}
use Rattle.image.proofs.Indices.{index_is, index_in}

-- ---- the pass
long_end : (img : List ℕ) (at : ℕ) → long_from 0 img at ≡ true
unfolding long_from
long_end img at = refl

long_more : (n : ℕ) (img : List ℕ) (at : ℕ) → long_from (suc n) img at ≡ (not (is_short (get_or img at 0)) && long_from n img (at + 8))
unfolding long_from
long_more n img at = refl

pub and_one : (b : Bool) → (b && true) ≡ b
and_one true = refl
and_one false = refl

module _ (img : List ℕ) (long : Bool) where
  pub pass_first : long ≡ true → (long && long_from (total_of img - 0) img (bodies_of img + 8 * 0)) ≡ long_only img
  unfolding long_only
  pass_first e =
      let z : total_of img - 0 ≡ total_of img = omega arith in
      let y : bodies_of img + 8 * 0 ≡ bodies_of img = omega arith in
      rw (e, z, y)

  pub pass_on : (k : ℕ) → k < total_of img
      → (long && not (is_short (get_or img (bodies_of img + 8 * k) 0)) && long_from (total_of img - (k + 1)) img (bodies_of img + 8 * (k + 1)))
      ≡ (long && long_from (total_of img - k) img (bodies_of img + 8 * k))
  pass_on k h =
      let z : total_of img - k ≡ suc (total_of img - (k + 1)) = omega arith in
      let y : bodies_of img + 8 * (k + 1) ≡ bodies_of img + 8 * k + 8 = omega arith in
      rw (z, y, long_more (total_of img - (k + 1)) img (bodies_of img + 8 * k))
      (and_assoc long (not (is_short (get_or img (bodies_of img + 8 * k) 0))) (long_from (total_of img - (k + 1)) img (bodies_of img + 8 * k + 8)))

  pub pass_end : (k : ℕ) → total_of img ≤ k → (long && long_from (total_of img - k) img (bodies_of img + 8 * k)) ≡ long
  pass_end k h = let z : total_of img - k ≡ 0 = omega arith in rw (z, long_end img (bodies_of img + 8 * k)) (and_one long)

-- ---- all records are long
long_each : (n : ℕ) (img : List ℕ) (at : ℕ) → long_from n img at ≡ true → (k : ℕ) → k < n → get_or img (at + 8 * k) 0 < 128
long_each zero img at e k h = absurd (omega arith)
long_each (suc n) img at e k h = go k h (both_true _ _ (sym (long_more n img at) ∙ e)) (long_each n img (at + 8))
  where
    go : (k : ℕ) → k < suc n → (not (is_short (get_or img at 0)) ≡ true) × (long_from n img (at + 8) ≡ true)
        → (long_from n img (at + 8) ≡ true → (k : ℕ) → k < n → get_or img (at + 8 + 8 * k) 0 < 128)
        → get_or img (at + 8 * k) 0 < 128
    go zero h (s, l) r = let y : at + 8 * 0 ≡ at = omega arith in rw y (leb-false 128 (get_or img at 0) (not-true (is_short (get_or img at 0)) s))
    go (suc k) h (s, l) r = let y : at + 8 * suc k ≡ at + 8 + 8 * k = omega arith in rw y (r l k (omega arith))

module _ (img : List ℕ) (g : ImageRight img) (p : long_only img ≡ true) (i : ℕ) (h : i < entries_of img) where
  right : EntryAt img i
  right = g.table.entries i h

  body_long : (k : ℕ) → k < (entry_at img i).records → get_or img ((entry_at img i).offset + 8 * k) 0 < 128
  unfolding long_only
  body_long k l =
      let e = right.ends in
      let b = right.begins in
      let a : (entry_at img i).offset + 8 * k ≡ bodies_of img + 8 * (records_before img i + k) = omega arith in
      rw a (long_each (total_of img) img (bodies_of img) p (records_before img i + k) (omega arith))

  pub addresses : (j : ℕ) → j ≤ (entry_at img i).records → address_after j img (entry_at img i).offset (entry_at img i).load ≡ (entry_at img i).load + 4 * j
  addresses = after_long (entry_at img i).records img (entry_at img i).offset (entry_at img i).load body_long

  ends : (entry_at img i).load + 4 * (entry_at img i).records ≤ 0xE000_0000
  ends = let b = right.below in omega (arith, addresses (entry_at img i).records (omega arith))

  -- the record at an index, and none where the index is past the body
  module _ (e : Entry) (is : e ≡ entry_at img i) (pc : ℕ) (w : pc < 2 ^ 32) (k : ℕ) (q : k ≡ index_of e.load pc) where
    index_of_lem : k ≡ index_of (entry_at img i).load pc
    index_of_lem = rw is at q

    pub index_here : k < e.records → rest (e.records - k) (e.offset + 8 * k) ≡ rest_in img (entry_at img i) pc
    index_here l =
        let n = right.most in
        let z = ends in
        let m : k < (entry_at img i).records = rw is at l in
        let at : pc ≡ (entry_at img i).load + 4 * k = rw index_of_lem (index_in (entry_at img i).load pc (entry_at img i).records (omega arith) w (omega arith) (omega arith) (rw index_of_lem at m)) in
        rw is (sym (walk_at_lem k (entry_at img i).records img (entry_at img i).offset (entry_at img i).load pc m (addresses k (omega arith) ∙ sym at)))

    pub index_past : e.records ≤ k → rest 0 0 ≡ rest_in img (entry_at img i) pc
    index_past l = by (body_walk (entry_at img i).records img (entry_at img i).offset (entry_at img i).load pc) (walked (entry_at img i).records img (entry_at img i).offset (entry_at img i).load pc)
      where
        by : (r : _) → Walked (entry_at img i).records img (entry_at img i).offset (entry_at img i).load pc r → rest 0 0 ≡ r
        by _ (nowhere n) = refl
        by _ (somewhere j s a) =
            let z = ends in
            let m : (entry_at img i).records ≤ k = rw is at l in
            let f : (entry_at img i).load + 4 * j ≡ pc = sym (addresses j (omega arith)) ∙ a in
            let x = index_is (entry_at img i).load j (omega arith) in
            let y : index_of (entry_at img i).load pc ≡ j = rw f at x in
            absurd (omega (arith, index_of_lem))
