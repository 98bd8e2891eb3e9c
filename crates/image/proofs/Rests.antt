-- The records from a PC on: the loop's turns, and which records they are.
-- Assumes nothing.
use Rattle.std.proofs.Common.{◌≡◌, ℕ, zero, suc, ◌+◌, ◌-◌, ◌*◌, ◌<◌, ◌≤◌, Bool, true, false, cond, eqb, List, sym, refl, ap, ◌∙◌, subst, lt_of_not-le, add-one, arith, eq-eqb, ne_eqb, eqb-true}
use native.Mathlib.Decide.{dec_le}
use borrow.Author.Tests.{eqb-false}
use Rattle.image.specs.Table.{entries_of, entry_at, range_end}
use Rattle.image.specs.Rest.{rest, rest_in, rest_from, rest_of, entry_from, entry_of, record_address, Begins}
use Rattle.image.specs.Rules.{TableRight}
use Rattle.image.specs.declared.fetch.Rest.{Rest}
use Rattle.image.proofs.Addresses.{after_low, after_less, after_same}
use Rattle.image.proofs.Walks.{Walked, nowhere, somewhere, walked, walk_at_lem}

-- ---- the loop's turns
module _ (n : ℕ) (img : List ℕ) (i pc : ℕ) (h : i < n) (r : Rest) (is : r ≡ rest_in img (entry_at img i) pc) where
  left : n - i ≡ suc (n - (i + 1))
  left = omega arith

  pub turn_past : r.records ≡ 0 → rest_from (n - (i + 1)) img (i + 1) pc ≡ rest_from (n - i) img i pc
  unfolding rest_from
  turn_past t = rw (left, ← is, eq-eqb r.records 0 t)

  pub turn_here : (r.records ≡ 0 → ⊥) → r ≡ rest_from (n - i) img i pc
  unfolding rest_from
  turn_here t = rw (left, ← is, ne_eqb r.records 0 t)

  pub entry_past : r.records ≡ 0 → entry_from (n - (i + 1)) img (i + 1) pc ≡ entry_from (n - i) img i pc
  unfolding entry_from
  entry_past t = rw (left, ← is, eq-eqb r.records 0 t)

  pub entry_here : (r.records ≡ 0 → ⊥) → i ≡ entry_from (n - i) img i pc
  unfolding entry_from
  entry_here t = rw (left, ← is, ne_eqb r.records 0 t)

pub entry_end : (n : ℕ) (img : List ℕ) (i pc : ℕ) → n ≤ i → 0 ≡ entry_from (n - i) img i pc
unfolding entry_from
entry_end n img i pc h = let j : n - i ≡ 0 = omega arith in rw j

pub turn_end : (n : ℕ) (img : List ℕ) (i pc : ℕ) → n ≤ i → rest 0 0 ≡ rest_from (n - i) img i pc
unfolding rest_from
turn_end n img i pc h = let j : n - i ≡ 0 = omega arith in rw j

-- ---- the records from pc on are none, or those of one body
pub data Stands (img : List ℕ) (pc : ℕ) : Rest → Type 0 where
  none : ((i j : ℕ) → Begins img pc i j → ⊥) → Stands img pc (rest 0 0)
  some : (i j : ℕ) → Begins img pc i j → Stands img pc (rest ((entry_at img i).records - j) ((entry_at img i).offset + 8 * j))

module _ (img : List ℕ) (pc : ℕ) where
  -- a body that has a record at pc
  has_some : (i j : ℕ) → Begins img pc i j → (rest_in img (entry_at img i) pc).records ≡ 0 → ⊥
  has_some i j (h, k, e) z =
      let w = ap (λ (x : Rest). x.records) (walk_at_lem j (entry_at img i).records img (entry_at img i).offset (entry_at img i).load pc k (sym e)) in
      omega arith

  -- no record of the entries before place i begins at pc
  Past : ℕ → Type 0
  Past i = (j : ℕ) → j < i → (rest_in img (entry_at img j) pc).records ≡ 0

  past_more : (i : ℕ) → Past i → (rest_in img (entry_at img i) pc).records ≡ 0 → Past (suc i)
  unfolding Past
  past_more i b r j h = go (dec_le i j)
    where
      go : Dec (i ≤ j) → (rest_in img (entry_at img j) pc).records ≡ 0
      go (yes p) = let e : i ≡ j = omega arith in subst (λ (x : ℕ). (rest_in img (entry_at img x) pc).records ≡ 0) e r
      go (no p) = b j (lt_of_not-le p)

  in_body : (i : ℕ) → i < entries_of img → ((rest_in img (entry_at img i) pc).records ≡ 0 → ⊥) → Stands img pc (rest_in img (entry_at img i) pc)
  in_body i h = by (rest_in img (entry_at img i) pc) (walked (entry_at img i).records img (entry_at img i).offset (entry_at img i).load pc)
    where
      by : (r : Rest) → Walked (entry_at img i).records img (entry_at img i).offset (entry_at img i).load pc r → (r.records ≡ 0 → ⊥) → Stands img pc r
      by _ (nowhere n) d = absurd (d refl)
      by _ (somewhere j k e) d = some i j (h, k, sym e)

  stands_from : (k i : ℕ) → i + k ≡ entries_of img → Past i → Stands img pc (rest_from k img i pc)
  unfolding rest_from Past
  stands_from zero i e b = none (λ k j s. has_some k j s (b k (omega (arith, s.0))))
  stands_from (suc k) i e b = go (eqb (rest_in img (entry_at img i) pc).records 0) refl (stands_from k (suc i))
    where
      go : (t : Bool) → eqb (rest_in img (entry_at img i) pc).records 0 ≡ t
          → (suc i + k ≡ entries_of img → Past (suc i) → Stands img pc (rest_from k img (suc i) pc))
          → Stands img pc (cond t (rest_from k img (i + 1) pc) (rest_in img (entry_at img i) pc))
      go false t r = in_body i (omega arith) (eqb-false _ _ t)
      go true t r = rw add-one (r (omega arith) (past_more i b (eqb-true _ _ t)))

  pub stands : Stands img pc (rest_of img pc)
  unfolding rest_of Past
  stands = stands_from (entries_of img) 0 (omega arith) (λ j h. absurd (omega arith))

-- the body whose walk finds a record has it
in_entry : (img : List ℕ) (pc i : ℕ) → i < entries_of img → (r : Rest) → r ≡ rest_in img (entry_at img i) pc → 0 < r.records → Begins img pc i ((entry_at img i).records - r.records)
in_entry img pc i h r is = rw is (by (rest_in img (entry_at img i) pc) (walked (entry_at img i).records img (entry_at img i).offset (entry_at img i).load pc))
  where
    by : (r : Rest) → Walked (entry_at img i).records img (entry_at img i).offset (entry_at img i).load pc r → 0 < r.records → Begins img pc i ((entry_at img i).records - r.records)
    by _ (nowhere n) l = absurd (omega arith)
    by _ (somewhere j k e) l =
        let z : (entry_at img i).records - ((entry_at img i).records - j) ≡ j = omega arith in
        rw z (h, k, sym e)

-- the records from pc on are those of the entry's body
entry_has : (img : List ℕ) (pc k i : ℕ) → i + k ≡ entries_of img → 0 < (rest_from k img i pc).records
    → (entry_from k img i pc < entries_of img) × (rest_from k img i pc ≡ rest_in img (entry_at img (entry_from k img i pc)) pc)
unfolding rest_from entry_from
entry_has img pc zero i e h = absurd (omega arith)
entry_has img pc (suc k) i e h = go (eqb (rest_in img (entry_at img i) pc).records 0) (entry_has img pc k (i + 1)) h
  where
    go : (t : Bool)
        → (i + 1 + k ≡ entries_of img → 0 < (rest_from k img (i + 1) pc).records → (entry_from k img (i + 1) pc < entries_of img) × (rest_from k img (i + 1) pc ≡ rest_in img (entry_at img (entry_from k img (i + 1) pc)) pc))
        → 0 < (cond t (rest_from k img (i + 1) pc) (rest_in img (entry_at img i) pc)).records
        → (cond t (entry_from k img (i + 1) pc) i < entries_of img) × (cond t (rest_from k img (i + 1) pc) (rest_in img (entry_at img i) pc) ≡ rest_in img (entry_at img (cond t (entry_from k img (i + 1) pc) i)) pc)
    go true r l = r (omega arith) l
    go false r l = (omega arith, refl)

pub entry_begins : (img : List ℕ) (pc : ℕ) → 0 < (rest_of img pc).records → Begins img pc (entry_of img pc) ((entry_at img (entry_of img pc)).records - (rest_of img pc).records)
unfolding rest_of entry_of
entry_begins img pc h = let (l, e) = entry_has img pc (entries_of img) 0 (omega arith) h in in_entry img pc (entry_of img pc) l (rest_of img pc) e h

-- ---- one record begins at pc, since code ranges ascend and don't overlap
module _ (img : List ℕ) (g : TableRight img) where
  -- the code range of an entry ends at the latest where that of a later one begins
  ascends : (i k : ℕ) → suc i + k < entries_of img → range_end img (entry_at img i) ≤ (entry_at img (suc i + k)).load
  ascends i zero h = let z : suc i + 0 ≡ suc i = omega arith in subst (λ (x : ℕ). range_end img (entry_at img i) ≤ (entry_at img x).load) (sym z) (g.entries (suc i) (omega arith)).ascends
  ascends i (suc k) h =
      let before = ascends i k (omega arith) in
      let e = entry_at img (suc i + k) in
      let grows = after_low e.records img e.offset e.load in
      let floor = (g.entries (suc (suc i + k)) (omega arith)).ascends in
      let z : suc i + suc k ≡ suc (suc i + k) = omega arith in
      subst (λ (x : ℕ). range_end img (entry_at img i) ≤ (entry_at img x).load) (sym z) (omega arith)

  later : (pc i j k l : ℕ) → Begins img pc i j → Begins img pc k l → i < k → ⊥
  later pc i j k l (p, q, e) (s, t, f) h =
      let d = k - suc i in
      let z : suc i + d ≡ k = omega arith in
      let a = subst (λ (x : ℕ). range_end img (entry_at img i) ≤ (entry_at img x).load) z (ascends i d (omega arith)) in
      let b = after_less j (entry_at img i).records img (entry_at img i).offset (entry_at img i).load (omega arith) in
      let c = after_low l img (entry_at img k).offset (entry_at img k).load in
      omega arith

  once : (pc i j k l : ℕ) → Begins img pc i j → Begins img pc k l → i ≡ k
  once pc i j k l b c = go (dec_le i k) (dec_le k i)
    where
      go : Dec (i ≤ k) → Dec (k ≤ i) → i ≡ k
      go (yes p) (yes q) = omega arith
      go (no p) q = absurd (later pc k l i j c b (lt_of_not-le p))
      go (yes p) (no q) = absurd (later pc i j k l b c (lt_of_not-le q))

  -- the records from a record on
  pub rest_of_lem : (pc i j : ℕ) → Begins img pc i j → rest_of img pc ≡ rest ((entry_at img i).records - j) ((entry_at img i).offset + 8 * j)
  rest_of_lem pc i j b = by (rest_of img pc) (stands img pc)
    where
      by : (r : Rest) → Stands img pc r → r ≡ rest ((entry_at img i).records - j) ((entry_at img i).offset + 8 * j)
      by _ (none n) = absurd (n i j b)
      by _ (some k l c) =
          let e : k ≡ i = once pc k l i j c b in
          let f : pc ≡ record_address img i l = subst (λ (x : ℕ). pc ≡ record_address img x l) e c.2 in
          let d : l ≡ j = after_same l j img (entry_at img i).offset (entry_at img i).load (sym f ∙ b.2) in
          rw (e, d)
