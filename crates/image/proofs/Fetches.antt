-- The fetch: the records from a PC on, one after the other, and their bounds.
-- Assumes nothing.
use Rattle.std.proofs.Common.{◌≡◌, ℕ, ◌+◌, ◌-◌, ◌*◌, ◌<◌, ◌≤◌, true, List, length, sym, refl, ◌∙◌, subst, arith, eq-eqb, ne_eqb}
use Rattle.image.specs.Lengths.{address_after}
use Rattle.image.specs.Table.{entry_at, bodies_of}
use Rattle.image.specs.Records.{total_of}
use Rattle.image.specs.Rest.{rest, rest_of, record_address, Begins}
use Rattle.image.specs.Rules.{records_before, EntryAt, ImageRight}
use Rattle.image.specs.Fetch.{instruction_at, fetch_by, fetch_of, FieldsHold, FetchSays}
use Rattle.image.specs.declared.fetch.Rest.{Rest}
use Rattle.image.specs.Marks.{long_only}
use Rattle.image.proofs.Addresses.{after_join, after_rest}
use Rattle.image.proofs.Long.{addresses}
use Rattle.image.proofs.Rests.{Stands, none, some, stands, rest_of_lem}
use Rattle.std.specs.Prelude.{None, Some}

-- ---- a record that begins somewhere lies in the image, and is one that rule 3 has tried
module _ (img : List ℕ) (g : ImageRight img) (pc i j : ℕ) (b : Begins img pc i j) where
  entry : EntryAt img i
  entry = g.table.entries i b.0

  index : ℕ
  index = records_before img i + j

  at_index : (entry_at img i).offset + 8 * j ≡ bodies_of img + 8 * index
  unfolding index
  at_index = let s = entry.begins in omega arith

  index_inside : index < total_of img
  index_inside = let e = entry.ends in omega (arith, at_index, b.1)

  record_bounded : (q : ℕ) → FieldsHold (instruction_at img ((entry_at img i).offset + 8 * j) q)
  unfolding instruction_at
  record_bounded q = rw at_index (let r = g.records index index_inside in (omega (arith, r.result), omega (arith, r.first), r.second, λ t. (let k = r.compared t in omega arith)))

-- ---- the records from pc on
-- where the record that is j after the one at pc begins
abbrev pub onward : List ℕ → ℕ → ℕ → ℕ
onward img pc j = address_after j img (rest_of img pc).at pc

pub record RestBounds (img : List ℕ) (pc : ℕ) (r : Rest) : Type 0 where
  pub most : r.records ≤ 0x1_0000
  pub below : address_after r.records img r.at pc ≤ 0xE000_0000
  pub inside : r.at + 8 * r.records ≤ length img

module _ (img : List ℕ) (g : ImageRight img) (pc : ℕ) where
  pub rest_bounds : 0 < (rest_of img pc).records → RestBounds img pc (rest_of img pc)
  rest_bounds = by (rest_of img pc) (stands img pc)
    where
      by : (r : Rest) → Stands img pc r → 0 < r.records → RestBounds img pc r
      by _ (none n) h = absurd (omega arith)
      by _ (some i j b) h =
          let e = g.table.entries i b.0 in
          let w = after_rest j (entry_at img i).records img (entry_at img i).offset (entry_at img i).load (omega (arith, b.1)) in
          let l = subst (λ (x : ℕ). address_after ((entry_at img i).records - j) img ((entry_at img i).offset + 8 * j) x ≡ address_after (entry_at img i).records img (entry_at img i).offset (entry_at img i).load) (sym b.2) w in
          record { most = omega (arith, e.most); below = omega (arith, l, e.below); inside = omega (arith, e.ends) }

  pub record Next (j : ℕ) : Type 0 where
    pub rest_is : rest_of img (onward img pc j) ≡ rest ((rest_of img pc).records - j) ((rest_of img pc).at + 8 * j)
    pub fields : (q : ℕ) → FieldsHold (instruction_at img ((rest_of img pc).at + 8 * j) q)

  pub next : (j : ℕ) → j < (rest_of img pc).records → Next j
  next j h = by (rest_of img pc) refl (stands img pc) h
    where
      by : (r : Rest) → rest_of img pc ≡ r → Stands img pc r → j < r.records → Next j
      by _ e (none n) l = absurd (omega arith)
      by _ e (some i k b) l =
          let w = after_join k j img (entry_at img i).offset (entry_at img i).load in
          let f : address_after j img ((entry_at img i).offset + 8 * k) pc ≡ record_address img i (k + j) = rw b.2 (sym w) in
          let later : Begins img (address_after j img ((entry_at img i).offset + 8 * k) pc) i (k + j) = (b.0, omega arith, f) in
          let n : (entry_at img i).records - (k + j) ≡ (entry_at img i).records - k - j = omega arith in
          let a : (entry_at img i).offset + 8 * (k + j) ≡ (entry_at img i).offset + 8 * k + 8 * j = omega arith in
          record {
            rest_is = rw e (rest_of_lem img g.table (address_after j img ((entry_at img i).offset + 8 * k) pc) i (k + j) later ∙ rw (n, a));
            fields = λ q. rw (e, ← a) (record_bounded img g (address_after j img ((entry_at img i).offset + 8 * k) pc) i (k + j) later q);
          }

  -- of the first of them
  pub first_fields : 0 < (rest_of img pc).records → (q : ℕ) → FieldsHold (instruction_at img (rest_of img pc).at q)
  first_fields h q = let z : (rest_of img pc).at + 8 * 0 ≡ (rest_of img pc).at = omega arith in rw z at ((next 0 h).fields q)

-- ---- the fetch is the first of them
module _ (img : List ℕ) (pc : ℕ) where
  pub fetch_none : (rest_of img pc).records ≡ 0 → None ≡ fetch_of img pc
  unfolding fetch_of
  fetch_none h = rw (eq-eqb (rest_of img pc).records 0 h)

  pub fetch_first : 0 < (rest_of img pc).records → Some (instruction_at img (rest_of img pc).at pc) ≡ fetch_of img pc
  unfolding fetch_of
  fetch_first h = rw (ne_eqb (rest_of img pc).records 0 (λ e. omega arith))

  pub fetch_says : FetchSays img pc (fetch_of img pc)
  unfolding fetch_of
  fetch_says = by (rest_of img pc) (stands img pc)
    where
      by : (r : Rest) → Stands img pc r → FetchSays img pc (fetch_by img pc r)
      by _ (none n) = n
      by _ (some i j b) = rw (ne_eqb ((entry_at img i).records - j) 0 (λ e. omega (arith, b.1))) (i, j, b, refl)

-- the record that is j after pc is fetched at its address
pub fetch_next : (img : List ℕ) → ImageRight img → (pc j : ℕ) → j < (rest_of img pc).records
    → fetch_of img (onward img pc j) ≡ Some (instruction_at img ((rest_of img pc).at + 8 * j) (onward img pc j))
unfolding fetch_of
fetch_next img g pc j h =
    let n = next img g pc j h in
    rw (n.rest_is, ne_eqb ((rest_of img pc).records - j) 0 (λ e. omega arith))

-- where no record is short, they begin at each fourth address
pub rest_long_lem : (img : List ℕ) → ImageRight img → long_only img ≡ true → (pc j : ℕ) → 0 < (rest_of img pc).records → j ≤ (rest_of img pc).records → onward img pc j ≡ pc + 4 * j
rest_long_lem img g p pc j = by (rest_of img pc) (stands img pc)
  where
    by : (r : Rest) → Stands img pc r → 0 < r.records → j ≤ r.records → address_after j img r.at pc ≡ pc + 4 * j
    by _ (none n) h l = absurd (omega arith)
    by _ (some i k b) h l =
        let each = addresses img g p i b.0 in
        let w = after_join k j img (entry_at img i).offset (entry_at img i).load in
        let f : address_after j img ((entry_at img i).offset + 8 * k) pc ≡ record_address img i (k + j) = rw b.2 (sym w) in
        omega (arith, f, b.2, each k (omega arith), each (k + j) (omega (arith, b.1)))
