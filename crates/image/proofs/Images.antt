-- The image's check answers exactly rules 2 and 3, and the first fault.
-- Assumes nothing.
use Rattle.std.proofs.Common.{◌≡◌, ℕ, zero, suc, ◌+◌, ◌-◌, ◌*◌, ◌^◌, ◌<◌, ◌≤◌, Bool, true, false, List, length, sym, refl, ap, ◌∙◌, subst, lt_of_not-le, add-one, arith}
use native.Mathlib.Decide.{dec_le}
use Rattle.image.specs.Table.{entries_of, bodies_of, table_of}
use Rattle.image.specs.Records.{record_at, records_from, total_of, image_of, ImageHolds}
use Rattle.image.specs.Rules.{records_before, TableRight, TableFault, TableSays, RecordAt, ImageRight, ImageSays}
use Rattle.words.specs.Exactly.{Exactly}
use Rattle.words.proofs.Truth.{never}
use Rattle.words.proofs.Answers.{exactly}
use Rattle.image.proofs.Tests.{record_right, right_record}
use Rattle.image.proofs.Tables.{table_says, table_only}
use Rattle.std.specs.Prelude.{Err, Ok, Result, ⊤}
use Rattle.image.specs.declared.table.ImageFault.TheVariants.{Record, Table}
use Rattle.image.specs.declared.table.ImageFault.{ImageFault}

-- ---- sizes
pub before_le : (img : List ℕ) → TableRight img → (i : ℕ) → i ≤ entries_of img → records_before img i ≤ 65536 * i
before_le img t zero h = omega arith
before_le img t (suc i) h = omega (arith, before_le img t i (omega arith), (t.entries i h).most)

-- a table that holds has few records, and they fill the image
pub record Sized (img : List ℕ) : Type 0 where
  pub length_is : length img ≡ bodies_of img + 8 * total_of img
  pub small : total_of img ≤ 2 ^ 20
  pub few : entries_of img ≤ 16

pub table_size : (img : List ℕ) → TableRight img → Sized img
table_size img t =
    let b = before_le img t (entries_of img) (omega arith) in
    let n = t.counted.most in
    let e = t.ends in
    record { length_is = omega arith; small = omega arith; few = n }

-- ---- the cases of a turn
module _ (n : ℕ) (img : List ℕ) (at k : ℕ) where
  pub records_end : records_from 0 img at k ≡ Ok tt
  unfolding records_from
  records_end = refl

  pub records_on : record_at img at ≡ true → records_from (suc n) img at k ≡ records_from n img (at + 8) (k + 1)
  unfolding records_from
  records_on t = rw t

  pub records_fault : record_at img at ≡ false → records_from (suc n) img at k ≡ Err (Record k)
  unfolding records_from
  records_fault t = rw t

-- ---- the records from index k on, those before being right
module _ (img : List ℕ) (g : TableRight img) where
  before_more : (k : ℕ) → ((j : ℕ) → j < k → RecordAt img j) → RecordAt img k → (j : ℕ) → j < suc k → RecordAt img j
  before_more k b r j h = go (dec_le k j)
    where
      go : Dec (k ≤ j) → RecordAt img j
      go (yes p) = let e : k ≡ j = omega arith in subst (RecordAt img) e r
      go (no p) = b j (lt_of_not-le p)

  records_say : (n k : ℕ) → k + n ≡ total_of img → ((j : ℕ) → j < k → RecordAt img j) → ImageSays img (records_from n img (bodies_of img + 8 * k) k)
  records_say zero k e b =
      let s : k ≡ total_of img = omega arith in
      rw (records_end 0 img (bodies_of img + 8 * k) k) (record { table = g; records = subst (λ (x : ℕ). (j : ℕ) → j < x → RecordAt img j) s b })
  records_say (suc n) k e b = go (record_at img (bodies_of img + 8 * k)) refl (records_say n (suc k))
    where
      more : bodies_of img + 8 * k + 8 ≡ bodies_of img + 8 * suc k
      more = omega arith

      go : (t : Bool) → record_at img (bodies_of img + 8 * k) ≡ t
          → (suc k + n ≡ total_of img → ((j : ℕ) → j < suc k → RecordAt img j) → ImageSays img (records_from n img (bodies_of img + 8 * suc k) (suc k)))
          → ImageSays img (records_from (suc n) img (bodies_of img + 8 * k) k)
      go true t r =
          rw (records_on n img (bodies_of img + 8 * k) k t, more, add-one)
          (r (omega arith) (before_more k b (record_right _ _ _ _ t)))
      go false t r =
          rw (records_fault n img (bodies_of img + 8 * k) k t)
          (record { table = g; inside = omega arith; before = b; fault = λ h. never (sym (right_record _ _ _ _ h) ∙ t) })

-- ---- the whole image
module _ (img : List ℕ) where
  pub image_table : (f : ImageFault) → table_of img ≡ Err f → image_of img ≡ Err f
  unfolding image_of
  image_table f e = rw e

  pub image_records : table_of img ≡ Ok tt → image_of img ≡ records_from (total_of img) img (bodies_of img) 0
  unfolding image_of
  image_records e = rw e

  -- the check's answer is what rules 2 and 3 say
  pub image_says : ImageSays img (image_of img)
  image_says = go (table_of img) refl (table_says img)
    where
      first : bodies_of img + 8 * 0 ≡ bodies_of img
      first = omega arith

      go : (t : Result ⊤ ImageFault) → table_of img ≡ t → TableSays img t → ImageSays img (image_of img)
      go (Ok _) e r = rw (image_records e) (rw first at (records_say img r (total_of img) 0 (omega arith) (λ j h. absurd (omega arith))))
      go (Err (Table p)) e r = rw (image_table (Table p) e) r
      go (Err (Record k)) e r = absurd r

  none : {p : ℕ} → TableRight img → TableFault img p → ⊥
  none {p} r s = let z = table_only img (Ok tt) (Err (Table p)) r s in cc

  -- and they say nothing else
  pub image_only : (x y : Result ⊤ ImageFault) → ImageSays img x → ImageSays img y → x ≡ y
  image_only (Ok _) (Ok _) r s = refl
  image_only (Ok _) (Err (Table p)) r s = absurd (none r.table s)
  image_only (Ok _) (Err (Record k)) r s = absurd (s.fault (r.records k s.inside))
  image_only (Err (Table p)) (Ok _) s r = absurd (none r.table s)
  image_only (Err (Table p)) (Err (Table q)) r s = table_only img (Err (Table p)) (Err (Table q)) r s
  image_only (Err (Table p)) (Err (Record k)) r s = absurd (none s.table r)
  image_only (Err (Record k)) (Ok _) s r = absurd (s.fault (r.records k s.inside))
  image_only (Err (Record k)) (Err (Table p)) s r = absurd (none s.table r)
  image_only (Err (Record k)) (Err (Record j)) r s = ap (λ (n : ℕ). Err (Record n)) (go (dec_le k j) (dec_le j k))
    where
      go : Dec (k ≤ j) → Dec (j ≤ k) → k ≡ j
      go (yes p) (yes q) = omega arith
      go (no p) q = absurd (s.fault (r.before j (lt_of_not-le p)))
      go (yes p) (no q) = absurd (r.fault (s.before k (lt_of_not-le q)))

  -- so it is given exactly where they say it
  pub image_exactly : (r : Result ⊤ ImageFault) → r ≡ image_of img → (r ≡ image_of img) × Exactly (ImageSays img) r
  image_exactly = exactly (ImageSays img) (image_of img) image_says (λ x p. image_only x (image_of img) p image_says)

  pub image_right : ImageHolds img → ImageRight img
  image_right e = subst (ImageSays img) e image_says

-- ---- the loop's turns
module _ (img : List ℕ) (at k : ℕ) (is : at ≡ bodies_of img + 8 * k) where
  pub turn_on : k < total_of img → record_at img at ≡ true → records_from (total_of img - (k + 1)) img (at + 8) (k + 1) ≡ records_from (total_of img - k) img at k
  turn_on h t = let j : total_of img - k ≡ suc (total_of img - (k + 1)) = omega arith in rw j (sym (records_on (total_of img - (k + 1)) img at k t))

  pub turn_fault : k < total_of img → record_at img at ≡ false → Err (Record k) ≡ records_from (total_of img - k) img at k
  turn_fault h t = let j : total_of img - k ≡ suc (total_of img - (k + 1)) = omega arith in rw j (sym (records_fault (total_of img - (k + 1)) img at k t))

  pub turn_end : total_of img ≤ k → Ok tt ≡ records_from (total_of img - k) img at k
  turn_end h = let j : total_of img - k ≡ 0 = omega arith in rw j (sym (records_end 0 img at k))

-- ---- where a table holds
pub right_of : (img : List ℕ) → table_of img ≡ Ok tt → TableRight img
right_of img e = subst (TableSays img) e (table_says img)

pub sized : (img : List ℕ) → table_of img ≡ Ok tt → Sized img
sized img e = table_size img (right_of img e)
