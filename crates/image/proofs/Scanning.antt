-- The records are tried one by one, or several at a time.
-- Assumes nothing.
use Rattle.std.proofs.Common.{◌≡◌, ℕ, zero, suc, ◌+◌, ◌-◌, ◌*◌, ◌/◌, ◌%◌, ◌<◌, ◌≤◌, Bool, true, false, cond, not, ◌&&◌, eqb, List, get_or, sym, refl, ◌∙◌, arith, ne_eqb}
use native.Mathlib.Nat.{sub-zero}
use mathlib.Core.Bool.{and_assoc}
use borrow.Author.Tests.{not-false}
use Rattle.words.proofs.Truth.{never}
use Rattle.memory.specs.Word.{word_at}
use Rattle.operations.specs.Forms.{is_short, operation_number}
use Rattle.image.specs.Table.{bodies_of}
use Rattle.image.specs.Records.{record_holds, record_at, records_from, total_of}
use Rattle.image.specs.Marks.{long_from, long_only}
use Rattle.image.proofs.Tests.{word_form, word_record, word_short}
use Rattle.image.proofs.Images.{turn_on, turn_fault, turn_end}
use Rattle.image.proofs.Long.{and_one, pass_first, pass_on, pass_end}
use Rattle.std.specs.Prelude.{Err, Ok, Result, is_ok, ⊤}
use Rattle.image.specs.declared.table.ImageFault.{ImageFault}
use Rattle.image.specs.declared.table.ImageFault.TheVariants.{Record}

-- ---- whether they all hold
pub held_is : (c : Result ⊤ ImageFault) → is_ok c ≡ true → c ≡ Ok tt
held_is (Ok _) e = refl
held_is (Err f) e = absurd (never (sym e))

held_more : (n : ℕ) (img : List ℕ) (at k : ℕ) → is_ok (records_from (suc n) img at k) ≡ (record_at img at && is_ok (records_from n img (at + 8) (k + 1)))
unfolding records_from
held_more n img at k = by (record_at img at)
  where
    by : (b : Bool) → is_ok (cond b (records_from n img (at + 8) (k + 1)) (Err (Record k))) ≡ (b && is_ok (records_from n img (at + 8) (k + 1)))
    by true = refl
    by false = refl

module _ (img : List ℕ) (hold : Bool) where
  pub held_first : hold ≡ true → (hold && is_ok (records_from (total_of img - 0) img (bodies_of img + 8 * 0) 0)) ≡ is_ok (records_from (total_of img) img (bodies_of img) 0)
  held_first e =
      let z : total_of img - 0 ≡ total_of img = omega arith in
      let y : bodies_of img + 8 * 0 ≡ bodies_of img = omega arith in
      rw (e, z, y)

  pub held_on : (k : ℕ) → k < total_of img
      → (hold && record_at img (bodies_of img + 8 * k) && is_ok (records_from (total_of img - (k + 1)) img (bodies_of img + 8 * (k + 1)) (k + 1)))
      ≡ (hold && is_ok (records_from (total_of img - k) img (bodies_of img + 8 * k) k))
  held_on k h =
      let z : total_of img - k ≡ suc (total_of img - (k + 1)) = omega arith in
      let y : bodies_of img + 8 * (k + 1) ≡ bodies_of img + 8 * k + 8 = omega arith in
      rw (z, y, held_more (total_of img - (k + 1)) img (bodies_of img + 8 * k) k)
      (and_assoc hold (record_at img (bodies_of img + 8 * k)) (is_ok (records_from (total_of img - (k + 1)) img (bodies_of img + 8 * k + 8) (k + 1))))

  pub held_end : (k : ℕ) → total_of img ≤ k → (hold && is_ok (records_from (total_of img - k) img (bodies_of img + 8 * k) k)) ≡ hold
  held_end k h = rw (← turn_end img (bodies_of img + 8 * k) k refl h) (and_one hold)

-- ---- one by one
none_more : (n k : ℕ) → eqb (n + k) 0 ≡ (eqb n 0 && eqb k 0)
none_more zero k = let e : 0 + k ≡ k = omega arith in rw e
none_more (suc n) k = rw (ne_eqb (suc n + k) 0 (λ e. omega arith), ne_eqb (suc n) 0 (λ e. omega arith))

-- the first k are in order, and `long` tells whether they are long
pub record Scanned (img : List ℕ) (k : ℕ) (long : Bool) : Type 0 where
  pub check : records_from (total_of img - k) img (bodies_of img + 8 * k) k ≡ records_from (total_of img) img (bodies_of img) 0
  pub long_is : (long && long_from (total_of img - k) img (bodies_of img + 8 * k)) ≡ long_only img

module _ (img : List ℕ) where
  pub scanned_first : Scanned img 0 true
  scanned_first =
      let y : bodies_of img + 8 * 0 ≡ bodies_of img = omega arith in
      record { check = rw (y, sub-zero); long_is = pass_first img true refl }

  module _ (k : ℕ) (long : Bool) (c : Scanned img k long) where
    pub scanned_end : total_of img ≤ k → (Ok tt ≡ records_from (total_of img) img (bodies_of img) 0) × (long ≡ long_only img)
    scanned_end h = (turn_end img (bodies_of img + 8 * k) k refl h ∙ c.check, sym (pass_end img long k h) ∙ c.long_is)

    pub scanned_fault : k < total_of img → record_at img (bodies_of img + 8 * k) ≡ false → Err (Record k) ≡ records_from (total_of img) img (bodies_of img) 0
    scanned_fault h t = turn_fault img (bodies_of img + 8 * k) k refl h t ∙ c.check

    pub scanned_on : k < total_of img → record_at img (bodies_of img + 8 * k) ≡ true → Scanned img (k + 1) (long && not (is_short (get_or img (bodies_of img + 8 * k) 0)))
    scanned_on h t =
        let y : bodies_of img + 8 * (k + 1) ≡ bodies_of img + 8 * k + 8 = omega arith in
        record { check = rw y (turn_on img (bodies_of img + 8 * k) k refl h t) ∙ c.check; long_is = pass_on img long k h ∙ c.long_is }

    -- the same by the record's first word, where the short ones are counted
    pub scanned_word : (short : ℕ) → long ≡ eqb short 0 → k < total_of img → (w : ℕ) → ((j : ℕ) → get_or img j 0 < 256) → w ≡ word_at img (bodies_of img + 8 * k) → (fits : Bool) → fits ≡ record_holds (operation_number (w % 256)) (w / 256 % 256) (w / 65536 % 256) (w / 16777216) → not fits ≡ false
        → Scanned img (k + 1) (eqb (short + w / 128 % 2) 0)
    scanned_word short g h w known e fits f t =
        let at = bodies_of img + 8 * k in
        rw (none_more short (w / 128 % 2), ← g, word_form w, word_short img at w known e) (scanned_on h (sym (f ∙ word_record img at w known e) ∙ not-false fits t))
