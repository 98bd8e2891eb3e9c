-- A test that is a conjunction, and what it tests.
-- Assumes nothing.
use Rattle.std.proofs.Common.{◌≡◌, ℕ, ◌+◌, ◌*◌, ◌/◌, ◌%◌, ◌<◌, ◌≤◌, Bool, true, false, not, ◌&&◌, ◌||◌, eqb, ltb, leb, List, length, get_or, sym, refl, ap, ◌∙◌, ⊎_elim, lt_of_not-le, arith, ltb-true, lt-ltb, eq-eqb, ne_eqb, eqb-true, le-leb, leb-true}
use native.Mathlib.Decide.{dec_le}
use Rattle.words.proofs.Truth.{never, both_true, either_true}
use borrow.Author.Tests.{eqb-false, lt-leb}
use Rattle.operations.specs.Operations.{operations, operation_of, compares}
use Rattle.image.specs.Table.{range_end, entry_fits, entry_holds}
use Rattle.memory.specs.Word.{word_at}
use Rattle.operations.specs.Forms.{is_short, operation_number}
use Rattle.image.specs.Records.{record_holds, record_at}
use Rattle.image.specs.Rules.{EntryRight, RecordRight}
use Rattle.image.specs.declared.table.Entry.{Entry}
use Rattle.operations.proofs.Forms.{byte_number}

-- what an entry's words alone tell
pub record Fits (e : Entry) (start len : ℕ) : Type 0 where
  pub aligned : e.load % 4 ≡ 0
  pub some : 1 ≤ e.records
  pub most : e.records ≤ 0x1_0000
  pub begins : e.offset ≡ start
  pub ends : e.offset + 8 * e.records ≤ len

pub fits : (e : Entry) (start len : ℕ) → entry_fits e start len ≡ true → Fits e start len
unfolding entry_fits
fits e start len h =
    let p5 = both_true _ _ h in
    let p4 = both_true _ _ p5.0 in
    let p3 = both_true _ _ p4.0 in
    let p2 = both_true _ _ p3.0 in
    record {
      aligned = eqb-true (e.load % 4) 0 p2.0;
      some = leb-true 1 e.records p2.1;
      most = leb-true e.records 0x1_0000 p3.1;
      begins = eqb-true e.offset start p4.1;
      ends = leb-true (e.offset + 8 * e.records) len p5.1;
    }

module _ (img : List ℕ) (e : Entry) (start floor : ℕ) where
  pub entry_right : entry_holds img e start floor ≡ true → EntryRight img e start floor
  entry_right h =
      let q = both_true (entry_fits e start (length img) && leb floor e.load) (leb (range_end img e) 0xE000_0000) h in
      let p = both_true (entry_fits e start (length img)) (leb floor e.load) q.0 in
      let f = fits e start (length img) p.0 in
      record {
        aligned = f.aligned;
        some = f.some;
        most = f.most;
        begins = f.begins;
        ascends = leb-true floor e.load p.1;
        below = leb-true (range_end img e) 0xE000_0000 q.1;
        ends = f.ends;
      }

  pub right_entry : EntryRight img e start floor → entry_holds img e start floor ≡ true
  unfolding entry_fits
  right_entry r =
      rw (
        eq-eqb (e.load % 4) 0 r.aligned,
        le-leb 1 e.records r.some,
        le-leb e.records 0x1_0000 r.most,
        eq-eqb e.offset start r.begins,
        le-leb (e.offset + 8 * e.records) (length img) r.ends,
        le-leb floor e.load r.ascends,
        le-leb (range_end img e) 0xE000_0000 r.below,
      )

-- test by test, in the code's order
pub holds_by : (img : List ℕ) (e : Entry) (start floor : ℕ) (x y z : Bool) → entry_fits e start (length img) ≡ x → leb floor e.load ≡ y → leb (range_end img e) 0xE000_0000 ≡ z → entry_holds img e start floor ≡ (x && y && z)
holds_by img e start floor x y z f a b = rw (f, a, b)

module _ (op c a b : ℕ) where
  compared : (leb b 15 || not (compares (operation_of op))) ≡ true → compares (operation_of op) ≡ true → b ≤ 15
  compared h t =
      ⊎_elim (λ s. leb-true b 15 s) (λ s. absurd (never (sym (sym (ap not t) ∙ s))))
      (either_true (leb b 15) (not (compares (operation_of op))) h)

  pub record_right : record_holds op c a b ≡ true → RecordRight op c a b
  unfolding record_holds
  record_right h =
      let p5 = both_true _ _ h in
      let p4 = both_true _ _ p5.0 in
      let p3 = both_true _ _ p4.0 in
      let p2 = both_true _ _ p3.0 in
      record {
        operation = ltb-true op (length operations) p2.0;
        result = leb-true c 15 p2.1;
        first = leb-true a 15 p3.1;
        second = leb-true b 16 p4.1;
        compared = compared p5.1;
      }

  -- an operation that compares has no immediate
  second_true : RecordRight op c a b → (leb b 15 || not (compares (operation_of op))) ≡ true
  second_true r = go (compares (operation_of op)) refl
    where
      either : (t : Bool) → (t || true) ≡ true
      either true = refl
      either false = refl

      go : (t : Bool) → compares (operation_of op) ≡ t → (leb b 15 || not t) ≡ true
      go true e = rw (le-leb b 15 (r.compared e))
      go false e = either (leb b 15)

  pub right_record : RecordRight op c a b → record_holds op c a b ≡ true
  unfolding record_holds
  right_record r =
      rw (lt-ltb op (length operations) r.operation, le-leb c 15 r.result, le-leb a 15 r.first, le-leb b 16 r.second) (second_true r)

-- ---- a record's first word
module _ (w : ℕ) where
  -- its operation, as the code computes it
  pub word_number : w % 128 ≡ operation_number (w % 256)
  word_number = let h : w % 256 < 256 = omega arith in let e : w % 128 ≡ w % 256 % 128 = omega arith in e ∙ byte_number (w % 256) h

  pub word_form : eqb (w / 128 % 2) 0 ≡ not (is_short (w % 256))
  word_form = by (dec_le 128 (w % 256))
    where
      by : Dec (128 ≤ w % 256) → eqb (w / 128 % 2) 0 ≡ not (is_short (w % 256))
      by (yes h) = rw (le-leb 128 (w % 256) h) (ne_eqb (w / 128 % 2) 0 (λ e. omega arith))
      by (no h) = let l = lt_of_not-le h in rw (lt-leb 128 (w % 256) l) (eq-eqb (w / 128 % 2) 0 (omega arith))

module _ (x y z t : ℕ) (hx : x < 256) (hy : y < 256) (hz : z < 256) where
  byte_0 : (x + 0x100 * y + 0x1_0000 * z + 0x100_0000 * t) % 256 ≡ x
  byte_0 = omega arith

  byte_1 : (x + 0x100 * y + 0x1_0000 * z + 0x100_0000 * t) / 256 % 256 ≡ y
  byte_1 = omega arith

  byte_2 : (x + 0x100 * y + 0x1_0000 * z + 0x100_0000 * t) / 65536 % 256 ≡ z
  byte_2 = omega arith

  byte_3 : (x + 0x100 * y + 0x1_0000 * z + 0x100_0000 * t) / 16777216 ≡ t
  byte_3 = omega arith

-- the record's bytes are those of its first word
module _ (img : List ℕ) (at w : ℕ) (b : (j : ℕ) → get_or img j 0 < 256) (e : w ≡ word_at img at) where
  pub word_record : record_holds (operation_number (w % 256)) (w / 256 % 256) (w / 65536 % 256) (w / 16777216) ≡ record_at img at
  unfolding word_at
  word_record =
      rw (
        e,
        byte_0 (get_or img at 0) (get_or img (at + 1) 0) (get_or img (at + 2) 0) (get_or img (at + 3) 0) (b at) (b (at + 1)) (b (at + 2)),
        byte_1 (get_or img at 0) (get_or img (at + 1) 0) (get_or img (at + 2) 0) (get_or img (at + 3) 0) (b at) (b (at + 1)) (b (at + 2)),
        byte_2 (get_or img at 0) (get_or img (at + 1) 0) (get_or img (at + 2) 0) (get_or img (at + 3) 0) (b at) (b (at + 1)) (b (at + 2)),
        byte_3 (get_or img at 0) (get_or img (at + 1) 0) (get_or img (at + 2) 0) (get_or img (at + 3) 0) (b at) (b (at + 1)) (b (at + 2)),
      )

  pub word_short : is_short (w % 256) ≡ is_short (get_or img at 0)
  unfolding word_at
  word_short = rw (e, byte_0 (get_or img at 0) (get_or img (at + 1) 0) (get_or img (at + 2) 0) (get_or img (at + 3) 0) (b at) (b (at + 1)) (b (at + 2)))

-- a record's first word, by the high halves of c, a and b
module _ (w op : ℕ) where
  result_fits : eqb (w / 4096 % 16) 0 ≡ true → leb (w / 256 % 256) 15 ≡ true
  result_fits e = let z = eqb-true (w / 4096 % 16) 0 e in le-leb (w / 256 % 256) 15 (omega arith)

  first_fits : eqb (w / 1048576 % 16) 0 ≡ true → leb (w / 65536 % 256) 15 ≡ true
  first_fits e = let z = eqb-true (w / 1048576 % 16) 0 e in le-leb (w / 65536 % 256) 15 (omega arith)

  result_over : eqb (w / 4096 % 16) 0 ≡ false → leb (w / 256 % 256) 15 ≡ false
  result_over e = let z = eqb-false (w / 4096 % 16) 0 e in lt-leb (w / 256 % 256) 15 (omega (arith, z))

  first_over : eqb (w / 1048576 % 16) 0 ≡ false → leb (w / 65536 % 256) 15 ≡ false
  first_over e = let z = eqb-false (w / 1048576 % 16) 0 e in lt-leb (w / 65536 % 256) 15 (omega (arith, z))

  -- b is one too: the operation is left
  pub all_registers : (eqb (w / 4096 % 16) 0 && eqb (w / 1048576 % 16) 0 && eqb (w / 268435456) 0) ≡ true → record_holds op (w / 256 % 256) (w / 65536 % 256) (w / 16777216) ≡ ltb op (length operations)
  unfolding record_holds
  all_registers e =
      let p = both_true _ _ e in
      let q = both_true _ _ p.0 in
      let z = eqb-true (w / 268435456) 0 p.1 in
      let k : w / 16777216 ≤ 15 = omega arith in
      let l : w / 16777216 ≤ 16 = omega arith in
      rw (result_fits q.0, first_fits q.1, le-leb _ _ k, le-leb _ _ l) (operation (ltb op (length operations)))
    where
      operation : (x : Bool) → (x && true && true && true && true) ≡ x
      operation true = refl
      operation false = refl

  -- b is none: 16, and no operation that compares
  pub with_immediate : (eqb (w / 4096 % 16) 0 && eqb (w / 1048576 % 16) 0 && eqb (w / 268435456) 0) ≡ false
      → record_holds op (w / 256 % 256) (w / 65536 % 256) (w / 16777216) ≡ (eqb (w / 4096 % 16) 0 && eqb (w / 1048576 % 16) 0 && eqb (w / 16777216) 16 && ltb op (length operations) && not (compares (operation_of op)))
  unfolding record_holds
  with_immediate e = by (eqb (w / 4096 % 16) 0) (eqb (w / 1048576 % 16) 0) refl refl e
    where
      none : (p x y z : Bool) → (p && false && x && y && z) ≡ false
      none true x y z = refl
      none false x y z = refl

      none_first : (p x y : Bool) → (p && true && false && x && y) ≡ false
      none_first true x y = refl
      none_first false x y = refl

      turned : (p x n : Bool) → (p && true && true && x && n) ≡ (true && true && x && p && n)
      turned true x n = sym (and_true x n)
        where
          and_true : (x n : Bool) → (x && true && n) ≡ (x && n)
          and_true true n = refl
          and_true false n = refl
      turned false true n = refl
      turned false false n = refl

      past : 16 ≤ w / 16777216 → leb (w / 16777216) 16 ≡ eqb (w / 16777216) 16
      past h = go (dec_le (w / 16777216) 16)
        where
          go : Dec (w / 16777216 ≤ 16) → leb (w / 16777216) 16 ≡ eqb (w / 16777216) 16
          go (yes l) = let s : w / 16777216 ≡ 16 = omega arith in rw (le-leb _ _ l, eq-eqb _ _ s)
          go (no l) = let m = lt_of_not-le l in rw (lt-leb _ _ m, ne_eqb (w / 16777216) 16 (λ s. omega arith))

      by : (x y : Bool) → eqb (w / 4096 % 16) 0 ≡ x → eqb (w / 1048576 % 16) 0 ≡ y → (x && y && eqb (w / 268435456) 0) ≡ false
          → (ltb op (length operations) && leb (w / 256 % 256) 15 && leb (w / 65536 % 256) 15 && leb (w / 16777216) 16 && (leb (w / 16777216) 15 || not (compares (operation_of op)))) ≡ (x && y && eqb (w / 16777216) 16 && ltb op (length operations) && not (compares (operation_of op)))
      by true true c a f =
          let z = eqb-false (w / 268435456) 0 f in
          let h : 16 ≤ w / 16777216 = omega (arith, z) in
          rw (result_fits c, first_fits a, lt-leb (w / 16777216) 15 h, past h) (turned (ltb op (length operations)) (eqb (w / 16777216) 16) (not (compares (operation_of op))))
      by false y c a f = rw (result_over c) (none (ltb op (length operations)) (leb (w / 65536 % 256) 15) (leb (w / 16777216) 16) (leb (w / 16777216) 15 || not (compares (operation_of op))))
      by true false c a f = rw (result_fits c, first_over a) (none_first (ltb op (length operations)) (leb (w / 16777216) 16) (leb (w / 16777216) 15 || not (compares (operation_of op))))
