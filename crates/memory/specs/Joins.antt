-- Data of each width in one of two windows is that data of both. The widths' `impl`s cite this.
-- Assumes nothing.
use mathlib.Core.Path.{◌≡◌, sym, ap, ◌∙◌}
use mathlib.Core.List.{List, [], ◌∷◌, ◌++◌}
use Prim.Native.Nat.{ℕ, ◌+◌, ◌/◌, ◌%◌, ◌≤◌, ◌<◌}
use native.Mathlib.Nat.{suc-add, zero-add, add_assoc}
use native.Mathlib.Omega.{arith}
use lib.ListN.{length, get_or, set, length-set, get_or-append}
use lib.Seq.{set-append_left, get_or-append-add}
use Rattle.memory.specs.Word.{half_at, word_at, put_byte, put_half, put_word}
use Rattle.memory.specs.Width.{Joins}

pub set_append_add : (xs ys : List ℕ) (n v : ℕ) → set (xs ++ ys) (length xs + n) v ≡ xs ++ set ys n v
set_append_add [] ys n v = rw zero-add
set_append_add (x ∷ xs) ys n v = rw suc-add (ap (λ (r : List ℕ). x ∷ r) (set_append_add xs ys n v))

-- ---- reading
module _ (s t : List ℕ) where
  first_byte : (i : ℕ) → i < length s → get_or (s ++ t) i 0 ≡ get_or s i 0
  first_byte i h = get_or-append s t 0 i h

  -- byte d of what begins at byte k of the second
  second_next : (k d : ℕ) → get_or (s ++ t) (length s + k + d) 0 ≡ get_or t (k + d) 0
  second_next k d = ap (λ (i : ℕ). get_or (s ++ t) i 0) (add_assoc (length s) k d) ∙ get_or-append-add s t (k + d) 0

  pub first_word : (i : ℕ) → i + 4 ≤ length s → word_at s i ≡ word_at (s ++ t) i
  unfolding word_at
  first_word i h =
      omega (arith, first_byte i (omega arith), first_byte (i + 1) (omega arith), first_byte (i + 2) (omega arith), first_byte (i + 3) (omega arith))

  pub second_word : (k : ℕ) → word_at t k ≡ word_at (s ++ t) (length s + k)
  unfolding word_at
  second_word k = omega (arith, get_or-append-add s t k 0, second_next k 1, second_next k 2, second_next k 3)

  pub first_half : (i : ℕ) → i + 2 ≤ length s → half_at s i ≡ half_at (s ++ t) i
  unfolding half_at
  first_half i h = omega (arith, first_byte i (omega arith), first_byte (i + 1) (omega arith))

  pub second_half : (k : ℕ) → half_at t k ≡ half_at (s ++ t) (length s + k)
  unfolding half_at
  second_half k = omega (arith, get_or-append-add s t k 0, second_next k 1)

-- ---- writing
pub first_set : (s t : List ℕ) (i v : ℕ) → i < length s → set s i v ++ t ≡ set (s ++ t) i v
first_set s t i v h = sym (set-append_left s t i v h)

pub second_set : (s t : List ℕ) (k v : ℕ) → s ++ set t k v ≡ set (s ++ t) (length s + k) v
second_set s t k v = sym (set_append_add s t k v)

module _ (s t : List ℕ) (i w : ℕ) where
  pub first_put_byte : i + 1 ≤ length s → put_byte s i w ++ t ≡ put_byte (s ++ t) i w
  unfolding put_byte
  first_put_byte h = first_set s t i _ (omega arith)

  pub first_put_half : i + 2 ≤ length s → put_half s i w ++ t ≡ put_half (s ++ t) i w
  unfolding put_half
  first_put_half h =
      let s1 = set s i (w % 0x100) in
      let l1 : length s1 ≡ length s = simp length-set in
      first_set s1 t (i + 1) (w / 0x100 % 0x100) (omega arith)
      ∙ ap (λ (r : List ℕ). set r (i + 1) (w / 0x100 % 0x100)) (first_set s t i (w % 0x100) (omega arith))

  pub first_put_word : i + 4 ≤ length s → put_word s i w ++ t ≡ put_word (s ++ t) i w
  unfolding put_word
  first_put_word h =
      let s1 = set s i (w % 0x100) in
      let s2 = set s1 (i + 1) (w / 0x100 % 0x100) in
      let s3 = set s2 (i + 2) (w / 0x1_0000 % 0x100) in
      let l1 : length s1 ≡ length s = simp length-set in
      let l2 : length s2 ≡ length s = simp length-set in
      let l3 : length s3 ≡ length s = simp length-set in
      let m0 = first_set s t i (w % 0x100) (omega arith) in
      let m1 = first_set s1 t (i + 1) (w / 0x100 % 0x100) (omega arith) in
      let m2 = first_set s2 t (i + 2) (w / 0x1_0000 % 0x100) (omega arith) in
      let m3 = first_set s3 t (i + 3) (w / 0x100_0000) (omega arith) in
      cc

module _ (s t : List ℕ) (k w : ℕ) where
  pub add_byte : s ++ put_byte t k w ≡ put_byte (s ++ t) (length s + k) w
  unfolding put_byte
  add_byte = second_set s t k _

  pub add_half : s ++ put_half t k w ≡ put_half (s ++ t) (length s + k) w
  unfolding put_half
  add_half =
      let t1 = set t k (w % 0x100) in
      let m0 = second_set s t k (w % 0x100) in
      let m1 = second_set s t1 (k + 1) (w / 0x100 % 0x100) in
      cc (add_assoc (length s) k 1)

  pub add_word : s ++ put_word t k w ≡ put_word (s ++ t) (length s + k) w
  unfolding put_word
  add_word =
      let t1 = set t k (w % 0x100) in
      let t2 = set t1 (k + 1) (w / 0x100 % 0x100) in
      let t3 = set t2 (k + 2) (w / 0x1_0000 % 0x100) in
      let m0 = second_set s t k (w % 0x100) in
      let m1 = second_set s t1 (k + 1) (w / 0x100 % 0x100) in
      let m2 = second_set s t2 (k + 2) (w / 0x1_0000 % 0x100) in
      let m3 = second_set s t3 (k + 3) (w / 0x100_0000) in
      cc (add_assoc (length s) k 1, add_assoc (length s) k 2, add_assoc (length s) k 3)

-- ---- each width
pub bytes_join : Joins 1 (λ s i. get_or s i 0) put_byte
bytes_join = record {
  first_read = λ s t k h. sym (first_byte s t k (omega arith));
  second_read = λ s t k. sym (get_or-append-add s t k 0);
  first_put = first_put_byte;
  second_put = add_byte;
}

pub halves_join : Joins 2 half_at put_half
halves_join = record { first_read = first_half; second_read = second_half; first_put = first_put_half; second_put = add_half }

pub words_join : Joins 4 word_at put_word
words_join = record { first_read = first_word; second_read = second_word; first_put = first_put_word; second_put = add_word }
