-- The bytes of two windows, one list after the other: joining loses nothing, and a byte or a run of words in one of them is that of the whole.
-- Assumes nothing.
use mathlib.Core.Path.{◌≡◌, refl, sym, ap, ap₂, ◌∙◌}
use mathlib.Core.List.{List, ◌++◌}
use Prim.Native.Nat.{ℕ, zero, suc, ◌+◌, ◌-◌, ◌*◌, ◌≤◌, ◌<◌}
use native.Mathlib.Omega.{arith}
use lib.ListN.{length, get_or, take, drop, length-append, get_or-append}
use lib.Seq.{get_or-append-add, take-append_seam, drop-append_seam}
use Rattle.memory.specs.Memory.{windows, Memory, Lossless, first_length, second_length}
use Rattle.memory.specs.declared.address.Address.{Address}
use Rattle.memory.specs.Word.{put_word, put_words}
use Rattle.memory.specs.Joins.{first_put_word, add_word}
use Rattle.memory.proofs.Words.{put_words_length}

pub lossless : Lossless
lossless b c b' c' s t s' t' e =
    let split : length s ≡ length s' = ap (λ (m : Memory). m.windows.split) e in
    let joined : s ++ t ≡ s' ++ t' = ap (λ (m : Memory). m.bytes) e in (
      ap (λ (m : Memory). m.windows.first) e,
      sym (take-append_seam s t) ∙ ap₂ take split joined ∙ take-append_seam s' t',
      ap (λ (m : Memory). m.windows.second) e,
      sym (drop-append_seam s t) ∙ ap₂ drop split joined ∙ drop-append_seam s' t',
    )

module _ (s t : List ℕ) where
  -- ---- the lengths, as the code has them
  pub first_length_lem : (base second : Address) → first_length (windows base (length s) second) (length (s ++ t)) ≡ length s
  first_length_lem base second = let e = length-append s t in omega arith

  pub second_length_lem : (base second : Address) → second_length (windows base (length s) second) (length (s ++ t)) ≡ length t
  second_length_lem base second = let e = length-append s t in omega arith

  -- ---- reading
  first_byte : (i : ℕ) → i < length s → get_or (s ++ t) i 0 ≡ get_or s i 0
  first_byte i h = get_or-append s t 0 i h

  second_byte : (i : ℕ) → length s ≤ i → get_or (s ++ t) i 0 ≡ get_or t (i - length s) 0
  second_byte i h =
      let e : i ≡ length s + (i - length s) = omega arith in
      ap (λ (k : ℕ). get_or (s ++ t) k 0) e ∙ get_or-append-add s t (i - length s) 0

  pub first_one : (i : ℕ) → i + 1 ≤ length s → get_or s i 0 ≡ get_or (s ++ t) i 0
  first_one i h = sym (first_byte i (omega arith))

  pub second_one : (i : ℕ) → length s ≤ i → get_or t (i - length s) 0 ≡ get_or (s ++ t) i 0
  second_one i h = sym (second_byte i h)

-- ---- a run of words
pub first_put_words : (s t : List ℕ) (i : ℕ) (ws : List ℕ) (n : ℕ) → i + 4 * n ≤ length s → put_words s i ws n ++ t ≡ put_words (s ++ t) i ws n
unfolding put_words
first_put_words s t i ws zero h = refl
first_put_words s t i ws (suc n) h =
    let y = put_words s i ws n in
    let l = put_words_length s i ws n in
    first_put_word y t (i + 4 * n) (get_or ws n 0) (omega arith)
    ∙ ap (λ (r : List ℕ). put_word r (i + 4 * n) (get_or ws n 0)) (first_put_words s t i ws n (omega arith))

pub add_words : (s t : List ℕ) (k : ℕ) (ws : List ℕ) (n : ℕ) → s ++ put_words t k ws n ≡ put_words (s ++ t) (length s + k) ws n
unfolding put_words
add_words s t k ws zero = refl
add_words s t k ws (suc n) =
    let y = put_words t k ws n in
    let e : length s + (k + 4 * n) ≡ length s + k + 4 * n = omega arith in
    add_word s y (k + 4 * n) (get_or ws n 0)
    ∙ ap (λ (r : List ℕ). put_word r (length s + (k + 4 * n)) (get_or ws n 0)) (add_words s t k ws n)
    ∙ ap (λ (j : ℕ). put_word (put_words (s ++ t) (length s + k) ws n) j (get_or ws n 0)) e
