-- Two lists of bytes that are the same at some places stay so where both are written alike.
-- Assumes nothing.
use Prim.Native.Nat.{ℕ, zero, suc}
use native.Mathlib.Omega.{arith}
use mathlib.Core.Path.{◌≡◌, refl, sym, ◌∙◌}
use mathlib.Core.List.{List, [], ◌∷◌}
use lib.ListN.{length, get_or, set, length-set}
use Rattle.memory.specs.Word.{put_byte, put_half, put_word, put_words}

-- at the places of which `same` holds
pub record Same (same : ℕ → Type 0) (s t : List ℕ) : Type 0 where
  pub size : length t ≡ length s
  pub each : (k : ℕ) → same k → get_or t k 0 ≡ get_or s k 0

-- wherever the write goes
set_each : (s t : List ℕ) (i v k : ℕ) → length t ≡ length s → get_or t k 0 ≡ get_or s k 0 → get_or (set t i v) k 0 ≡ get_or (set s i v) k 0
set_each [] [] i v k l e = refl
set_each [] (y ∷ t) i v k l e = absurd (omega arith)
set_each (x ∷ s) [] i v k l e = absurd (omega arith)
set_each (x ∷ s) (y ∷ t) zero v zero l e = refl
set_each (x ∷ s) (y ∷ t) zero v (suc k) l e = e
set_each (x ∷ s) (y ∷ t) (suc i) v zero l e = e
set_each (x ∷ s) (y ∷ t) (suc i) v (suc k) l e = set_each s t i v k (omega arith) e

module _ {same : ℕ → Type 0} where
  pub same_set : {s t : List ℕ} (i v : ℕ) → Same same s t → Same same (set s i v) (set t i v)
  same_set {s} {t} i v h =
      record { size = length-set t i v ∙ h.size ∙ sym (length-set s i v); each = λ k a. set_each s t i v k h.size (h.each k a) }

  pub same_byte : {s t : List ℕ} (i w : ℕ) → Same same s t → Same same (put_byte s i w) (put_byte t i w)
  unfolding put_byte
  same_byte i w h = same_set _ _ h

  pub same_half : {s t : List ℕ} (i w : ℕ) → Same same s t → Same same (put_half s i w) (put_half t i w)
  unfolding put_half
  same_half i w h = same_set _ _ (same_set _ _ h)

  pub same_word : {s t : List ℕ} (i w : ℕ) → Same same s t → Same same (put_word s i w) (put_word t i w)
  unfolding put_word
  same_word i w h = same_set _ _ (same_set _ _ (same_set _ _ (same_set _ _ h)))

  pub same_words : {s t : List ℕ} (i : ℕ) (ws : List ℕ) (n : ℕ) → Same same s t → Same same (put_words s i ws n) (put_words t i ws n)
  unfolding put_words
  same_words i ws zero h = h
  same_words i ws (suc n) h = same_word _ _ (same_words i ws n h)
