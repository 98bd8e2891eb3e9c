-- Runs of equal bits, and the machine's count of leading zeros.
-- Assumes nothing.
use Prim.Native.Nat.{ℕ, zero, suc, ◌+◌, ◌-◌, ◌*◌, ◌/◌, ◌%◌, ◌^◌, ◌≤◌, ◌<◌}
use native.Mathlib.Nat.{pow-suc, div-eq_of_lt, mod-eq_of_lt, mod-lt}
use native.Mathlib.Numerals.{one-add}
use native.Mathlib.Omega.{arith}
use mathlib.Core.Path.{◌≡◌, refl, sym, ap, ◌∙◌}
use mathlib.Core.Logic.{◌⊎◌, inl, inr, ⊎_elim}
use borrow.Author.Tests.{eq-eqb, ne_eqb}
use lib.Count.{count_leading_zeros, leading_length, leading_unique}
use lib.Pow.{mod-pow-add, pow_pos}
use mir.Syntax.{w32}
use mir.Val.{Fits}
use Rattle.words.specs.Bits.{bit}
use Rattle.words.proofs.Integers.{lt_or_ge}
use Rattle.bitwise.specs.Leading.{run, cls_of}

pub run_more : (i w : ℕ) {b : ℕ} → bit i w ≡ b → run (suc i) b w ≡ suc (run i b w)
unfolding run
run_more i w e = rw (eq-eqb _ _ e)

run_none : (i w : ℕ) {b : ℕ} → (bit i w ≡ b → ⊥) → run (suc i) b w ≡ zero
unfolding run
run_none i w e = rw (ne_eqb _ _ e)

-- a digit and what is below it
digit : (i w : ℕ) → w % 2 ^ suc i ≡ bit i w * 2 ^ i + w % 2 ^ i
unfolding bit
digit i w = rw (← one-add i) (mod-pow-add w 1 i)

two : (i w : ℕ) → (bit i w ≡ 0) ⊎ (bit i w ≡ 1)
unfolding bit
two i w = ⊎_elim (λ h. inl (omega arith)) (λ h. inr (omega arith)) (lt_or_ge (w / 2 ^ i % 2) 1)

bit_low : (i w : ℕ) → w < 2 ^ i → bit i w ≡ 0
unfolding bit
bit_low i w h = rw (div-eq_of_lt h)

bit_high : (i w : ℕ) → w < 2 ^ suc i → 2 ^ i ≤ w → bit i w ≡ 1
bit_high i w h k =
    ⊎_elim
    (λ e. let d = rw e at (digit i w) in let m = mod-eq_of_lt h in let l = mod-lt w (pow_pos i) in absurd (omega arith))
    (λ e. e)
    (two i w)

-- the leading zeros of a number of k digits are a run of zeros from the top
pub leading : (k w : ℕ) → w < 2 ^ k → count_leading_zeros k w ≡ run k 0 w
unfolding count_leading_zeros run
leading zero w h = refl
leading (suc k) w h =
    ⊎_elim
    (λ l. let t = leading_length k w l in
    sym (leading_unique (suc k) w (suc (count_leading_zeros k w)) t.0 (let e = t.1 in omega arith) t.2 t.3)
    ∙ ap suc (leading k w l)
    ∙ sym (run_more k w (bit_low k w l)))
    (λ g. let p = pow-suc 2 k in
    sym (leading_unique (suc k) w 0 (suc k) (omega arith) h (omega arith))
    ∙ sym (run_none k w (λ e. let b = bit_high k w h g in omega arith)))
    (lt_or_ge w (2 ^ k))

-- a run of zeros in a number is a run of ones in its complement
pub opposite : (k v w : ℕ) → v % 2 ^ k + w % 2 ^ k + 1 ≡ 2 ^ k → run k 0 v ≡ run k 1 w
unfolding run
opposite zero v w h = refl
opposite (suc k) v w h =
    let p = pow-suc 2 k in let l = mod-lt v (pow_pos k) in let m = mod-lt w (pow_pos k) in
    ⊎_elim
    (λ a. let d = rw a at (digit k v) in
    ⊎_elim
    (λ b. let e = rw b at (digit k w) in absurd (omega arith))
    (λ b. let e = rw b at (digit k w) in run_more k v a ∙ ap suc (opposite k v w (omega arith)) ∙ sym (run_more k w b))
    (two k w))
    (λ a. let d = rw a at (digit k v) in
    ⊎_elim
    (λ b. run_none k v (λ z. omega arith) ∙ sym (run_none k w (λ z. omega arith)))
    (λ b. let e = rw b at (digit k w) in absurd (omega arith))
    (two k w))
    (two k v)

-- a word
module _ {a : ℕ} (f : Fits w32 a) where
  pub zeros : count_leading_zeros 32 a ≡ run 32 0 a
  zeros = leading 32 a f.fits

  pub ones : count_leading_zeros 32 (0xFFFF_FFFF - a) ≡ run 32 1 a
  ones = leading 32 (0xFFFF_FFFF - a) (omega arith) ∙ opposite 32 (0xFFFF_FFFF - a) a (omega arith)

  pub sign_zeros : a < 2 ^ 31 → count_leading_zeros 32 a ≡ suc (cls_of a)
  unfolding cls_of
  sign_zeros h = let e = bit_low 31 a h in zeros ∙ run_more 31 a e ∙ rw e

  pub sign_ones : 2 ^ 31 ≤ a → count_leading_zeros 32 (0xFFFF_FFFF - a) ≡ suc (cls_of a)
  unfolding cls_of
  sign_ones h = let e = bit_high 31 a f.fits h in ones ∙ run_more 31 a e ∙ rw e
