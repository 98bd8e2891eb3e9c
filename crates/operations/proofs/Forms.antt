-- The operation byte: its number and its two forms, and what the arms of a match on it know.
-- Assumes nothing.
use Prim.Native.Nat.{ℕ, zero, suc, ◌+◌, ◌-◌, ◌%◌, ◌≤◌, ◌<◌}
use native.Mathlib.Nat.{lt_of_not-le}
use native.Mathlib.Decide.{dec_le}
use native.Mathlib.Omega.{arith}
use mathlib.Core.Path.{◌≡◌, refl, subst}
use mathlib.Core.Bool.{cond}
use mathlib.Core.Logic.{◌⊎◌, inl, inr}
use borrow.Author.Tests.{le-leb, lt-leb}
use Rattle.operations.specs.Forms.{is_short, operation_number}

-- as the code computes it
pub byte_number : (byte : ℕ) → byte < 256 → byte % 128 ≡ operation_number byte
unfolding operation_number
byte_number byte b = by (dec_le 128 byte)
  where
    by : Dec (128 ≤ byte) → byte % 128 ≡ cond (is_short byte) (byte - 128) byte
    by (yes h) = rw (le-leb 128 byte h) (omega arith)
    by (no h) = let l = lt_of_not-le h in rw (lt-leb 128 byte l) (omega arith)

abbrev pub Either : ℕ → ℕ → Type 0
Either k byte = (byte ≡ k) ⊎ (byte ≡ k + 128)

-- an arm has both forms of a number
pub number_of : (k byte : ℕ) → k < 128 → Either k byte → operation_number byte ≡ k
unfolding operation_number
number_of k byte b (inl e) = let l : byte < 128 = omega (arith, e) in rw (lt-leb 128 byte l) e
number_of k byte b (inr e) = let l : 128 ≤ byte = omega (arith, e) in rw (le-leb 128 byte l) (omega (arith, e))

either : (byte : ℕ) → Either (operation_number byte) byte
unfolding operation_number
either byte = by (dec_le 128 byte)
  where
    by : Dec (128 ≤ byte) → Either (cond (is_short byte) (byte - 128) byte) byte
    by (yes h) = rw (le-leb 128 byte h) (inr (omega arith))
    by (no h) = let l = lt_of_not-le h in rw (lt-leb 128 byte l) (inl refl)

-- the default arm of a match on the numbers below n, as the checker has it: the byte has none of them
abbrev pub NoneOf : ℕ → ℕ → Type 0
NoneOf zero byte = Unit {0}
NoneOf (suc n) byte = NoneOf n byte × (Either n byte → ⊥)

pub beyond : (n byte : ℕ) → NoneOf n byte → n ≤ operation_number byte
beyond zero byte h = omega arith
beyond (suc n) byte h =
    let l = beyond n byte h.0 in
    let other : (operation_number byte ≡ n → ⊥) = λ e. h.1 (subst (λ (k : ℕ). Either k byte) e (either byte)) in
    omega (arith, other)
