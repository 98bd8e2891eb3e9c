-- A flag's bit, as a truth value and as a number.
-- Assumes nothing.
use Prim.Native.Nat.{ℕ, ◌/◌, ◌%◌, ◌^◌, ◌≤◌}
use native.Mathlib.Omega.{arith}
use mathlib.Core.Path.{◌≡◌, refl}
use mathlib.Core.Bool.{Bool, true, false}
use borrow.Author.Tests.{eqb-true, eqb-false}
use lib.Dec.{eqb, lit≤}
use Rattle.words.specs.Bits.{number, bit}
use Rattle.fields.specs.Field.{is_set}

pub number_le : (b : Bool) → number b ≤ 1
number_le true = lit≤ tt
number_le false = lit≤ tt

tested : (n : ℕ) (t : Bool) → n ≤ 1 → eqb n 1 ≡ t → number t ≡ n
tested n true h e = let p = eqb-true n 1 e in omega arith
tested n false h e = let p = eqb-false n 1 e in omega arith

-- a bit that is 0 or 1, tested and made a number again
pub number_eqb : (n : ℕ) → n ≤ 1 → number (eqb n 1) ≡ n
number_eqb n h = tested n (eqb n 1) h refl

pub number_is_set : (i w : ℕ) → number (is_set i w) ≡ w / 2 ^ i % 2
unfolding is_set bit
number_is_set i w = number_eqb (w / 2 ^ i % 2) (omega arith)
