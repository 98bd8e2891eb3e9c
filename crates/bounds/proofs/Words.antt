-- What is written to a word is a word.
-- Assumes nothing.
use Prim.Native.Nat.{ℕ, ◌^◌, ◌<◌}
use native.Mathlib.Omega.{arith}
use mathlib.Core.Bool.{Bool, true, false, cond}
use lib.IntN.{ℤ, pos, negsuc}
use Rattle.words.specs.Bits.{number, complement}
use Rattle.words.specs.Value.{low, clamp}
use Rattle.words.specs.Result.{wrapped_of, carried_of, saturated_of}
use Rattle.words.proofs.Values.{flag_small}

pub low_word : (z : ℤ) → low z < 2 ^ 32
unfolding low
low_word (pos n) = omega arith
low_word (negsuc n) = omega arith

pub wrapped_word : (z : ℤ) → (wrapped_of z).word < 2 ^ 32
unfolding wrapped_of
wrapped_word z = low_word z

pub carried_word : (c : Bool) (z : ℤ) → (carried_of c z).word < 2 ^ 32
unfolding carried_of
carried_word c z = low_word z

pub saturated_word : (lo hi z : ℤ) → (saturated_of lo hi z).word < 2 ^ 32
unfolding saturated_of
saturated_word lo hi z = low_word (clamp lo hi z)

-- a truth value as a word
pub number_word : (b : Bool) → number b < 2 ^ 32
number_word b = let h = flag_small b in omega arith

pub complement_word : (w : ℕ) → complement w < 2 ^ 32
complement_word w = omega arith

-- one of two words
pub cond_word : (t : Bool) (x y : ℕ) → x < 2 ^ 32 → y < 2 ^ 32 → cond t x y < 2 ^ 32
cond_word true x y h k = h
cond_word false x y h k = k
