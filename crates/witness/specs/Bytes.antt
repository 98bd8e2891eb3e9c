-- Numbers that are bytes, or words, by a test of each.
use Rattle.std.specs.Prelude.{ℕ, zero, suc, ◌^◌, ◌<◌, List, [], ◌∷◌, get_or, T, ltb}
use Rattle.std.proofs.Common.{arith, lit<}
use Rattle.decisions.specs.Valid.{Bytes}

abbrev pub Below : ℕ → List ℕ → Type 0
Below n [] = Unit {0}
Below n (x ∷ xs) = T (ltb x n) × Below n xs

pub each_below : (n : ℕ) → 0 < n → (xs : List ℕ) → Below n xs → (k : ℕ) → get_or xs k 0 < n
each_below n p [] h k = p
each_below n p (x ∷ xs) h zero = lit< h.0
each_below n p (x ∷ xs) h (suc k) = each_below n p xs h.1 k

pub bytes_by : (xs : List ℕ) → Below (2 ^ 8) xs → Bytes xs
bytes_by xs h = record { each = each_below (2 ^ 8) (omega arith) xs h }
