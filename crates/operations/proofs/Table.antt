-- A rule of the operations by number: one test that is computed over the whole table.
-- Assumes nothing.
use Prim.Native.Nat.{ℕ, zero, suc, ◌+◌, ◌≤◌, ◌<◌}
use native.Mathlib.Nat.{lt_of_not-le}
use native.Mathlib.Decide.{dec_le}
use native.Mathlib.Omega.{arith}
use mathlib.Core.Path.{◌≡◌, refl, subst}
use mathlib.Core.Bool.{Bool, true, ◌&&◌}
use mathlib.Core.List.{List, [], ◌∷◌}
use lib.ListN.{length, get_or, get_or-eq_default}
use Rattle.words.proofs.Truth.{both_true}
use Rattle.operations.specs.Operations.{operations, operation_of}
use Rattle.operations.specs.declared.Operation.{Operation}
use Rattle.operations.specs.declared.Operation.TheVariants.{System}
use Rattle.operations.specs.declared.System.TheVariants as system

module _ (test : ℕ → Operation → Bool) where
  -- the test passes at each operation of a list and its number, counted from i
  unfoldable pub every : ℕ → List Operation → Bool
  every i [] = true
  every i (o ∷ os) = test i o && every (suc i) os

  from : (os : List Operation) (i : ℕ) → every i os ≡ true → (k : ℕ) → k < length os → test (i + k) (get_or os k (System system.Rstv)) ≡ true
  unfolding every
  from [] i t k h = absurd (omega arith)
  from (o ∷ os) i t zero h = let e : i ≡ i + 0 = omega arith in subst (λ (m : ℕ). test m o ≡ true) e (both_true (test i o) (every (suc i) os) t).0
  from (o ∷ os) i t (suc k) h =
      let e : suc i + k ≡ i + suc k = omega arith in
      subst (λ (m : ℕ). test m (get_or os k (System system.Rstv)) ≡ true) e (from os (suc i) (both_true (test i o) (every (suc i) os) t).1 k (omega arith))

  pub in_table : every 0 operations ≡ true → (n : ℕ) → n < 79 → test n (operation_of n) ≡ true
  unfolding operation_of
  in_table computed n h =
      let e : 0 + n ≡ n = omega arith in
      subst (λ (m : ℕ). test m (get_or operations n (System system.Rstv)) ≡ true) e (from operations 0 computed n h)

-- past the table's end stands the last operation
pub from_last : (n : ℕ) → 78 ≤ n → operation_of n ≡ System system.Rstv
unfolding operation_of
from_last n h = by (dec_le 79 n)
  where
    by : Dec (79 ≤ n) → get_or operations n (System system.Rstv) ≡ System system.Rstv
    by (yes l) = get_or-eq_default operations (System system.Rstv) l
    by (no l) = let m = lt_of_not-le l in let e : n ≡ 78 = omega arith in rw e refl
