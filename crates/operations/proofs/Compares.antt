-- The operations that compare two data registers, by number.
-- Assumes nothing.
use Prim.Native.Nat.{ℕ, ◌≤◌}
use native.Mathlib.Omega.{arith}
use native.Mathlib.Nat.{lt_of_not-le}
use native.Mathlib.Decide.{dec_le}
use mathlib.Core.Path.{◌≡◌, refl, ap, sym}
use mathlib.Core.Bool.{Bool, true, false, cond, not, ◌&&◌}
use lib.Dec.{ltb, leb}
use borrow.Author.Tests.{le-ltb, le-leb}
use Rattle.words.proofs.Truth.{never}
use Rattle.operations.specs.Operations.{operations, operation_of, compares}
use Rattle.operations.specs.declared.Operation.{Operation}
use Rattle.operations.proofs.Table.{every, in_table, from_last}

-- JEQ to JGE.U have 57 to 62
between : ℕ → Bool
between n = leb 57 n && ltb n 63

alike : (a b : Bool) → cond a b (not b) ≡ true → b ≡ a
alike true b e = e
alike false true e = absurd (never (sym e))
alike false false e = refl

test : ℕ → Operation → Bool
test n o = cond (compares o) (between n) (not (between n))

computed : every test 0 operations ≡ true
unfolding every test between
computed = refl

pub compares_by : (n : ℕ) → (leb 57 n && ltb n 63) ≡ compares (operation_of n)
unfolding operation_of test between
compares_by n = go (dec_le 79 n)
  where
    go : Dec (79 ≤ n) → (leb 57 n && ltb n 63) ≡ compares (operation_of n)
    go (yes h) =
        let k : 57 ≤ n = omega arith in
        let l : 63 ≤ n = omega arith in
        rw (le-leb 57 n k, le-ltb n 63 l) (ap compares (sym (from_last n (omega arith))))
    go (no h) = alike (compares (operation_of n)) (between n) (in_table test computed n (lt_of_not-le h))
