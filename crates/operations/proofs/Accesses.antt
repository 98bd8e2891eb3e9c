-- The data accesses by number.
-- Assumes nothing.
use Prim.Native.Nat.{ℕ, ◌≤◌, ◌<◌}
use native.Mathlib.Omega.{arith}
use native.Mathlib.Nat.{lt_of_not-le}
use native.Mathlib.Decide.{dec_le}
use mathlib.Core.Path.{◌≡◌, refl, ap, sym, ◌∙◌}
use mathlib.Core.Bool.{Bool, true, cond}
use lib.Dec.{ltb, eqb}
use borrow.Author.Tests.{eqb-true, lt-ltb, le-ltb}
use Rattle.std.specs.Prelude.{Option, Some, None}
use Rattle.operations.specs.Operations.{operations, operation_of, access_of}
use Rattle.operations.specs.declared.Operation.{Operation}
use Rattle.operations.specs.declared.Access.{Access}
use Rattle.operations.specs.declared.Access.TheVariants.{Read, Write}
use Rattle.operations.proofs.Table.{every, in_table, from_last}

abbrev pub code : Option Access → ℕ
code None = 0
code (Some Read) = 1
code (Some Write) = 2

same_code : (x y : Option Access) → code x ≡ code y → x ≡ y
same_code None None e = refl
same_code None (Some Read) e = absurd (omega arith)
same_code None (Some Write) e = absurd (omega arith)
same_code (Some Read) None e = absurd (omega arith)
same_code (Some Read) (Some Read) e = refl
same_code (Some Read) (Some Write) e = absurd (omega arith)
same_code (Some Write) None e = absurd (omega arith)
same_code (Some Write) (Some Read) e = absurd (omega arith)
same_code (Some Write) (Some Write) e = refl

-- LD.B to LD.A have 44 to 49, ST.B to ST.A 50 to 53
code_by : ℕ → ℕ
code_by n = cond (ltb n 44) 0 (cond (ltb n 50) 1 (cond (ltb n 54) 2 0))

test : ℕ → Operation → Bool
test n o = eqb (code (access_of o)) (code_by n)

computed : every test 0 operations ≡ true
unfolding every test code_by
computed = refl

coded : (n : ℕ) → n < 79 → code (access_of (operation_of n)) ≡ code_by n
unfolding test
coded n h = eqb-true _ _ (in_table test computed n h)

by_code : (n : ℕ) (x : Option Access) → code_by n ≡ code x → (54 ≤ n → x ≡ None) → x ≡ access_of (operation_of n)
unfolding operation_of
by_code n x c past = go (dec_le 79 n)
  where
    go : Dec (79 ≤ n) → x ≡ access_of (operation_of n)
    go (yes h) = past (omega arith) ∙ ap access_of (sym (from_last n (omega arith)))
    go (no h) = same_code _ _ (sym c ∙ sym (coded n (lt_of_not-le h)))

pub before_loads : (n : ℕ) → n < 44 → None ≡ access_of (operation_of n)
unfolding code_by
before_loads n h = by_code n None (rw (lt-ltb n 44 h)) (λ l. absurd (omega arith))

pub loads : (n : ℕ) → 44 ≤ n → n < 50 → (Some Read) ≡ access_of (operation_of n)
unfolding code_by
loads n l h = by_code n (Some Read) (rw (le-ltb n 44 l, lt-ltb n 50 h)) (λ l. absurd (omega arith))

pub stores : (n : ℕ) → 50 ≤ n → n < 54 → (Some Write) ≡ access_of (operation_of n)
unfolding code_by
stores n l h =
    let k : 44 ≤ n = omega arith in
    by_code n (Some Write) (rw (le-ltb n 44 k, le-ltb n 50 l, lt-ltb n 54 h)) (λ l. absurd (omega arith))

pub past_stores : (n : ℕ) → 54 ≤ n → None ≡ access_of (operation_of n)
unfolding code_by
past_stores n l =
    let j : 44 ≤ n = omega arith in
    let k : 50 ≤ n = omega arith in
    by_code n None (rw (le-ltb n 44 j, le-ltb n 50 k, le-ltb n 54 l)) (λ _. refl)
