-- What CLZ, CLO and CLS answer (002, 8.1.1.9 and chapter 9).
use Rattle.std.specs.Prelude.{ℕ, zero, suc, eqb, cond}
use Rattle.words.specs.Bits.{bit}

-- how many of the bits below bit i, from bit i - 1 down, are b before one is not
unfoldable pub run : ℕ → ℕ → ℕ → ℕ
run zero b w = zero
run (suc i) b w = cond (eqb (bit i w) b) (suc (run i b w)) zero

-- CLZ: the consecutive zeros, starting with bit 31
unfoldable pub clz_of : ℕ → ℕ
clz_of a = run 32 0 a

-- CLO: the consecutive ones, starting with bit 31
unfoldable pub clo_of : ℕ → ℕ
clo_of a = run 32 1 a

-- CLS: the consecutive bits which have the same value as bit 31, starting with bit 30
unfoldable pub cls_of : ℕ → ℕ
cls_of a = run 31 (bit 31 a) a
