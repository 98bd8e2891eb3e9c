use native.Mathlib.Omega.{arith}
use Rattle.bitwise.proofs.Runs.{sign_zeros, sign_ones}
use Rattle.bitwise.proofs.leading.cls.Goals as goal

pub overflow_sub-result : goal.overflow_sub-result
overflow_sub-result c = omega (arith, sign_zeros c.ranges.a c.if-a-lt2147483648.true)

pub overflow_sub-result-else-a-lt2147483648 : goal.overflow_sub-result-else-a-lt2147483648
overflow_sub-result-else-a-lt2147483648 c = omega (arith, sign_ones c.ranges.a c.if-a-lt2147483648.false)

pub returns-then-a-lt2147483648 : goal.returns-then-a-lt2147483648
returns-then-a-lt2147483648 c = omega (arith, sign_zeros c.ranges.a c.if-a-lt2147483648.true)

pub returns-else-a-lt2147483648 : goal.returns-else-a-lt2147483648
returns-else-a-lt2147483648 c = omega (arith, sign_ones c.ranges.a c.if-a-lt2147483648.false)
