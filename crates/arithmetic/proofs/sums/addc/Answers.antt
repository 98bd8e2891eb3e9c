use mathlib.Core.Path.{ap, ◌∙◌}
use mir.Syntax.{w64}
use native.Mathlib.Omega.{arith}
use lib.IntN.{pos}
use Rattle.words.specs.Result.{carried_of}
use Rattle.arithmetic.specs.Arithmetic.{addc_of}
use Rattle.words.proofs.Exact.{plus, need, held, own}
use Rattle.words.proofs.Values.{sum, flag, flag_small}
use Rattle.arithmetic.proofs.sums.addc.Goals as goal

pub overflow_add-a-2 : goal.overflow_add-a-2
unfolding addc_of
overflow_add-a-2 c = omega (arith, flag_small c.args.c)

pub overflow_cast-k-2 : goal.overflow_cast-k-2
unfolding addc_of
overflow_cast-k-2 c = need w64 (own (pos _) (flag_small c.args.c)) tt

pub overflow_add-sum : goal.overflow_add-sum
unfolding addc_of
overflow_add-sum c = need w64 (plus (sum c.ranges.a c.ranges.b c.sum.ensures) (flag c.args.c)) tt

pub returns : goal.returns
unfolding addc_of
returns c = c.with_carry.ensures ∙ ap (carried_of _) (held w64 (plus (sum c.ranges.a c.ranges.b c.sum.ensures) (flag c.args.c)) tt).is
