use mathlib.Core.Path.{ap, ◌∙◌}
use mir.Syntax.{w64}
use native.Mathlib.Omega.{arith}
use lib.IntN.{pos}
use Rattle.words.specs.Result.{carried_of}
use Rattle.arithmetic.specs.Arithmetic.{subc_of}
use Rattle.words.proofs.Exact.{plus, minus, lit, need, held, own}
use Rattle.words.proofs.Values.{difference, flag, flag_small}
use Rattle.arithmetic.proofs.sums.subc.Goals as goal

pub overflow_add-a : goal.overflow_add-a
unfolding subc_of
overflow_add-a c = omega (arith, flag_small c.args.c)

pub overflow_sub-difference : goal.overflow_sub-difference
unfolding subc_of
overflow_sub-difference c = need w64 (minus (difference c.ranges.a c.ranges.b c.difference.ensures) (lit (pos 1))) tt

pub overflow_cast-k-2 : goal.overflow_cast-k-2
unfolding subc_of
overflow_cast-k-2 c = need w64 (own (pos _) (flag_small c.args.c)) tt

pub overflow_add-difference : goal.overflow_add-difference
unfolding subc_of
overflow_add-difference c = need w64 (plus (held w64 (minus (difference c.ranges.a c.ranges.b c.difference.ensures) (lit (pos 1))) tt) (flag c.args.c)) tt

pub returns : goal.returns
unfolding subc_of
returns c = c.with_carry.ensures ∙ ap (carried_of _) (held w64 (plus (held w64 (minus (difference c.ranges.a c.ranges.b c.difference.ensures) (lit (pos 1))) tt) (flag c.args.c)) tt).is
