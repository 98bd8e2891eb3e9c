use mathlib.Core.Path.{ap, ◌∙◌}
use mir.Syntax.{w64}
use lib.IntN.{pos}
use Rattle.words.proofs.Exact.{plus, cast, need, held}
use Rattle.words.specs.Result.{saturated_of}
use Rattle.arithmetic.specs.Arithmetic.{addsu_of}
use Rattle.arithmetic.proofs.saturating.adds_u.Goals as goal

pub overflow_add-a : goal.overflow_add-a
unfolding addsu_of
overflow_add-a c = need w64 (plus (cast w64 c.ranges.a.fits tt) (cast w64 c.ranges.b.fits tt)) tt

pub returns : goal.returns
unfolding addsu_of
returns c = c.saturated.ensures ∙ ap (saturated_of (pos 0) (pos 0xFFFF_FFFF)) (held w64 (plus (cast w64 c.ranges.a.fits tt) (cast w64 c.ranges.b.fits tt)) tt).is
