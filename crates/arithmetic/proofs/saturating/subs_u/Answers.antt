use mathlib.Core.Path.{ap, ◌∙◌}
use mir.Syntax.{w64}
use lib.IntN.{pos}
use Rattle.words.proofs.Exact.{minus, cast, need, held}
use Rattle.words.specs.Result.{saturated_of}
use Rattle.arithmetic.specs.Arithmetic.{subsu_of}
use Rattle.arithmetic.proofs.saturating.subs_u.Goals as goal

pub overflow_sub-a : goal.overflow_sub-a
unfolding subsu_of
overflow_sub-a c = need w64 (minus (cast w64 c.ranges.a.fits tt) (cast w64 c.ranges.b.fits tt)) tt

pub returns : goal.returns
unfolding subsu_of
returns c = c.saturated.ensures ∙ ap (saturated_of (pos 0) (pos 0xFFFF_FFFF)) (held w64 (minus (cast w64 c.ranges.a.fits tt) (cast w64 c.ranges.b.fits tt)) tt).is
