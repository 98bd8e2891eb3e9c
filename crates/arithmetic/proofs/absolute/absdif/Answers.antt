use Prim.Native.Nat.{◌^◌}
use mathlib.Core.Path.{ap, ◌∙◌}
use mir.Syntax.{w64}
use Rattle.words.proofs.Exact.{bounded, absolute, held}
use Rattle.words.proofs.Values.{difference}
use Rattle.words.specs.Result.{wrapped_of}
use Rattle.arithmetic.specs.Arithmetic.{absdif_of}
use Rattle.arithmetic.proofs.absolute.absdif.Goals as goal

pub magnitude-requires : goal.magnitude-requires
unfolding absdif_of
magnitude-requires c = bounded (2 ^ 62) (difference c.ranges.a c.ranges.b c.difference.ensures) tt

pub returns : goal.returns
unfolding absdif_of
returns c = c.wrapped.ensures ∙ ap wrapped_of (held w64 (absolute (difference c.ranges.a c.ranges.b c.difference.ensures) c.magnitude.ensures) tt).is
