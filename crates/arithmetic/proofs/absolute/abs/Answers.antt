use Prim.Native.Nat.{◌^◌}
use mathlib.Core.Path.{ap, ◌∙◌}
use mir.Syntax.{w64}
use Rattle.words.proofs.Exact.{bounded, absolute, held}
use Rattle.words.proofs.Values.{word}
use Rattle.words.specs.Result.{wrapped_of}
use Rattle.arithmetic.specs.Arithmetic.{abs_of}
use Rattle.arithmetic.proofs.absolute.abs.Goals as goal

pub magnitude-requires : goal.magnitude-requires
unfolding abs_of
magnitude-requires c = bounded (2 ^ 62) (word c.ranges.a c.signed_value.ensures) tt

pub returns : goal.returns
unfolding abs_of
returns c = c.wrapped.ensures ∙ ap wrapped_of (held w64 (absolute (word c.ranges.a c.signed_value.ensures) c.magnitude.ensures) tt).is
