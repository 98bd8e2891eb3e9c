use mathlib.Core.Path.{ap, ◌∙◌}
use native.Mathlib.Nat.{le_of_lt}
use mir.Syntax.{w64}
use lib.IntN.{pos}
use Rattle.words.proofs.Exact.{times, cast, own, need, held}
use Rattle.words.proofs.Values.{word}
use Rattle.bitwise.proofs.Counts.{one_left, one_left_small}
use Rattle.words.specs.Result.{carried_of}
use Rattle.bitwise.specs.Shift.{sha_left}
use Rattle.bitwise.proofs.shift.sha_left.Goals as goal

pub overflow_cast-p : goal.overflow_cast-p
unfolding sha_left
overflow_cast-p c = need w64 (own (pos _) (one_left_small c.args.n c.requires)) tt

pub overflow_mul-signed_value : goal.overflow_mul-signed_value
unfolding sha_left
overflow_mul-signed_value c = need w64 (times (word c.ranges.a c.signed_value.ensures) (cast w64 (one_left_small c.args.n c.requires) tt)) tt

pub returns : goal.returns
unfolding sha_left
returns c = c.with_carry.ensures ∙ ap (carried_of _) (held w64 (times (word c.ranges.a c.signed_value.ensures) (cast w64 (one_left_small c.args.n c.requires) tt)) tt).is ∙ rw (one_left c.args.n (le_of_lt c.requires))
