use mathlib.Core.Path.{ap, ◌∙◌}
use mir.Syntax.{w64}
use Rattle.words.proofs.Exact.{right, held}
use Rattle.words.proofs.Values.{word}
use Rattle.bitwise.proofs.Counts.{one_left, one_left_pos}
use Rattle.words.specs.Result.{carried_of}
use Rattle.bitwise.specs.Shift.{sha_right}
use Rattle.bitwise.proofs.shift.sha_right.Goals as goal

pub nonzero_rem-a : goal.nonzero_rem-a
unfolding sha_right
nonzero_rem-a c = one_left_pos c.args.n c.requires

pub returns : goal.returns
unfolding sha_right
returns c = c.with_carry.ensures ∙ ap (carried_of _) (held w64 (right _ (word c.ranges.a c.signed_value.ensures)) tt).is ∙ rw (one_left c.args.n c.requires)
