use mathlib.Core.Path.{◌∙◌}
use native.Mathlib.Nat.{le_of_suc-le-suc}
use lib.IntN.{pos}
use mir.Syntax.{w32, w64}
use Rattle.words.proofs.Exact.{negative, positive, need, held, unsigned, magnitude, small, test, lit}
use Rattle.words.proofs.Counts.{shift}
use Rattle.bitwise.proofs.Counts.{sha_right_lem, sha_left_lem}
use Rattle.bitwise.proofs.shift.sha.Goals as goal

pub overflow_sub-n : goal.overflow_sub-n
overflow_sub-n c = need w32 (negative (shift _ c.shift_count-n.ensures) c.if-n-lt0.true) tt

pub overflow_cast-n : goal.overflow_cast-n
overflow_cast-n c = unsigned w64 (held w32 (negative (shift _ c.shift_count-n.ensures) c.if-n-lt0.true) tt) tt

pub sha_right-requires : goal.sha_right-requires
sha_right-requires c = le_of_suc-le-suc (small 33 (held w32 (negative (shift _ c.shift_count-n.ensures) c.if-n-lt0.true) tt) tt)

pub overflow_cast-n-else-n-lt0 : goal.overflow_cast-n-else-n-lt0
overflow_cast-n-else-n-lt0 c = unsigned w64 (positive (shift _ c.shift_count-n.ensures) c.if-n-lt0.false) tt

pub sha_left-requires : goal.sha_left-requires
sha_left-requires c = small 32 (positive (shift _ c.shift_count-n.ensures) c.if-n-lt0.false) tt

pub returns-then-n-lt0 : goal.returns-then-n-lt0
returns-then-n-lt0 c = c.sha_right.ensures ∙ sha_right_lem _ _ _ (magnitude (held w32 (negative (shift _ c.shift_count-n.ensures) c.if-n-lt0.true) tt)) (test (shift _ c.shift_count-n.ensures) (lit (pos 0)) c.if-n-lt0.true)

pub returns-else-n-lt0 : goal.returns-else-n-lt0
returns-else-n-lt0 c = c.sha_left.ensures ∙ sha_left_lem _ _ _ (magnitude (positive (shift _ c.shift_count-n.ensures) c.if-n-lt0.false)) (test (shift _ c.shift_count-n.ensures) (lit (pos 0)) c.if-n-lt0.false)
