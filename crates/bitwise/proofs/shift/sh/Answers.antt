use lib.IntN.{pos}
use mir.Syntax.{w32, w64}
use mir.Facts.{Fits-div}
use Rattle.words.proofs.Exact.{negative, positive, need, held, unsigned, magnitude, small, test, lit}
use Rattle.words.proofs.Counts.{shift}
use Rattle.bitwise.proofs.Counts.{sh_right, sh_left}
use Rattle.bitwise.proofs.shift.sh.Goals as goal

pub overflow_sub-result : goal.overflow_sub-result
overflow_sub-result c = need w32 (negative (shift _ c.shift_count-n.ensures) c.if-n-lt0.true) tt

pub overflow_cast-result-then-n-lt0 : goal.overflow_cast-result-then-n-lt0
overflow_cast-result-then-n-lt0 c = unsigned w64 (held w32 (negative (shift _ c.shift_count-n.ensures) c.if-n-lt0.true) tt) tt

pub overflow_shr-result : goal.overflow_shr-result
overflow_shr-result c = small 64 (held w32 (negative (shift _ c.shift_count-n.ensures) c.if-n-lt0.true) tt) tt

pub overflow_cast-result-then-n-lt0-2 : goal.overflow_cast-result-then-n-lt0-2
overflow_cast-result-then-n-lt0-2 c = Fits-div _ c.ranges.a

pub overflow_cast-result-else-n-lt0 : goal.overflow_cast-result-else-n-lt0
overflow_cast-result-else-n-lt0 c = unsigned w32 (positive (shift _ c.shift_count-n.ensures) c.if-n-lt0.false) tt

pub overflow_shl-result : goal.overflow_shl-result
overflow_shl-result c = small 32 (positive (shift _ c.shift_count-n.ensures) c.if-n-lt0.false) tt

pub returns-then-n-lt0 : goal.returns-then-n-lt0
returns-then-n-lt0 c = sh_right _ _ _ (magnitude (held w32 (negative (shift _ c.shift_count-n.ensures) c.if-n-lt0.true) tt)) (test (shift _ c.shift_count-n.ensures) (lit (pos 0)) c.if-n-lt0.true)

pub returns-else-n-lt0 : goal.returns-else-n-lt0
returns-else-n-lt0 c = sh_left _ _ _ (magnitude (positive (shift _ c.shift_count-n.ensures) c.if-n-lt0.false)) (test (shift _ c.shift_count-n.ensures) (lit (pos 0)) c.if-n-lt0.false)
