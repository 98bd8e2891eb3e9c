use mir.Syntax.{w64}
use Rattle.words.proofs.Exact.{own, need, held, negative, positive}
use Rattle.arithmetic.proofs.absolute.magnitude.Goals as goal

pub overflow_sub-result : goal.overflow_sub-result
overflow_sub-result c = need w64 (negative (held w64 (own c.args.z c.requires) tt) c.if-z-lt0.true) tt

pub returns-then-z-lt0 : goal.returns-then-z-lt0
returns-then-z-lt0 c = (held w64 (negative (held w64 (own c.args.z c.requires) tt) c.if-z-lt0.true) tt).is

pub returns-else-z-lt0 : goal.returns-else-z-lt0
returns-else-z-lt0 c = (positive (held w64 (own c.args.z c.requires) tt) c.if-z-lt0.false).is
