use Rattle.std.proofs.Common.{w64}
use Rattle.words.proofs.Exact.{plus, need, held}
use Rattle.words.proofs.Values.{word}
use Rattle.words.proofs.value.sum.Goals as goal

pub overflow_add-result : goal.overflow_add-result
overflow_add-result c = need w64 (plus (word c.ranges.a c.signed_value.ensures) (word c.ranges.b c.signed_value-2.ensures)) tt

pub returns : goal.returns
returns c = (held w64 (plus (word c.ranges.a c.signed_value.ensures) (word c.ranges.b c.signed_value-2.ensures)) tt).is
