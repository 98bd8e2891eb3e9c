use Rattle.std.proofs.Common.{w64}
use Rattle.words.proofs.Exact.{times, need, held}
use Rattle.words.proofs.Values.{word}
use Rattle.words.proofs.value.product.Goals as goal

pub overflow_mul-result : goal.overflow_mul-result
overflow_mul-result c = need w64 (times (word c.ranges.a c.signed_value.ensures) (word c.ranges.b c.signed_value-2.ensures)) tt

pub returns : goal.returns
returns c = (held w64 (times (word c.ranges.a c.signed_value.ensures) (word c.ranges.b c.signed_value-2.ensures)) tt).is
