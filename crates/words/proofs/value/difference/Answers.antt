use Rattle.std.proofs.Common.{w64}
use Rattle.words.proofs.Exact.{minus, need, held}
use Rattle.words.proofs.Values.{word}
use Rattle.words.proofs.value.difference.Goals as goal

pub overflow_sub-result : goal.overflow_sub-result
overflow_sub-result c = need w64 (minus (word c.ranges.a c.signed_value.ensures) (word c.ranges.b c.signed_value-2.ensures)) tt

pub returns : goal.returns
returns c = (held w64 (minus (word c.ranges.a c.signed_value.ensures) (word c.ranges.b c.signed_value-2.ensures)) tt).is
