use Rattle.std.proofs.Common.{pos, sym, ◌∙◌, w32}
use Rattle.words.proofs.Exact.{cast, lit, minus, held}
use Rattle.words.proofs.Counts.{six_bits, count_low, count_high}
use Rattle.words.proofs.value.shift_count.Goals as goal

pub returns-then-n-lt32 : goal.returns-then-n-lt32
returns-then-n-lt32 c = (cast w32 (six_bits c.args.b) tt).is ∙ sym (count_low _ c.if-n-lt32.true)

pub returns-else-n-lt32 : goal.returns-else-n-lt32
returns-else-n-lt32 c = (held w32 (minus (cast w32 (six_bits c.args.b) tt) (lit (pos 64))) tt).is ∙ sym (count_high _ c.if-n-lt32.false)
