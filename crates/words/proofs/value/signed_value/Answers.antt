use Rattle.std.proofs.Common.{ℕ, ◌+◌, ◌^◌, ◌<◌, ◌%◌, pos, ◌-ℤ◌, ◌∙◌, w64, to_z, arith}
use Rattle.words.proofs.Exact.{Exact, cast, lit, minus, held}
use Rattle.words.proofs.Values.{turned}
use Rattle.words.proofs.value.signed_value.Goals as goal

half : {n : ℕ} → n < 2 ^ 32 → Exact (to_z w64 n -ℤ pos (2 ^ 31)) (pos n -ℤ pos (2 ^ 31)) (2 ^ 32 + (2 ^ 31 + 2))
half f = minus (cast w64 f tt) (lit (pos (2 ^ 31)))

pub returns : goal.returns
returns c = let f : (c.args.w + 2 ^ 31) % 2 ^ 32 < 2 ^ 32 = omega arith in (held w64 (half f) tt).is ∙ turned c.args.w c.ranges.w.fits
