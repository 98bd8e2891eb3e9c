-- The loop that reads ranges.
-- Assumes nothing.
use Prim.Native.Nat.{ℕ, ◌+◌, ◌*◌, ◌<◌}
use native.Mathlib.Omega.{arith}
use native.Mathlib.Decide.{ℕ_discrete}
use mathlib.Core.Path.{◌≡◌, sym, ap, ◌∙◌}
use mathlib.Core.List.{List}
use lib.ListN.{length, get_or, set}
use lib.Seq.{get_or-set_same, get_or-set_other, ext_get_or}
use Rattle.memory.specs.Word.{word_at, words_at}
use Rattle.memory.proofs.Words.{words_at_lem}
use Rattle.protection.specs.Range.{range_at, ranges_in, no_range}
use Rattle.protection.specs.declared.range.Range.{Range}
use Rattle.protection.proofs.Ranges.{ranges_at}

-- ---- ranges
abbrev pub ReadRanges : List ℕ → List Range → ℕ → Type 0
ReadRanges s rs k = (j : ℕ) → j < k → get_or rs j no_range ≡ range_at (words_at s 232 96) j

range : (l u m : ℕ) → Range
range l u m = record { lower = l; upper = u; mode = m }

same : {l l' u u' m m' : ℕ} → l ≡ l' → u ≡ u' → m ≡ m' → range l u m ≡ range l' u' m'
same p q s = rw (p, q, s)

range_read : (s : List ℕ) (k : ℕ) (g : Range) → k < 32 → g.lower ≡ word_at s (232 + 12 * k) → g.upper ≡ word_at s (236 + 12 * k) → g.mode ≡ word_at s (240 + 12 * k)
    → g ≡ range_at (words_at s 232 96) k
unfolding range
range_read s k g h p q t =
    let e0 : 232 + 12 * k ≡ 232 + 4 * (3 * k) = omega arith in
    let e1 : 236 + 12 * k ≡ 232 + 4 * (3 * k + 1) = omega arith in
    let e2 : 240 + 12 * k ≡ 232 + 4 * (3 * k + 2) = omega arith in
    same
    (p ∙ ap (word_at s) e0 ∙ sym (words_at_lem s 96 232 (3 * k) (omega arith)))
    (q ∙ ap (word_at s) e1 ∙ sym (words_at_lem s 96 232 (3 * k + 1) (omega arith)))
    (t ∙ ap (word_at s) e2 ∙ sym (words_at_lem s 96 232 (3 * k + 2) (omega arith)))

pub ranges_turn : (s : List ℕ) (rs : List Range) (k : ℕ) (g : Range) → length rs ≡ 32 → k < 32
    → g.lower ≡ word_at s (232 + 12 * k) → g.upper ≡ word_at s (236 + 12 * k) → g.mode ≡ word_at s (240 + 12 * k) → ReadRanges s rs k → ReadRanges s (set rs k g) (k + 1)
ranges_turn s rs k g n h p q t b j l = by (ℕ_discrete j k)
  where
    by : Dec (j ≡ k) → get_or (set rs k g) j no_range ≡ range_at (words_at s 232 96) j
    by (yes e) = rw e (get_or-set_same rs k g no_range (omega arith) ∙ range_read s k g h p q t)
    by (no n) = get_or-set_other rs k j g no_range n ∙ b j (omega arith)

pub ranges_end : (s : List ℕ) (rs : List Range) (k : ℕ) → length rs ≡ 32 → k ≡ 32 → ReadRanges s rs k → rs ≡ ranges_in (words_at s 232 96)
unfolding ranges_in
ranges_end s rs k l e b = ext_get_or no_range rs (ranges_in (words_at s 232 96)) l (λ i h. b i (omega arith) ∙ sym (ranges_at (words_at s 232 96) i (omega arith)))
