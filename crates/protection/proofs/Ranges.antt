-- The ranges as words.
-- Assumes nothing.
use Prim.Native.Nat.{ℕ, zero, suc, ◌+◌, ◌<◌}
use native.Mathlib.Omega.{arith}
use mathlib.Core.Path.{◌≡◌, ap, ◌∙◌}
use mathlib.Core.List.{List}
use lib.ListN.{get_or}
use Rattle.protection.specs.Range.{range_at, ranges_from, ranges_in, no_range}

-- range i of those from range k on
pub from_at : (n k i : ℕ) (ws : List ℕ) → i < n → get_or (ranges_from n k ws) i no_range ≡ range_at ws (k + i)
from_at zero k i ws h = absurd (omega arith)
from_at (suc n) k zero ws h = let e : k ≡ k + 0 = omega arith in ap (range_at ws) e
from_at (suc n) k (suc i) ws h = let e : k + 1 + i ≡ k + suc i = omega arith in from_at n (k + 1) i ws (omega arith) ∙ ap (range_at ws) e

pub ranges_at : (ws : List ℕ) (k : ℕ) → k < 32 → get_or (ranges_in ws) k no_range ≡ range_at ws k
unfolding ranges_in
ranges_at ws k h = let e : 0 + k ≡ k = omega arith in from_at 32 0 k ws h ∙ ap (range_at ws) e
