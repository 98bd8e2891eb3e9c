-- The window of the start.
-- Assumes nothing.
use Prim.Native.Nat.{ℕ, zero, suc, ◌+◌, ◌*◌}
use native.Mathlib.Omega.{arith}
use mathlib.Core.Path.{◌≡◌, ◌∙◌}
use mathlib.Core.List.{List}
use lib.ListN.{length, length-replicate}
use Rattle.memory.specs.Word.{put_word}
use Rattle.memory.proofs.Words.{put_word_length}
use Rattle.walk.specs.Start.{link_after, linked}

pub linked_length : (k : ℕ) → length (linked k) ≡ 4096
unfolding linked
linked_length zero = length-replicate {A = ℕ} 4096 0
linked_length (suc k) = put_word_length (linked k) (64 * k) (link_after k) ∙ linked_length k

pub link_turn : (s t : List ℕ) (k w : ℕ) → s ≡ linked k → w ≡ link_after k → t ≡ put_word s (64 * k) w → t ≡ linked (k + 1)
unfolding linked
link_turn s t k w e f g = let n : k + 1 ≡ suc k = omega arith in rw (n, g, e, f)
