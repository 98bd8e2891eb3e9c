-- Data in the window that has it: the word there is that word of the memory.
-- Assumes nothing.
use Prim.Native.Nat.{ℕ}
use mathlib.Core.Path.{◌≡◌, sym, ap, ◌∙◌}
use mathlib.Core.List.{List, ◌++◌}
use lib.ListN.{length}
use Rattle.memory.specs.Word.{word_at}
use Rattle.memory.specs.Joins.{words_join}
use Rattle.areas.specs.Place.{offset}
use Rattle.areas.specs.declared.link.Spot.{Spot}
use Rattle.areas.specs.declared.link.Spot.TheVariants.{Second}

module _ (s t : List ℕ) (x : Spot) (k : ℕ) where
  pub second_load_word : x ≡ Second k → word_at t k ≡ word_at (s ++ t) (offset (length s) x)
  second_load_word e = words_join.second_read s t k ∙ ap (λ (z : Spot). word_at (s ++ t) (offset (length s) z)) (sym e)
