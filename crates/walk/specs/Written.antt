-- A text written into a buffer.
use Rattle.std.specs.Prelude.{ℕ, ◌+◌, ◌≤◌, ◌≡◌, List, length}
use Rattle.std.proofs.lemmas.List.Edits.{sets}

-- the text of at most `most` bytes stands in the buffer from `at` to `end`, and all else is as it was
pub record Written (before : List ℕ) (at : ℕ) (text : List ℕ) (most : ℕ) (after : List ℕ) (end : ℕ) : Type 0 where
  pub bytes : after ≡ sets before at text
  pub ends : end ≡ at + length text
  -- what follows, for a caller's sums
  pub size : length after ≡ length before
  pub room : end ≤ at + most
  pub fits : end ≤ length after
