-- What data of every width has.
use Rattle.std.specs.Prelude.{ℕ, ◌+◌, ◌≤◌, ◌≡◌, List, ◌++◌, length}

-- data of `size` bytes that lies in the first or the second part of the bytes is that data of all: `read` reads it there, `put` writes it there
pub record Joins (size : ℕ) (read : List ℕ → ℕ → ℕ) (put : List ℕ → ℕ → ℕ → List ℕ) : Type 0 where
  pub first_read : (s t : List ℕ) (k : ℕ) → k + size ≤ length s → read s k ≡ read (s ++ t) k
  pub second_read : (s t : List ℕ) (k : ℕ) → read t k ≡ read (s ++ t) (length s + k)
  pub first_put : (s t : List ℕ) (k w : ℕ) → k + size ≤ length s → put s k w ++ t ≡ put (s ++ t) k w
  pub second_put : (s t : List ℕ) (k w : ℕ) → s ++ put t k w ≡ put (s ++ t) (length s + k) w
