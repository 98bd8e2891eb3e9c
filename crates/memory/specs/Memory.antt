-- The lent data memory: two windows.
use Rattle.std.specs.Prelude.{ℕ, ◌-◌, ◌≡◌, List, ◌++◌, length}
use Rattle.memory.specs.declared.address.Address.{Address}

-- where they lie: the address of the first byte of each, and how many bytes the first one has
pub record Windows : Type 0 where
  pub first : Address
  pub split : ℕ
  pub second : Address

abbrev pub windows : Address → ℕ → Address → Windows
windows first split second = record { first = first; split = split; second = second }

-- the bytes of the first window and, after them, those of the second: one list, so that what is read and written of a place is said once, whichever window has it
pub record Memory : Type 0 where
  pub windows : Windows
  pub bytes : List ℕ

abbrev pub memory : Windows → List ℕ → Memory
memory w bytes = record { windows = w; bytes = bytes }

-- two lent windows, each with the address of its first byte
abbrev pub lent : Address → List ℕ → Address → List ℕ → Memory
lent base window base2 window2 = memory (windows base (length window) base2) (window ++ window2)

-- joining loses nothing: where two memories are equal, each window is the same byte for byte, and lies at the same address (proofs/Joined.antt: lossless)
abbrev pub Lossless : Type 0
Lossless = (b c b' c' : Address) (s t s' t' : List ℕ) → lent b s c t ≡ lent b' s' c' t' → (b ≡ b') × (s ≡ s') × (c ≡ c') × (t ≡ t')

-- how many of len bytes are the second window's, and how many the first one's
abbrev pub second_length : Windows → ℕ → ℕ
second_length w len = len - w.split

abbrev pub first_length : Windows → ℕ → ℕ
first_length w len = len - second_length w len
