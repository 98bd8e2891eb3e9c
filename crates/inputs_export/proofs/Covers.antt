-- How many addresses a fetched record covers.
-- Assumes nothing.
use Rattle.std.proofs.Common.{◌≡◌, ℕ, ◌+◌, ◌*◌, ◌%◌, ◌^◌, ◌<◌, ◌≤◌, List, get_or, arith}
use Rattle.image.specs.Table.{entry_at}
use Rattle.image.specs.Rest.{far_of}
use Rattle.image.specs.Fetch.{instruction_at, FetchSays}
use Rattle.image.specs.declared.fetch.Instruction.{Instruction}
use Rattle.image.proofs.Addresses.{length_says}
use Rattle.std.specs.Prelude.{Some}

at_most : (img : List ℕ) (at pc : ℕ) → pc < 2 ^ 32 → far_of pc (instruction_at img at pc).next ≤ 4
unfolding instruction_at
at_most img at pc h = let l = (length_says (get_or img at 0)).high in omega arith

pub covers_few : (img : List ℕ) (pc : ℕ) (r : Instruction) → FetchSays img pc (Some r) → pc < 2 ^ 32 → far_of pc r.next ≤ 4
covers_few img pc r (i, j, b, e) h = rw e (at_most img ((entry_at img i).offset + 8 * j) pc h)

-- the code's distance, which wraps
pub distance_is : (pc next far : ℕ) → pc < 2 ^ 32 → next < 2 ^ 32 → far < 2 ^ 32 → (far + pc) % 2 ^ 32 ≡ next → far ≡ far_of pc next
distance_is pc next far h n f e = omega arith
