-- Where an access to data reaches: its place in the windows, or the trap that it takes.
use Rattle.std.specs.Prelude.{ℕ, ◌%◌, Bool, cond, List, eqb, Err, None, Ok, Option, Result, Some, ⊤}
use Rattle.memory.specs.Address.{as_address}
use Rattle.memory.specs.Memory.{Windows}
use Rattle.memory.specs.declared.address.Address.{Address}
use Rattle.areas.specs.Place.{placed_at}
use Rattle.registers.specs.Registers.{plus_of}
use Rattle.events.specs.Traps.{GRWP, ALN, DATA}
use Rattle.protection.specs.Access.{check_of}
use Rattle.protection.specs.declared.range.Range.{Range}
use Rattle.protection.specs.declared.range.Right.{Right}
use Rattle.events.specs.declared.trap.Trap.{Trap}

-- the address of data: A[a] plus immediate, modulo 2^32
abbrev pub data_address : ℕ → ℕ → Address
data_address register imm = as_address (plus_of register imm)

-- 4/2: data not wholly in one window
abbrev pub placed_reach : Option ℕ → Result ℕ Trap
placed_reach None = Err DATA
placed_reach (Some at) = Ok at

-- the traps after those of protection, lowest first: 1/7 where GW guards the register that is written, 2/4, 4/2
unfoldable pub aligned_reach : Windows → ℕ → Bool → ℕ → ℕ → Address → Result ℕ Trap
aligned_reach w len guarded size alignment address =
    cond guarded (Err GRWP)
    (cond (eqb (address.0 % alignment) 0) (placed_reach (placed_at w len size address)) (Err ALN))

abbrev pub checked_reach : Result ⊤ Trap → Result ℕ Trap → Result ℕ Trap
checked_reach (Err t) reach = Err t
checked_reach (Ok _) reach = reach

-- an access of `size` bytes at an address that has to be a multiple of `alignment`, in two windows of len bytes in all
unfoldable pub reach_of : Windows → ℕ → List ℕ → List Range → Right → Bool → ℕ → ℕ → Address → Result ℕ Trap
reach_of w len core rs right guarded size alignment address =
    checked_reach (check_of core rs right address) (aligned_reach w len guarded size alignment address)
