-- How a step of an accepted machine begins: an interrupt is tried first, then the fetch's traps.
use Rattle.std.specs.Prelude.{ℕ, cond, List, get_or, Err, None, Ok, Option, Result, Some, ⊤}
use Rattle.memory.specs.Address.{as_address}
use Rattle.registers.specs.Core.{PC, ICR}
use Rattle.events.specs.Traps.{CODE}
use Rattle.events.specs.declared.trap.Trap.{Trap}
use Rattle.protection.specs.Access.{check_of}
use Rattle.protection.specs.declared.range.Range.{Range}
use Rattle.protection.specs.declared.range.Right.TheVariants.{Execute}
use Rattle.interrupts.specs.Sources.{best_of, takes}
use Rattle.interrupts.specs.declared.Best.{Best}
use Rattle.image.specs.Fetch.{fetch_of}
use Rattle.image.specs.declared.fetch.Instruction.{Instruction}

pub data Beginning : Type 0 where
  -- with the interrupt of a source
  Interrupts : Best → Beginning
  -- with a trap of its fetch
  Traps : Trap → Beginning
  -- with an instruction
  Executes : Instruction → Beginning

-- 4/1 where no record begins at PC
abbrev pub fetch_begins : Option Instruction → Beginning
fetch_begins None = Traps CODE
fetch_begins (Some i) = Executes i

-- 1/4 and 1/5 before it
abbrev pub check_begins : Result ⊤ Trap → Option Instruction → Beginning
check_begins (Err t) f = Traps t
check_begins (Ok _) f = fetch_begins f

-- the fetch at an address
unfoldable pub fetching_at : List ℕ → List ℕ → List Range → ℕ → Beginning
fetching_at img core rs pc = check_begins (check_of core rs Execute (as_address pc)) (fetch_of img pc)

-- img is the image, core the core registers, xs the request words of the 16 sources, rs the 32 ranges
unfoldable pub beginning_of : List ℕ → List ℕ → List ℕ → List Range → Beginning
beginning_of img core xs rs =
    cond (takes (get_or core ICR 0) (best_of xs).level) (Interrupts (best_of xs)) (fetching_at img core rs (get_or core PC 0))
