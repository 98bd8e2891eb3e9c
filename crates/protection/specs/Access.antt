-- Memory access checking (002, 7.3): class 1 of the traps of a read, a write or a fetch.
use Rattle.std.specs.Prelude.{ℕ, Bool, cond, not, ◌&&◌, ◌||◌, List, get_or, leb, Err, None, Ok, Option, Result, ⊤}
use Rattle.fields.specs.Psw.{psw_prs, is_user0}
use Rattle.fields.specs.Syscon.{syscon_proten}
use Rattle.registers.specs.Core.{PSW, SYSCON}
use Rattle.memory.specs.declared.address.Address.{Address}
use Rattle.events.specs.Traps.{MPR, MPW, MPX, MPP}
use Rattle.events.specs.declared.trap.Trap.{Trap}
use Rattle.protection.specs.Range.{permitted, lowest_of}
use Rattle.protection.specs.declared.range.Range.{Range}
use Rattle.protection.specs.declared.range.Right.{Right}
use Rattle.protection.specs.declared.range.Right.TheVariants.{Read, Write, Execute}

-- read, write, fetch in no permitting range
abbrev pub denied_of : Right → Trap
denied_of Read = MPR
denied_of Write = MPW
denied_of Execute = MPX

-- the two upper segments, E and F, are those of the peripherals
abbrev pub peripheral : Address → Bool
peripheral address = leb 0xE000_0000 address.0

-- segments E and F skip the ranges, and are not for User-0. The ranges are those of set PRS, only when protection is on, and only the first byte counts
unfoldable pub check_of : List ℕ → List Range → Right → Address → Result ⊤ Trap
check_of core rs right address =
    let psw = get_or core PSW 0 in
    let syscon = get_or core SYSCON 0 in
    cond (peripheral address) (cond (is_user0 psw) (Err MPP) (Ok tt))
    (cond (not (syscon_proten syscon) || permitted rs (psw_prs psw) right address) (Ok tt) (Err (denied_of right)))

-- the ranges are asked
abbrev pub asks : List ℕ → Address → Bool
asks core address = not (peripheral address) && syscon_proten (get_or core SYSCON 0)

-- the range named for an access: of set PRS the lowest that permits it, and only where the ranges are asked
unfoldable pub permit_of : List ℕ → List Range → Right → Address → Option ℕ
permit_of core rs right address = cond (asks core address) (lowest_of rs (psw_prs (get_or core PSW 0)) right address) None
