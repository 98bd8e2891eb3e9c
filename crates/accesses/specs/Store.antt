-- Stores (002, 8.7 and chapter 9).
use Rattle.std.specs.Prelude.{ℕ, false, List, length, get_or, Err, Ok, Result, ⊤}
use Rattle.memory.specs.Memory.{Memory}
use Rattle.operations.specs.declared.Store.{Store}
use Rattle.operations.specs.declared.Store.TheVariants.{StB, StH, StW, StA}
use Rattle.image.specs.declared.fetch.Instruction.{Instruction}
use Rattle.registers.specs.Registers.{with_pc}
use Rattle.registers.specs.declared.Registers.{Registers}
use Rattle.protection.specs.declared.range.Range.{Range}
use Rattle.protection.specs.declared.range.Right.TheVariants as right
use Rattle.acts.specs.Acts as acts
use Rattle.acts.specs.Acts.{Act, Effect, Ends, Sets, Write}
use Rattle.accesses.specs.Reach.{reach_of}
use Rattle.accesses.specs.Load.{address_in}
use Rattle.events.specs.declared.trap.Trap.{Trap}

abbrev pub size_of : Store → ℕ
size_of StB = 1
size_of StH = 2
size_of StW = 4
size_of StA = 4

-- ST.A on 4, other words and halfwords on 2
abbrev pub alignment_of : Store → ℕ
alignment_of StB = 1
alignment_of StH = 2
alignment_of StW = 2
alignment_of StA = 4

-- D[c], ST.A's A[c]
abbrev pub value_of : Store → ℕ → List ℕ → List ℕ → ℕ
value_of StB c d a = get_or d c 0
value_of StH c d a = get_or d c 0
value_of StW c d a = get_or d c 0
value_of StA c d a = get_or a c 0

-- whether an access reaches
abbrev pub reached : Result ℕ Trap → Result ⊤ Trap
reached (Err t) = Err t
reached (Ok at) = Ok tt

-- the bytes after it
abbrev pub written_by : (List ℕ → ℕ → ℕ → List ℕ) → ℕ → List ℕ → Result ℕ Trap → List ℕ
written_by put v bytes (Err t) = bytes
written_by put v bytes (Ok at) = put bytes at v

-- the next PC where it does
abbrev pub end_by : ℕ → Registers → Result ⊤ Trap → Effect
end_by next r (Err t) = acts.Traps t
end_by next r (Ok _) = Sets (with_pc next r)

abbrev pub store_by : Store → Instruction → Registers → Result ℕ Trap → Act
store_by op i r (Err t) = Ends (acts.Traps t)
store_by op i r (Ok at) = Write op at (value_of op i.c r.d r.a) (with_pc i.next r)

-- register c goes to A[a] plus immediate; no register is written
unfoldable pub store_of : Store → Instruction → Registers → List Range → Memory → Act
store_of op i r rs m =
    store_by op i r (reach_of m.windows (length m.bytes) r.core rs right.Write false (size_of op) (alignment_of op) (address_in i r.a))
