-- Loads (002, 8.7 and chapter 9).
use Rattle.std.specs.Prelude.{ℕ, ◌+◌, Bool, true, false, cond, ◌&&◌, List, length, get_or, ltb, Err, Ok, Result}
use Rattle.memory.specs.Memory.{Memory}
use Rattle.memory.specs.declared.address.Address.{Address}
use Rattle.memory.specs.Word.{half_at, word_at}
use Rattle.operations.specs.declared.Load.{Load}
use Rattle.operations.specs.declared.Load.TheVariants.{LdB, LdBu, LdH, LdHu, LdW, LdA}
use Rattle.image.specs.declared.fetch.Instruction.{Instruction}
use Rattle.registers.specs.Registers.{psw, with_d, with_a, with_pc, guards}
use Rattle.registers.specs.declared.Registers.{Registers}
use Rattle.protection.specs.declared.range.Range.{Range}
use Rattle.protection.specs.declared.range.Right.TheVariants.{Read}
use Rattle.acts.specs.Acts as acts
use Rattle.acts.specs.Acts.{Effect, Sets}
use Rattle.accesses.specs.Reach.{data_address, reach_of}
use Rattle.events.specs.declared.trap.Trap.{Trap}

-- A[a] plus immediate
abbrev pub address_in : Instruction → List ℕ → Address
address_in i a = data_address (get_or a i.a 0) i.imm

-- a byte and a halfword with their signs copied
unfoldable pub extend_byte : ℕ → ℕ
extend_byte b = cond (ltb b 0x80) b (b + 0xFFFF_FF00)

unfoldable pub extend_half : ℕ → ℕ
extend_half h = cond (ltb h 0x8000) h (h + 0xFFFF_0000)

abbrev pub size_of : Load → ℕ
size_of LdB = 1
size_of LdBu = 1
size_of LdH = 2
size_of LdHu = 2
size_of LdW = 4
size_of LdA = 4

-- LD.A on 4, other words and halfwords on 2
abbrev pub alignment_of : Load → ℕ
alignment_of LdB = 1
alignment_of LdBu = 1
alignment_of LdH = 2
alignment_of LdHu = 2
alignment_of LdW = 2
alignment_of LdA = 4

-- LD.A loads an address register, the others a data register
abbrev pub loads_address : Load → Bool
loads_address LdB = false
loads_address LdBu = false
loads_address LdH = false
loads_address LdHu = false
loads_address LdW = false
loads_address LdA = true

-- the value at a place
unfoldable pub read_of : Load → List ℕ → ℕ → ℕ
read_of LdB bytes at = extend_byte (get_or bytes at 0)
read_of LdBu bytes at = get_or bytes at 0
read_of LdH bytes at = extend_half (half_at bytes at)
read_of LdHu bytes at = half_at bytes at
read_of LdW bytes at = word_at bytes at
read_of LdA bytes at = word_at bytes at

-- what an access reads where it reaches
abbrev pub read_by : (List ℕ → ℕ → ℕ) → List ℕ → Result ℕ Trap → Result ℕ Trap
read_by read bytes (Err t) = Err t
read_by read bytes (Ok at) = Ok (read bytes at)

-- a register with what was read, and the next PC
abbrev pub set_by : (ℕ → Registers → Registers) → ℕ → Registers → Result ℕ Trap → Effect
set_by put next r (Err t) = acts.Traps t
set_by put next r (Ok v) = Sets (with_pc next (put v r))

-- it goes to D[c], LD.A's to A[c]
abbrev pub put_of : Load → ℕ → ℕ → Registers → Registers
put_of op c v r = cond (loads_address op) (with_a c v r) (with_d c v r)

abbrev pub load_by : Load → Instruction → Registers → Memory → Result ℕ Trap → Effect
load_by op i r m (Err t) = acts.Traps t
load_by op i r m (Ok at) = Sets (with_pc i.next (put_of op i.c (read_of op m.bytes at) r))

-- register c = the value at A[a] plus immediate
unfoldable pub load_of : Load → Instruction → Registers → List Range → Memory → Effect
load_of op i r rs m =
    load_by op i r m (reach_of m.windows (length m.bytes) r.core rs Read (loads_address op && guards (psw r) i.c) (size_of op) (alignment_of op) (address_in i r.a))
