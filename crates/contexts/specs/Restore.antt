-- A return (002, 4.6.2): the area at PCXI's link is loaded, and FCX is written over its first word.
use Rattle.std.specs.Prelude.{ℕ, List, Err, None, Ok, Option, Result, Some, ⊤}
use Rattle.std.proofs.lemmas.List.Edits.{sets}
use Rattle.memory.specs.Memory.{Windows, Memory, memory}
use Rattle.memory.specs.Word.{word_at, words_at, put_word}
use Rattle.fields.specs.Link.{link_of}
use Rattle.areas.specs.Place.{place_of}
use Rattle.areas.specs.Area.{area_at}
use Rattle.registers.specs.Registers.{registers, pcxi, fcx, with_psw, with_pcxi, with_fcx}
use Rattle.registers.specs.declared.Registers.{Registers}
use Rattle.contexts.specs.declared.context.Half.{Half}
use Rattle.contexts.specs.declared.context.Half.TheVariants.{Upper, Lower}
use Rattle.events.specs.declared.event.Stop.{Stop}
use Rattle.events.specs.declared.event.Stop.TheVariants.{Outside}

-- the registers of a half, from the 64 bytes of an area: A10 to A15, D8 to D15 and PSW, or A2 to A7 and D0 to D7
abbrev pub half_of : Half → List ℕ → Registers → Registers
half_of Upper area r =
    with_psw (word_at area 4) (registers (sets r.d 8 (words_at area 32 8)) (sets r.a 10 (words_at area 8 6)) r.core)
half_of Lower area r = registers (sets r.d 0 (words_at area 32 8)) (sets r.a 2 (words_at area 8 6)) r.core

-- the registers and the bytes of both windows after a return
pub record Loaded : Type 0 where
  pub registers : Registers
  pub bytes : List ℕ

abbrev pub loaded : Registers → List ℕ → Loaded
loaded r bytes = record { registers = r; bytes = bytes }

-- the half and all of PCXI are loaded, the area's link becomes FCX (bits 31:20 being 0), and FCX goes over the area's first word
unfoldable pub loaded_of : Half → ℕ → Registers → List ℕ → Loaded
loaded_of half at r bytes =
    let area = area_at bytes at in
    loaded (with_fcx (link_of (pcxi r)).0 (with_pcxi (word_at area 0) (half_of half area r))) (put_word bytes at (fcx r))

-- what a return comes to, and the registers and the memory after it
pub record Returning : Type 0 where
  pub returned : Result ⊤ Stop
  pub registers : Registers
  pub memory : Memory

abbrev pub returning : Result ⊤ Stop → Registers → Memory → Returning
returning s r m = record { returned = s; registers = r; memory = m }

abbrev pub loading : Windows → Loaded → Returning
loading w l = returning (Ok tt) l.registers (memory w l.bytes)

abbrev pub return_by : Half → Registers → Memory → Option ℕ → Returning
return_by half r m None = returning (Err Outside) r m
return_by half r m (Some at) = loading m.windows (loaded_of half at r m.bytes)

-- a return to a half. An area that neither window has leaves all as it was
unfoldable pub return_of : Half → Registers → Memory → Returning
return_of half r m = return_by half r m (place_of m (link_of (pcxi r)))
