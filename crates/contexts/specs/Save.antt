-- A save (002, 4.3 and 4.6.1): the area at FCX, its context, and the heads of the lists.
use Rattle.std.specs.Prelude.{ℕ, cond, List, length, get_or, set, eqb, Err, Ok, Result, ok_or}
use Rattle.memory.specs.Memory.{Windows, Memory, memory}
use Rattle.memory.specs.Word.{word_at, put_words}
use Rattle.fields.specs.Link.{link_of}
use Rattle.areas.specs.Link.{area_address}
use Rattle.fields.specs.declared.link.Link.{Link}
use Rattle.areas.specs.Place.{placed}
use Rattle.fields.specs.Pcxi.{pcxi_of}
use Rattle.registers.specs.Core.{PCXI, FCX, LCX, ICR}
use Rattle.events.specs.declared.event.Stop.TheVariants.{NoArea, Outside}
use Rattle.contexts.specs.Context.{ul_of}
use Rattle.contexts.specs.declared.context.Half.{Half}
use Rattle.events.specs.declared.event.Stop.{Stop}
use Rattle.contexts.specs.declared.save.Saved.{Saved}
use Rattle.contexts.specs.declared.save.Saved.TheVariants.{Depleted, Done}

-- the area that a link names, for a save: 11 where the link is 0, 12 where neither window has the area
unfoldable pub room_at : Windows → ℕ → Link → Result ℕ Stop
room_at w len l = cond (eqb l.0 0) (Err NoArea) (ok_or (placed w len (area_address l)) Outside)

abbrev pub room_of : Memory → Link → Result ℕ Stop
room_of m l = room_at m.windows (length m.bytes) l

-- the core registers and the bytes of both windows after an area was taken
pub record Taken : Type 0 where
  pub core : List ℕ
  pub bytes : List ℕ

abbrev pub taken : List ℕ → List ℕ → Taken
taken core bytes = record { core = core; bytes = bytes }

-- the heads after a save: PCXI is set (PCPN = CCPN, PIE = IE, UL, link = the taken area), then FCX, to the next link
abbrev pub heads_of : Half → Link → List ℕ → List ℕ
heads_of half next core =
    let fcx = get_or core FCX 0 in
    let icr = get_or core ICR 0 in
    set (set core PCXI (pcxi_of icr (ul_of half) (link_of fcx))) FCX next.0

-- the area's first word is read as the next FCX (low 20 bits, the others 0), and the sixteen words are written
unfoldable pub take_of : Half → List ℕ → ℕ → List ℕ → List ℕ → Taken
take_of half words at core bytes = taken (heads_of half (link_of (word_at bytes at)) core) (put_words bytes at words 16)

-- what a save comes to, and the core registers and the memory after it
pub record Saving : Type 0 where
  pub saved : Result Saved Stop
  pub core : List ℕ
  pub memory : Memory

abbrev pub saving : Result Saved Stop → List ℕ → Memory → Saving
saving s core m = record { saved = s; core = core; memory = m }

abbrev pub taking : Result Saved Stop → Windows → Taken → Saving
taking s w t = saving s t.core (memory w t.bytes)

-- where the area taken is LCX's an FCD entry follows, if there is an area for it too: known before anything is written
abbrev pub foreseen_by : Result ℕ Stop → Result Saved Stop
foreseen_by (Err s) = Err s
foreseen_by (Ok second) = Ok Depleted

unfoldable pub foreseen_of : List ℕ → Memory → Link → Result Saved Stop
foreseen_of core m next =
    let fcx = get_or core FCX 0 in
    let lcx = get_or core LCX 0 in
    cond (eqb (link_of fcx).0 (link_of lcx).0) (foreseen_by (room_of m next)) (Ok Done)

abbrev pub saved_by : Half → List ℕ → ℕ → List ℕ → Memory → Result Saved Stop → Saving
saved_by half words at core m (Err s) = saving (Err s) core m
saved_by half words at core m (Ok s) = taking (Ok s) m.windows (take_of half words at core m.bytes)

-- a save into the area at byte `at`
unfoldable pub save_at_of : Half → List ℕ → ℕ → List ℕ → Memory → Saving
save_at_of half words at core m = saved_by half words at core m (foreseen_of core m (link_of (word_at m.bytes at)))

abbrev pub save_by : Half → List ℕ → List ℕ → Memory → Result ℕ Stop → Saving
save_by half words core m (Err s) = saving (Err s) core m
save_by half words core m (Ok at) = save_at_of half words at core m

-- a save of sixteen words into the area at FCX. A stop leaves all as it was
unfoldable pub save_of : Half → List ℕ → List ℕ → Memory → Saving
save_of half words core m = let fcx = get_or core FCX 0 in save_by half words core m (room_of m (link_of fcx))
