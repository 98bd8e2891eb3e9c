-- The cases of a return: a stop, or the half loaded and its area first on the free list.
-- Assumes nothing.
use Prim.Native.Nat.{ℕ}
use native.Mathlib.Omega.{arith}
use mathlib.Core.Path.{◌≡◌, refl}
use mathlib.Core.List.{List}
use Rattle.memory.specs.Memory.{Memory, memory}
use Rattle.memory.specs.Word.{word_at, put_word}
use Rattle.registers.specs.Registers.{pcxi, fcx, with_pcxi, with_fcx}
use Rattle.registers.specs.declared.Registers.{Registers}
use Rattle.events.specs.declared.event.Event.TheVariants as event
use Rattle.events.specs.declared.event.Stop.TheVariants as stop
use Rattle.fields.specs.Link.{link_of}
use Rattle.areas.specs.Place.{place_of}
use Rattle.areas.specs.Area.{area_at}
use Rattle.contexts.specs.Restore.{half_of, loaded_of, return_by, return_of}
use Rattle.contexts.specs.declared.context.Half.{Half}
use Rattle.contexts.specs.declared.context.Half.TheVariants.{Upper, Lower}
use Rattle.entries.specs.Entry.{MadeOf, made}
use Rattle.decisions.specs.Valid.{Valid, Bytes}
use Rattle.execute.specs.Decision.{Return, returning_by, performed_of}
use Rattle.decisions.proofs.Setters.{valid_core}
use Rattle.decisions.proofs.Values.{word_word}
use Rattle.decisions.proofs.Memories.{bytes_area, words_loaded}
use Rattle.std.specs.Prelude.{Err, None, Ok, Option, Some}

-- the registers as loaded from the area at byte `at`
abbrev pub loaded_at : Half → ℕ → Registers → List ℕ → Registers
loaded_at half at r bytes = with_fcx (link_of (pcxi r)).0 (with_pcxi (word_at (area_at bytes at) 0) (half_of half (area_at bytes at) r))

module _ (half : Half) (then : Registers → Registers) (r : Registers) (m : Memory) where
  pub data ReturningCase : MadeOf → Type 0 where
    outside : place_of m (link_of (pcxi r)) ≡ None → ReturningCase (made (Err stop.Outside) r m)
    returns : (at : ℕ) → place_of m (link_of (pcxi r)) ≡ Some at
        → ReturningCase (made (Ok event.Instruction) (then (loaded_at half at r m.bytes)) (memory m.windows (put_word m.bytes at (fcx r))))

  pub returning_case : ReturningCase (performed_of (Return half then) r m)
  unfolding return_of loaded_of
  returning_case = by (place_of m (link_of (pcxi r))) refl
    where
      by : (x : Option ℕ) → place_of m (link_of (pcxi r)) ≡ x → ReturningCase (let v = return_by half r m x in returning_by then v.returned v.registers v.memory)
      by None h = outside h
      by (Some at) h = returns at h

module _ {r : Registers} (w : Valid r) {bytes : List ℕ} (b : Bytes bytes) (at : ℕ) where
  half_valid : (half : Half) → Valid (half_of half (area_at bytes at) r)
  half_valid Upper =
      let a = bytes_area at b in
      valid_core (record { d = words_loaded 8 32 8 w.d a; a = words_loaded 10 8 6 w.a a; core = w.core; even = w.even }) 1 (word_at (area_at bytes at) 4) (omega arith) (word_word a 4)
  half_valid Lower =
      let a = bytes_area at b in
      record { d = words_loaded 0 32 8 w.d a; a = words_loaded 2 8 6 w.a a; core = w.core; even = w.even }

  pub loaded_valid : (half : Half) → Valid (loaded_at half at r bytes)
  loaded_valid half =
      valid_core (valid_core (half_valid half) 2 (word_at (area_at bytes at) 0) (omega arith) (word_word (bytes_area at b) 0)) 3 (link_of (pcxi r)).0 (omega arith) (omega arith)
