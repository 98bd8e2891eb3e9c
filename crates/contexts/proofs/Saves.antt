-- A save as the code makes it: what is foreseen, then the area taken, is the save of the definition.
-- Assumes nothing.
use Prim.Native.Nat.{ℕ}
use mathlib.Core.Path.{◌≡◌, sym, ap, ap₂, ◌∙◌}
use mathlib.Core.List.{List, ◌++◌}
use lib.ListN.{length, get_or}
use Rattle.memory.specs.Memory.{windows, Memory, memory, lent}
use Rattle.memory.specs.Word.{word_at, put_words}
use Rattle.fields.specs.Link.{link_of}
use Rattle.areas.specs.Place.{place_of, spot_of, Lies, LiesIn, offset}
use Rattle.areas.specs.Area.{area_of}
use Rattle.fields.specs.declared.link.Link.{Link}
use Rattle.memory.specs.declared.address.Address.{Address}
use Rattle.areas.specs.declared.link.Spot.{Spot}
use Rattle.areas.proofs.Places.{spot_at_place}
use Rattle.areas.proofs.Parts.{first_word_placed}
use Rattle.registers.specs.Core.{FCX}
use Rattle.events.specs.declared.event.Stop.{Stop}
use Rattle.contexts.specs.Save.{room_of, Taken, taken, heads_of, take_of, foreseen_of, saving, saved_by, save_at_of, save_of}
use Rattle.contexts.specs.declared.context.Half.{Half}
use Rattle.contexts.proofs.Rooms.{room_at_lem}
use Rattle.std.specs.Prelude.{Err, Ok, Result, Some}
use Rattle.contexts.specs.declared.save.Saved.{Saved}

module _ (core s t : List ℕ) (b c : Address) where
  abbrev m : Memory
  m = lent b s c t

  abbrev l : Link
  l = link_of (get_or core FCX 0)

  -- no area
  pub save_stops : (half : Half) (words : List ℕ) (x : Stop) → room_of m l ≡ Err x → saving (Err x) core m ≡ save_of half words core m
  unfolding save_of
  save_stops half words x e = rw e

  -- the area is found
  module _ (at : ℕ) (e : room_of m l ≡ Ok at) where
    place_found : place_of m l ≡ Some at
    place_found = (room_at_lem m.windows (length m.bytes) l at e).lies

    pub area_lies : Lies m l
    area_lies = (at, place_found)

    pub spot_in : (x : Spot) → x ≡ spot_of m l → LiesIn (length s) (length t) 64 x
    spot_in x f = (spot_at_place s t b c l x f at place_found).0

    pub next_is : (next : Link) → next ≡ link_of (word_at (area_of m l) 0) → next ≡ link_of (word_at (s ++ t) at)
    next_is next n = n ∙ ap link_of (first_word_placed m l at place_found)

    pub taken_is : (half : Half) (words : List ℕ) (next : Link) → next ≡ link_of (word_at (area_of m l) 0) → (x : Spot) → x ≡ spot_of m l
        → taken (heads_of half next core) (put_words (s ++ t) (offset (length s) x) words 16) ≡ take_of half words at core (s ++ t)
    unfolding take_of
    taken_is half words next n x f = rw (next_is next n, (spot_at_place s t b c l x f at place_found).1)

    module _ (half : Half) (words : List ℕ) (next : Link) (n : next ≡ link_of (word_at (area_of m l) 0)) (v : Result Saved Stop) (f : v ≡ foreseen_of core m next) where
      foreseen_is : v ≡ foreseen_of core m (link_of (word_at (s ++ t) at))
      foreseen_is = f ∙ ap (foreseen_of core m) (next_is next n)

      save_is : saved_by half words at core m v ≡ save_of half words core m
      unfolding save_of save_at_of
      save_is = rw (e, ← foreseen_is)

      -- it stops, and all is as it was
      pub save_foreseen : (x : Stop) → v ≡ Err x → saving (Err x) core m ≡ save_of half words core m
      save_foreseen x g = ap (saved_by half words at core m) (sym g) ∙ save_is

      -- it is made
      pub save_made : (y : Saved) → v ≡ Ok y → (x : Spot) → x ≡ spot_of m l → (core' bytes' : List ℕ) (k : ℕ)
          → taken core' bytes' ≡ taken (heads_of half next core) (put_words (s ++ t) (offset (length s) x) words 16) → k ≡ length s
          → saving (Ok y) core' (memory (windows b k c) bytes') ≡ save_of half words core m
      save_made y g x h core' bytes' k q e =
          ap₂ (λ (j : ℕ) (z : Taken). saving (Ok y) z.core (memory (windows b j c) z.bytes)) e (q ∙ taken_is half words next n x h)
          ∙ ap (saved_by half words at core m) (sym g) ∙ save_is
