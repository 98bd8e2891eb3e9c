-- The area for a save: which area it is.
-- Assumes nothing.
use Prim.Native.Nat.{ℕ}
use native.Mathlib.Omega.{arith}
use mathlib.Core.Path.{◌≡◌, refl}
use mathlib.Core.Bool.{Bool, true, false, cond}
use lib.Dec.{eqb}
use borrow.Author.Tests.{eqb-false, eq-eqb, ne_eqb}
use Rattle.memory.specs.Memory.{Windows}
use Rattle.areas.specs.Link.{area_address}
use Rattle.areas.specs.Place.{placed}
use Rattle.fields.specs.declared.link.Link.{Link}
use Rattle.events.specs.declared.event.Stop.{Stop}
use Rattle.events.specs.declared.event.Stop.TheVariants.{NoArea, Outside}
use Rattle.contexts.specs.Save.{room_at}
use Rattle.std.specs.Prelude.{Option, Some, None, Result, Ok, Err, ok_or}

pub never_room : {s : Stop} {at : ℕ} → ◌≡◌ {A = Result ℕ Stop} (Err s) (Ok at) → ⊥
never_room e = let z : ◌≡◌ {A = ℕ} 0 1 = cc in omega arith

by_place : (p : Option ℕ) (at : ℕ) → ok_or p Outside ≡ Ok at → p ≡ Some at
by_place (Some x) at e = let z : x ≡ at = cc in rw z
by_place None at e = absurd (never_room e)

-- an area that is found: its link is not 0, and it lies at that place
pub record Area (w : Windows) (len : ℕ) (l : Link) (at : ℕ) : Type 0 where
  pub linked : l.0 ≡ 0 → ⊥
  pub lies : placed w len (area_address l) ≡ Some at

pub room_at_lem : (w : Windows) (len : ℕ) (l : Link) (at : ℕ) → room_at w len l ≡ Ok at → Area w len l at
unfolding room_at
room_at_lem w len l at e = by (eqb l.0 0) refl e
  where
    by : (t : Bool) → eqb l.0 0 ≡ t → cond t (Err NoArea) (ok_or (placed w len (area_address l)) Outside) ≡ Ok at → Area w len l at
    by true t f = absurd (never_room f)
    by false t f = record { linked = eqb-false l.0 0 t; lies = by_place (placed w len (area_address l)) at f }

-- the cases of the search for it
module _ (w : Windows) (len : ℕ) (l : Link) where
  pub room_none : l.0 ≡ 0 → Err NoArea ≡ room_at w len l
  unfolding room_at
  room_none z = rw (eq-eqb l.0 0 z)

  pub room_some : (l.0 ≡ 0 → ⊥) → (p : Option ℕ) → p ≡ placed w len (area_address l) → ok_or p Outside ≡ room_at w len l
  unfolding room_at
  room_some some p found = rw (ne_eqb l.0 0 some, found)
