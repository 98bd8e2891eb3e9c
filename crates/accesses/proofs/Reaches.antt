-- What an access that reaches its data has passed.
-- Assumes nothing.
use Prim.Native.Nat.{ℕ, ◌%◌}
use mathlib.Core.Path.{◌≡◌, refl, ap, ◌∙◌}
use mathlib.Core.Bool.{Bool, true, false, cond}
use mathlib.Core.List.{List, ◌++◌}
use lib.ListN.{length}
use native.Mathlib.Omega.{arith}
use lib.Dec.{eqb}
use Rattle.memory.specs.Memory.{Windows, windows}
use Rattle.memory.specs.declared.address.Address.{Address}
use Rattle.areas.specs.Place.{spot_at, placed_at, LiesIn, offset}
use Rattle.areas.specs.declared.link.Spot.{Spot}
use Rattle.areas.proofs.Places.{Within, place_found, spot_placed}
use Rattle.events.specs.Traps.{GRWP, ALN}
use Rattle.events.specs.declared.trap.Trap.{Trap}
use Rattle.protection.specs.Access.{check_of}
use Rattle.protection.specs.declared.range.Range.{Range}
use Rattle.protection.specs.declared.range.Right.{Right}
use Rattle.accesses.specs.Reach.{placed_reach, aligned_reach, checked_reach, reach_of}
use Rattle.std.specs.Prelude.{Err, None, Ok, Option, Result, Some, ⊤}

never : {A : Type 0} (t : Trap) (at : ℕ) → Err t ≡ Ok at → A
never t at e = absurd (let z : ◌≡◌ {A = ℕ} 0 1 = cc in omega arith)

module _ (w : Windows) (len : ℕ) (core : List ℕ) (rs : List Range) (right : Right) (guarded : Bool) (size alignment : ℕ) (address : Address) (at : ℕ) where
  -- the check of protection
  pub reach_passes : reach_of w len core rs right guarded size alignment address ≡ Ok at → check_of core rs right address ≡ (Ok tt)
  unfolding reach_of
  reach_passes = by (check_of core rs right address)
    where
      by : (c : Result ⊤ Trap) → checked_reach c (aligned_reach w len guarded size alignment address) ≡ Ok at → c ≡ (Ok tt)
      by (Ok _) e = refl
      by (Err t) e = never t at e

  -- the data lies in a window
  pub reach_found : reach_of w len core rs right guarded size alignment address ≡ Ok at → placed_at w len size address ≡ Some at
  unfolding reach_of aligned_reach
  reach_found = checked (check_of core rs right address)
    where
      placed : (p : Option ℕ) → placed_reach p ≡ Ok at → p ≡ Some at
      placed None e = never _ at e
      placed (Some k) e = let z : k ≡ at = cc in rw z

      aligned : (a : Bool) → cond a (placed_reach (placed_at w len size address)) (Err ALN) ≡ Ok at → placed_at w len size address ≡ Some at
      aligned true e = placed _ e
      aligned false e = never _ at e

      unguarded : (g : Bool) → cond g (Err GRWP) (cond (eqb (address.0 % alignment) 0) (placed_reach (placed_at w len size address)) (Err ALN)) ≡ Ok at
          → placed_at w len size address ≡ Some at
      unguarded true e = never _ at e
      unguarded false e = aligned (eqb (address.0 % alignment) 0) e

      checked : (c : Result ⊤ Trap) → checked_reach c (cond guarded (Err GRWP) (cond (eqb (address.0 % alignment) 0) (placed_reach (placed_at w len size address)) (Err ALN))) ≡ Ok at
          → placed_at w len size address ≡ Some at
      checked (Err t) e = never t at e
      checked (Ok _) e = unguarded guarded e

  pub reach_inside : reach_of w len core rs right guarded size alignment address ≡ Ok at → Within w.split len at size
  reach_inside e = place_found _ _ _ _ _ (reach_found e)

-- where the data lies: the spot that the code takes is the place that is reached
module _ (s t : List ℕ) (b c : Address) (core : List ℕ) (rs : List Range) (right : Right) (guarded : Bool) (size alignment : ℕ) (address : Address) (at : ℕ) where
  pub reach_spot : (x : Spot) → x ≡ spot_at (windows b (length s) c) (length (s ++ t)) size address
      → reach_of (windows b (length s) c) (length (s ++ t)) core rs right guarded size alignment address ≡ Ok at
      → LiesIn (length s) (length t) size x × (offset (length s) x ≡ at)
  reach_spot x e r =
      spot_placed s t b c size address x e at (reach_found (windows b (length s) c) (length (s ++ t)) core rs right guarded size alignment address at r)

-- bytes written at an offset that is the place
pub put_at : (put : List ℕ → ℕ → ℕ → List ℕ) (bytes : List ℕ) {i j w : ℕ} {after : List ℕ} → after ≡ put bytes i w → i ≡ j → after ≡ put bytes j w
put_at put bytes {i} {j} {w} {after} e o = e ∙ ap (λ (k : ℕ). put bytes k w) o
