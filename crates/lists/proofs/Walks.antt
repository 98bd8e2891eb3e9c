-- The cases of a turn of the walk.
-- Assumes nothing.
use mathlib.Core.Path.{◌≡◌, refl}
use mathlib.Core.Bool.{Bool, true, false}
use mathlib.Core.List.{List}
use Prim.Native.Nat.{ℕ, suc, ◌/◌}
use lib.ListN.{get_or, set}
use borrow.Author.Tests.{eq-eqb, ne_eqb}
use Rattle.memory.specs.Memory.{Memory}
use Rattle.memory.specs.Word.{word_at}
use Rattle.fields.specs.Link.{link_of}
use Rattle.areas.specs.Place.{place_of}
use Rattle.lists.specs.Walk.{walked, list_walk}
use Rattle.fields.specs.declared.link.Link.{Link}
use Rattle.std.specs.Prelude.{Err, None, Ok, Some}
use Rattle.lists.specs.declared.ListFault.TheVariants.{LinkOutside, MetAgain}

module _ (n : ℕ) (m : Memory) (l : Link) (met : List Bool) where
  pub walk_over : list_walk 0 m l met ≡ walked (Err MetAgain) met
  unfolding list_walk
  walk_over = refl

  pub walk_whole : l.0 ≡ 0 → list_walk (suc n) m l met ≡ walked (Ok tt) met
  unfolding list_walk
  walk_whole h = simp (eq-eqb _ _ h)

  module _ (z : l.0 ≡ 0 → ⊥) where
    pub walk_outside : place_of m l ≡ None → list_walk (suc n) m l met ≡ walked (Err LinkOutside) met
    unfolding list_walk
    walk_outside e = simp (ne_eqb _ _ z, e)

    module _ (at : ℕ) (e : place_of m l ≡ Some at) where
      pub walk_again : get_or met (at / 64) false ≡ true → list_walk (suc n) m l met ≡ walked (Err MetAgain) met
      unfolding list_walk
      walk_again t = simp (ne_eqb _ _ z, e, t)

      pub walk_on : get_or met (at / 64) false ≡ false → list_walk (suc n) m l met ≡ list_walk n m (link_of (word_at m.bytes at)) (set met (at / 64) true)
      unfolding list_walk
      walk_on t = simp (ne_eqb _ _ z, e, t)
