-- The walk does not run out: it marks an area at each turn, and 2,049 links are more than there are areas.
-- Assumes nothing.
use mathlib.Core.Path.{◌≡◌, refl, sym, ap, ◌∙◌}
use mathlib.Core.Bool.{Bool, true, false}
use mathlib.Core.List.{List, [], ◌∷◌}
use Prim.Native.Nat.{ℕ, zero, suc, ◌/◌, ◌≤◌, ◌<◌}
use native.Mathlib.Decide.{ℕ_discrete}
use native.Mathlib.Omega.{arith}
use Rattle.words.proofs.Truth.{never}
use lib.ListN.{length, get_or, set, length-set}
use Rattle.memory.specs.Memory.{Memory}
use Rattle.memory.specs.Word.{word_at}
use Rattle.fields.specs.Link.{link_of}
use Rattle.areas.specs.Link.{area_address}
use Rattle.areas.specs.Place.{place_of}
use Rattle.lists.specs.Walk.{Walked, list_walk}
use Rattle.fields.specs.declared.link.Link.{Link}
use Rattle.areas.proofs.Places.{placed_at_lem}
use Rattle.lists.proofs.Walks.{walk_over, walk_whole, walk_outside, walk_again, walk_on}
use Rattle.std.specs.Prelude.{None, Option, Some}

-- which of the four cases a link is in
pub data Turn (m : Memory) (l : Link) (met : List Bool) : Type 0 where
  ends : l.0 ≡ 0 → Turn m l met
  outside : (l.0 ≡ 0 → ⊥) → place_of m l ≡ None → Turn m l met
  again : (at : ℕ) → (l.0 ≡ 0 → ⊥) → place_of m l ≡ Some at → get_or met (at / 64) false ≡ true → Turn m l met
  onward : (at : ℕ) → (l.0 ≡ 0 → ⊥) → place_of m l ≡ Some at → get_or met (at / 64) false ≡ false → Turn m l met

pub turn : (m : Memory) (l : Link) (met : List Bool) → Turn m l met
turn m l met = first (ℕ_discrete l.0 0)
  where
    third : (at : ℕ) → (l.0 ≡ 0 → ⊥) → place_of m l ≡ Some at → (b : Bool) → get_or met (at / 64) false ≡ b → Turn m l met
    third at z p true e = again at z p e
    third at z p false e = onward at z p e

    second : (l.0 ≡ 0 → ⊥) → (q : Option ℕ) → place_of m l ≡ q → Turn m l met
    second z (Some at) p = third at z p (get_or met (at / 64) false) refl
    second z None p = outside z p

    first : Dec (l.0 ≡ 0) → Turn m l met
    first (yes e) = ends e
    first (no f) = second f (place_of m l) refl

-- how many areas are not met yet
unfoldable pub unmet : List Bool → ℕ
unmet [] = 0
unmet (true ∷ s) = unmet s
unmet (false ∷ s) = suc (unmet s)

pub unmet_le : (s : List Bool) → unmet s ≤ length s
unfolding unmet
unmet_le [] = omega arith
unmet_le (true ∷ s) = omega (arith, unmet_le s)
unmet_le (false ∷ s) = omega (arith, unmet_le s)

pub unmet_set : (s : List Bool) (k : ℕ) → k < length s → get_or s k false ≡ false → suc (unmet (set s k true)) ≡ unmet s
unfolding unmet
unmet_set [] k h e = absurd (omega arith)
unmet_set (true ∷ s) zero h e = absurd (never e)
unmet_set (false ∷ s) zero h e = refl
unmet_set (true ∷ s) (suc k) h e = unmet_set s k (omega arith) e
unmet_set (false ∷ s) (suc k) h e = ap suc (unmet_set s k (omega arith) e)

-- the place of an area among the marks
pub mark_in : (m : Memory) (l : Link) (met : List Bool) (at : ℕ) → length m.bytes ≤ 131072 → length met ≡ 2048 → place_of m l ≡ Some at → at / 64 < length met
mark_in m l met at hm hs p = omega (arith, (placed_at_lem m.windows (length m.bytes) (area_address l) at p).inside)

pub walk_enough : (f : ℕ) (m : Memory) (l : Link) (met : List Bool) → length m.bytes ≤ 131072 → length met ≡ 2048 → unmet met < f
    → list_walk (suc f) m l met ≡ list_walk f m l met
walk_enough zero m l met hm hs hu = absurd (omega arith)
walk_enough (suc f) m l met hm hs hu = go (turn m l met) (walk_enough f m)
  where
    go : Turn m l met → ((k : Link) (s : List Bool) → length m.bytes ≤ 131072 → length s ≡ 2048 → unmet s < f → list_walk (suc f) m k s ≡ list_walk f m k s)
        → list_walk (suc (suc f)) m l met ≡ list_walk (suc f) m l met
    go (ends e) r = walk_whole (suc f) m l met e ∙ sym (walk_whole f m l met e)
    go (outside z p) r = walk_outside (suc f) m l met z p ∙ sym (walk_outside f m l met z p)
    go (again at z p t) r = walk_again (suc f) m l met z at p t ∙ sym (walk_again f m l met z at p t)
    go (onward at z p t) r =
        let u = unmet_set met (at / 64) (mark_in m l met at hm hs p) t in
        let s : length (set met (at / 64) true) ≡ 2048 = simp length-set hs in
        walk_on (suc f) m l met z at p t ∙ r (link_of (word_at m.bytes at)) (set met (at / 64) true) hm s (omega arith) ∙ sym (walk_on f m l met z at p t)

-- a turn that goes on, with as many links left as before
pub walk_next : (m : Memory) (l : Link) (met : List Bool) (at : ℕ) → length m.bytes ≤ 131072 → length met ≡ 2048 → (l.0 ≡ 0 → ⊥) → place_of m l ≡ Some at → get_or met (at / 64) false ≡ false
    → list_walk 2049 m l met ≡ list_walk 2049 m (link_of (word_at m.bytes at)) (set met (at / 64) true)
walk_next m l met at hm hs z p t =
    let u = unmet_set met (at / 64) (mark_in m l met at hm hs p) t in
    let s : length (set met (at / 64) true) ≡ 2048 = simp length-set hs in
    let v : unmet (set met (at / 64) true) < 2048 = omega (arith, unmet_le met) in
    walk_on 2048 m l met z at p t ∙ sym (walk_enough 2048 m (link_of (word_at m.bytes at)) (set met (at / 64) true) hm s v)

-- the marks are as many as before
pub walk_length : (n : ℕ) (m : Memory) (l : Link) (met : List Bool) → length (list_walk n m l met).met ≡ length met
walk_length zero m l met = ap (λ (w : Walked). length w.met) (walk_over 0 m l met)
walk_length (suc n) m l met = go (turn m l met) (walk_length n m)
  where
    go : Turn m l met → ((k : Link) (s : List Bool) → length (list_walk n m k s).met ≡ length s) → length (list_walk (suc n) m l met).met ≡ length met
    go (ends e) r = rw (walk_whole n m l met e)
    go (outside z p) r = rw (walk_outside n m l met z p)
    go (again at z p t) r = rw (walk_again n m l met z at p t)
    go (onward at z p t) r = rw (walk_on n m l met z at p t) (r (link_of (word_at m.bytes at)) (set met (at / 64) true) ∙ length-set met (at / 64) true)
