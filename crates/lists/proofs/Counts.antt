-- How often a link stands in a list.
-- Assumes nothing.
use mathlib.Core.Path.{◌≡◌, refl}
use mathlib.Core.Bool.{Bool, true, false}
use mathlib.Core.Logic.{◌⊎◌, inl, inr}
use borrow.Author.Tests.{eq-eqb, ne_eqb, eqb-true, eqb-false}
use lib.Dec.{eqb}
use Rattle.lists.specs.Lists.{one}
use Rattle.fields.specs.declared.link.Link.{Link}

-- two links are the same or not
pub same? : (l k : Link) → (l ≡ k) ⊎ (l.0 ≡ k.0 → ⊥)
same? l k = go (eqb l.0 k.0) refl
  where
    go : (b : Bool) → eqb l.0 k.0 ≡ b → (l ≡ k) ⊎ (l.0 ≡ k.0 → ⊥)
    go true e = let p = eqb-true l.0 k.0 e in inl (λ i. record { 0 = p i })
    go false e = inr (eqb-false l.0 k.0 e)

pub one_self : (l : Link) → one l l ≡ 1
unfolding one
one_self l = rw (eq-eqb l.0 l.0 refl)

pub one_other : (l k : Link) → (l.0 ≡ k.0 → ⊥) → one l k ≡ 0
unfolding one
one_other l k d = rw (ne_eqb l.0 k.0 d)
