-- Links.
-- Assumes nothing.
use Prim.Native.Nat.{ℕ, ◌%◌, ◌^◌, ◌<◌}
use native.Mathlib.Omega.{arith}
use mathlib.Core.Path.{◌≡◌, ap, subst}
use Rattle.fields.specs.Link.{link_of}
use Rattle.fields.specs.declared.link.Link.{Link}

-- a link of a word is a link
pub link_below : {k : Link} (w : ℕ) → link_of w ≡ k → k.0 < 2 ^ 20
link_below {k} w e = subst (λ (l : Link). l.0 < 2 ^ 20) e (omega arith)

-- and the link of a link is itself
pub link_twice : (w : ℕ) → link_of (link_of w).0 ≡ link_of w
link_twice w = let e : w % 2 ^ 20 % 2 ^ 20 ≡ w % 2 ^ 20 = omega arith in ap (λ (x : ℕ). record { 0 = x }) e
