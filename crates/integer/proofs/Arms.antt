-- An arm of the dispatch: what the helper ensures, what the operation ensures, and which operation it is.
-- Assumes nothing.
use Prim.Native.Nat.{ℕ}
use mathlib.Core.Path.{◌≡◌}
use Rattle.integer.specs.declared.Computed.{Computed}
use Rattle.integer.specs.declared.Integer.{Integer}
use Rattle.integer.specs.Integer.{compute_of}

pub arm : {X : Type 0} (g : X → ℕ → Computed) (a b psw : ℕ) {o p : Integer} {r : Computed} {x y : X}
    → r ≡ g x psw → x ≡ y → o ≡ p → g y psw ≡ compute_of p a b psw → r ≡ compute_of o a b psw
arm g a b psw e f h k = rw (h, e, f) k
