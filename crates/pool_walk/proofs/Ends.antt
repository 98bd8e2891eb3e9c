-- The blocks of a walk end: each but the last makes a step.
-- Assumes nothing.
use Prim.Native.Nat.{ℕ, ◌+◌, ◌-◌, ◌≤◌, ◌<◌}
use native.Mathlib.Omega.{arith}
use mathlib.Core.Path.{◌≡◌, refl}
use mathlib.Core.Bool.{Bool, true, false, cond}
use Rattle.walk.specs.Blocks.{Onward}
use Rattle.walk.specs.declared.blocks.Walk.{Walk}

abbrev pub left : Walk → ℕ
left w = cond w.over 0 (1 + (100000 - w.made))

fewer : (o : Bool) (k m : ℕ) → (o ≡ false → k < m) → (o ≡ false → m ≤ 100000) → cond o 0 (1 + (100000 - m)) < 1 + (100000 - k)
fewer true k m f g = omega arith
fewer false k m f g = omega (arith, f refl, g refl)

pub falls : (v w : Walk) → v.over ≡ false → Onward v w → left w < left v
falls v w e o = rw e (fewer w.over v.made w.made o.more o.most)
