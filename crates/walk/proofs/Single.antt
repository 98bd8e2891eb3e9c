-- Two windows of which the second has no bytes are one.
-- Assumes nothing.
use Prim.Native.Nat.{ℕ}
use native.Mathlib.Omega.{arith}
use mathlib.Core.Path.{◌≡◌, sym, ap, ◌∙◌}
use mathlib.Core.List.{List, [], ◌∷◌, append-nil}
use lib.ListN.{length}
use Rattle.memory.specs.Address.{as_address}
use Rattle.memory.specs.Memory.{Memory, windows, memory, lent}
use Rattle.registers.specs.declared.Registers.{Registers}
use Rattle.protection.specs.declared.range.Range.{Range}
use Rattle.permits.specs.declared.Permits.{Permits}
use Rattle.machine.specs.Step.{stepped, step_of}
use Rattle.walk.specs.Start.{window_of}
use Rattle.std.specs.Prelude.{Result}
use Rattle.events.specs.declared.event.Event.{Event}
use Rattle.machine.specs.declared.answer.Unmade.{Unmade}

pub single : (w x : List ℕ) → length x ≡ 0 → lent (as_address 0xD000_0000) w (as_address 0) x ≡ window_of w
single w [] e = ap (memory (windows (as_address 0xD000_0000) (length w) (as_address 0))) (append-nil w)
single w (x ∷ xs) e = absurd (omega arith)

module _ (w' x' : List ℕ) (none : length x' ≡ 0) where
  pub single_step : (img : List ℕ) (r : Registers) (xs : List ℕ) (rs : List Range) (w : List ℕ) {q : Registers} {ys : List ℕ} {o : Result Event Unmade} {p : Permits}
      → stepped o q ys (lent (as_address 0xD000_0000) w' (as_address 0) x') p ≡ step_of img r xs rs (lent (as_address 0xD000_0000) w (as_address 0) []) → stepped o q ys (window_of w') p ≡ step_of img r xs rs (window_of w)
  single_step img r xs rs w {q} {ys} {o} {p} e =
      ap (λ (m : Memory). stepped o q ys m p) (sym (single w' x' none)) ∙ e ∙ ap (λ (m : Memory). step_of img r xs rs m) (ap (memory (windows (as_address 0xD000_0000) (length w) (as_address 0))) (append-nil w))
