-- SVLCX and BISR as one save of the lower context: what is forbidden, and what follows the save.
-- Assumes nothing.
use Prim.Native.Nat.{ℕ}
use native.Mathlib.Omega.{arith}
use mathlib.Core.Path.{◌≡◌, refl}
use mathlib.Core.Bool.{Bool, true, false, cond, not}
use Rattle.fields.specs.Psw.{is_supervisor}
use Rattle.registers.specs.Registers.{psw}
use Rattle.registers.specs.declared.Registers.{Registers}
use Rattle.events.specs.Traps.{PRIV}
use Rattle.contexts.specs.declared.context.Half.TheVariants.{Lower}
use Rattle.acts.specs.Acts.{Save, Ends, Traps}
use Rattle.calls.specs.Saves.{svlcx_of, bisr_of, lower_save_of, lower_then, forbids}

module _ (imm next : ℕ) (r : Registers) where
  pub lower_forbidden : (b : Bool) → forbids b (psw r) ≡ true → lower_save_of b imm next r ≡ Ends (Traps PRIV)
  unfolding lower_save_of forbids bisr_of
  lower_forbidden true e = by (is_supervisor (psw r)) e
    where
      by : (t : Bool) → not t ≡ true → cond t (Save Lower next (lower_then true imm next)) (Ends (Traps PRIV)) ≡ Ends (Traps PRIV)
      by true e = absurd (let z : ◌≡◌ {A = ℕ} 0 1 = cc in omega arith)
      by false e = refl
  lower_forbidden false e = absurd (let z : ◌≡◌ {A = ℕ} 0 1 = cc in omega arith)

  pub lower_saves : (b : Bool) → forbids b (psw r) ≡ false → lower_save_of b imm next r ≡ Save Lower next (lower_then b imm next)
  unfolding lower_save_of forbids bisr_of svlcx_of
  lower_saves true e = by (is_supervisor (psw r)) e
    where
      by : (t : Bool) → not t ≡ false → cond t (Save Lower next (lower_then true imm next)) (Ends (Traps PRIV)) ≡ Save Lower next (lower_then true imm next)
      by true e = refl
      by false e = absurd (let z : ◌≡◌ {A = ℕ} 0 1 = cc in omega arith)
  lower_saves false e = refl
