-- What is known of an instruction in an arm of two operations: the act of either.
-- Assumes nothing.
use Prim.Native.Nat.{ℕ}
use mathlib.Core.Path.{◌≡◌}
use mathlib.Core.Bool.{Bool, true, false}
use mathlib.Core.Logic.{◌⊎◌, inl, inr}
use Rattle.operations.specs.declared.Context.{Context}
use Rattle.operations.specs.declared.Context.TheVariants.{Call, Calli, Svlcx, Bisr}
use Rattle.image.specs.declared.fetch.Instruction.{Instruction}
use Rattle.registers.specs.Registers.{A, pc, plus_of}
use Rattle.registers.specs.declared.Registers.{Registers}
use Rattle.calls.specs.Saves.{call_of, lower_save_of}
use Rattle.calls.specs.Instructions.{context_op}

-- CALL or CALLI
module _ (i : Instruction) (r : Registers) (to : ℕ) where
  pub call_told : (op : Context) → (op ≡ Calli → to ≡ A r i.a) → ((op ≡ Calli → ⊥) → to ≡ plus_of (pc r) i.imm) → (op ≡ Call) ⊎ (op ≡ Calli) → context_op op i r ≡ call_of to i.next r
  unfolding context_op
  call_told op a p (inl e) = rw (e, p (λ f. cc))
  call_told op a p (inr e) = rw (e, a e)

-- SVLCX or BISR
module _ (i : Instruction) (r : Registers) (b : Bool) where
  pub lower_told : (op : Context) → (op ≡ Bisr → b ≡ true) → ((op ≡ Bisr → ⊥) → b ≡ false) → (op ≡ Svlcx) ⊎ (op ≡ Bisr) → context_op op i r ≡ lower_save_of b i.imm i.next r
  unfolding context_op lower_save_of
  lower_told op t f (inl e) = rw (e, f (λ g. cc))
  lower_told op t f (inr e) = rw (e, t e)
