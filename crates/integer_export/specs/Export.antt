-- An integer operation by its operation byte, with both its answers in one number.
use Rattle.std.specs.Prelude.{ℕ, ◌+◌, ◌*◌, ◌^◌}
use Rattle.integer.specs.Integer.{compute_of}
use Rattle.integer.specs.declared.Computed.{Computed}
use Rattle.operations.specs.Forms.{operation_number}
use Rattle.operations.specs.Operations.{operation_of}
use Rattle.operations.specs.declared.Operation.{Operation}
use Rattle.operations.specs.declared.Operation.TheVariants.{Nop, Integer, Move, Load, Store, Jump, Context, System}

-- PSW above the word
abbrev pub packed_of : Computed → ℕ
packed_of r = r.psw * 2 ^ 32 + r.word

-- 0 for an operation that is no integer one
abbrev pub export_by : Operation → ℕ → ℕ → ℕ → ℕ
export_by Nop a b psw = 0
export_by (Integer op) a b psw = packed_of (compute_of op a b psw)
export_by (Move op) a b psw = 0
export_by (Load op) a b psw = 0
export_by (Store op) a b psw = 0
export_by (Jump op) a b psw = 0
export_by (Context op) a b psw = 0
export_by (System op) a b psw = 0

unfoldable pub export_of : ℕ → ℕ → ℕ → ℕ → ℕ
export_of byte a b psw = export_by (operation_of (operation_number byte)) a b psw
