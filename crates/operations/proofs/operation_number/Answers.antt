use native.Mathlib.Omega.{arith}
use Rattle.operations.proofs.Forms.{byte_number}
use Rattle.operations.proofs.operation_number.Goals as goal

pub returns : goal.returns
returns c = byte_number _ (omega arith)
