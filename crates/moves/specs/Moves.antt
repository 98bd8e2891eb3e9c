-- Integer operations on the registers, and the moves and the arithmetic of address registers (002, 8.1, 8.4 and chapter 9).
use Rattle.std.specs.Prelude.{ℕ, cond}
use Rattle.integer.specs.Integer.{compute_of}
use Rattle.integer.specs.declared.Integer.{Integer}
use Rattle.operations.specs.declared.Move.{Move}
use Rattle.operations.specs.declared.Move.TheVariants.{MovA, MovD, MovAa, AddA, SubA}
use Rattle.image.specs.declared.fetch.Instruction.{Instruction}
use Rattle.registers.specs.Registers.{D, A, psw, with_d, with_a, with_pc, with_psw, second_of, plus_of, minus_of, guards}
use Rattle.registers.specs.declared.Registers.{Registers}
use Rattle.events.specs.Traps.{GRWP}
use Rattle.acts.specs.Acts.{Effect, Sets, Traps}

-- the result of D[a] and the second operand goes to D[c], with PSW
unfoldable pub integer_of : Integer → Instruction → Registers → Registers
integer_of op i r =
    let v = compute_of op (D r i.a) (second_of r.d i.b i.imm) (psw r) in
    with_pc i.next (with_psw v.psw (with_d i.c v.word r))

-- a value goes to A[c]: 1/7 where that is A0, A1, A8 or A9 with GW 0
unfoldable pub address_write : ℕ → ℕ → ℕ → Registers → Effect
address_write c value next r = cond (guards (psw r) c) (Traps GRWP) (Sets (with_pc next (with_a c value r)))

unfoldable pub move_of : Move → Instruction → Registers → Effect
-- A[c] = the second operand, of D
move_of MovA i r = address_write i.c (second_of r.d i.b i.imm) i.next r
-- D[c] = A[a]
move_of MovD i r = Sets (with_pc i.next (with_d i.c (A r i.a) r))
-- A[c] = A[a]
move_of MovAa i r = address_write i.c (A r i.a) i.next r
-- A[c] = A[a] + the second operand, of A
move_of AddA i r = address_write i.c (plus_of (A r i.a) (second_of r.a i.b i.imm)) i.next r
-- A[c] = A[a] - the second operand, of A
move_of SubA i r = address_write i.c (minus_of (A r i.a) (second_of r.a i.b i.imm)) i.next r
