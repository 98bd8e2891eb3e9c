-- The jumps and LOOP (002, 8.6 and chapter 9).
use Rattle.std.specs.Prelude.{ℕ, Bool, true, not, cond}
use Rattle.compare.specs.Compare.{equals, less_signed, less_unsigned}
use Rattle.operations.specs.declared.Jump.{Jump}
use Rattle.operations.specs.declared.Jump.TheVariants.{J, Jl, Ji, Jeq, Jne, Jlt, JltU, Jge, JgeU, Loop}
use Rattle.image.specs.declared.fetch.Instruction.{Instruction}
use Rattle.registers.specs.Registers.{D, A, pc, psw, with_a, with_pc, plus_of, minus_of, new_pc, guards}
use Rattle.registers.specs.declared.Registers.{Registers}
use Rattle.events.specs.Traps.{GRWP}
use Rattle.acts.specs.Acts.{Effect, Sets, Traps}

-- jumps go to PC plus immediate, modulo 2^32
unfoldable pub target_of : ℕ → ℕ → ℕ
target_of pc imm = new_pc (plus_of pc imm)

unfoldable pub branch_of : Bool → ℕ → ℕ → ℕ → ℕ
branch_of taken pc imm next = cond taken (target_of pc imm) next

-- the condition of JEQ to JGE.U; the other jumps have none
abbrev pub holds : Jump → ℕ → ℕ → Bool
holds J x y = true
holds Jl x y = true
holds Ji x y = true
holds Jeq x y = equals x y
holds Jne x y = not (equals x y)
holds Jlt x y = less_signed x y
holds JltU x y = less_unsigned x y
holds Jge x y = not (less_signed x y)
holds JgeU x y = not (less_unsigned x y)
holds Loop x y = true

-- JEQ to JGE.U compare D[a] with D[b]
unfoldable pub compare_of : Jump → Instruction → Registers → Effect
compare_of op i r = Sets (with_pc (branch_of (holds op (D r i.a) (D r i.b)) (pc r) i.imm i.next) r)

-- LOOP jumps if A[a] isn't 0, then subtracts 1 modulo 2^32; 1/7 where A[a] may not be written
unfoldable pub loop_of : Instruction → Registers → Effect
loop_of i r =
    cond (guards (psw r) i.a) (Traps GRWP)
    (Sets (with_pc (branch_of (not (equals (A r i.a) 0)) (pc r) i.imm i.next) (with_a i.a (minus_of (A r i.a) 1) r)))

unfoldable pub jump_of : Jump → Instruction → Registers → Effect
jump_of J i r = Sets (with_pc (target_of (pc r) i.imm) r)
-- A11 = PC + 4
jump_of Jl i r = Sets (with_pc (target_of (pc r) i.imm) (with_a 11 i.next r))
-- to A[a] as before the step
jump_of Ji i r = Sets (with_pc (new_pc (A r i.a)) r)
jump_of Jeq i r = compare_of Jeq i r
jump_of Jne i r = compare_of Jne i r
jump_of Jlt i r = compare_of Jlt i r
jump_of JltU i r = compare_of JltU i r
jump_of Jge i r = compare_of Jge i r
jump_of JgeU i r = compare_of JgeU i r
jump_of Loop i r = loop_of i r
