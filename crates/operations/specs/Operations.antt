-- Document 01's operations in its order, from 0: the one table of their numbers.
use Rattle.std.specs.Prelude.{ℕ, Bool, true, false, List, [], ◌∷◌, get_or, Option, Some, None}
use Rattle.integer.specs.declared.Integer.TheVariants as integer
use Rattle.operations.specs.declared.Operation.{Operation}
use Rattle.operations.specs.declared.Operation.TheVariants.{Nop, Integer, Move, Load, Store, Jump, Context, System}
use Rattle.operations.specs.declared.Move.TheVariants as move
use Rattle.operations.specs.declared.Load.TheVariants as load
use Rattle.operations.specs.declared.Store.TheVariants as store
use Rattle.operations.specs.declared.Jump as jumps
use Rattle.operations.specs.declared.Jump.TheVariants as jump
use Rattle.operations.specs.declared.Context.TheVariants as context
use Rattle.operations.specs.declared.System.TheVariants as system
use Rattle.operations.specs.declared.Access.{Access}
use Rattle.operations.specs.declared.Access.TheVariants.{Read, Write}

-- the last, RSTV, has number 78; a higher number breaks rule 3
abbrev pub operations : List Operation
operations =
    Nop  -- 0 NOP
    ∷ Integer integer.Add  -- 1 ADD
    ∷ Integer integer.Sub  -- 2 SUB
    ∷ Integer integer.Rsub  -- 3 RSUB
    ∷ Integer integer.Addx  -- 4 ADDX
    ∷ Integer integer.Addc  -- 5 ADDC
    ∷ Integer integer.Subx  -- 6 SUBX
    ∷ Integer integer.Subc  -- 7 SUBC
    ∷ Integer integer.Adds  -- 8 ADDS
    ∷ Integer integer.AddsU  -- 9 ADDS.U
    ∷ Integer integer.Subs  -- 10 SUBS
    ∷ Integer integer.SubsU  -- 11 SUBS.U
    ∷ Integer integer.Mul  -- 12 MUL
    ∷ Integer integer.And  -- 13 AND
    ∷ Integer integer.Or  -- 14 OR
    ∷ Integer integer.Xor  -- 15 XOR
    ∷ Integer integer.Nand  -- 16 NAND
    ∷ Integer integer.Nor  -- 17 NOR
    ∷ Integer integer.Xnor  -- 18 XNOR
    ∷ Integer integer.Andn  -- 19 ANDN
    ∷ Integer integer.Orn  -- 20 ORN
    ∷ Integer integer.Sh  -- 21 SH
    ∷ Integer integer.Sha  -- 22 SHA
    ∷ Integer integer.Min  -- 23 MIN
    ∷ Integer integer.MinU  -- 24 MIN.U
    ∷ Integer integer.Max  -- 25 MAX
    ∷ Integer integer.MaxU  -- 26 MAX.U
    ∷ Integer integer.Abs  -- 27 ABS
    ∷ Integer integer.Absdif  -- 28 ABSDIF
    ∷ Integer integer.Eq  -- 29 EQ
    ∷ Integer integer.Ne  -- 30 NE
    ∷ Integer integer.Lt  -- 31 LT
    ∷ Integer integer.LtU  -- 32 LT.U
    ∷ Integer integer.Ge  -- 33 GE
    ∷ Integer integer.GeU  -- 34 GE.U
    ∷ Integer integer.Clz  -- 35 CLZ
    ∷ Integer integer.Clo  -- 36 CLO
    ∷ Integer integer.Cls  -- 37 CLS
    ∷ Integer integer.Mov  -- 38 MOV
    ∷ Move move.MovA  -- 39 MOV.A
    ∷ Move move.MovD  -- 40 MOV.D
    ∷ Move move.MovAa  -- 41 MOV.AA
    ∷ Move move.AddA  -- 42 ADD.A
    ∷ Move move.SubA  -- 43 SUB.A
    ∷ Load load.LdB  -- 44 LD.B
    ∷ Load load.LdBu  -- 45 LD.BU
    ∷ Load load.LdH  -- 46 LD.H
    ∷ Load load.LdHu  -- 47 LD.HU
    ∷ Load load.LdW  -- 48 LD.W
    ∷ Load load.LdA  -- 49 LD.A
    ∷ Store store.StB  -- 50 ST.B
    ∷ Store store.StH  -- 51 ST.H
    ∷ Store store.StW  -- 52 ST.W
    ∷ Store store.StA  -- 53 ST.A
    ∷ Jump jump.J  -- 54 J
    ∷ Jump jump.Jl  -- 55 JL
    ∷ Jump jump.Ji  -- 56 JI
    ∷ Jump jump.Jeq  -- 57 JEQ
    ∷ Jump jump.Jne  -- 58 JNE
    ∷ Jump jump.Jlt  -- 59 JLT
    ∷ Jump jump.JltU  -- 60 JLT.U
    ∷ Jump jump.Jge  -- 61 JGE
    ∷ Jump jump.JgeU  -- 62 JGE.U
    ∷ Jump jump.Loop  -- 63 LOOP
    ∷ Context context.Call  -- 64 CALL
    ∷ Context context.Calli  -- 65 CALLI
    ∷ Context context.Ret  -- 66 RET
    ∷ Context context.Rfe  -- 67 RFE
    ∷ Context context.Svlcx  -- 68 SVLCX
    ∷ Context context.Rslcx  -- 69 RSLCX
    ∷ Context context.Bisr  -- 70 BISR
    ∷ Context context.Syscall  -- 71 SYSCALL
    ∷ System system.Enable  -- 72 ENABLE
    ∷ System system.Disable  -- 73 DISABLE
    ∷ System system.Mfcr  -- 74 MFCR
    ∷ System system.Mtcr  -- 75 MTCR
    ∷ System system.Trapv  -- 76 TRAPV
    ∷ System system.Trapsv  -- 77 TRAPSV
    ∷ System system.Rstv  -- 78 RSTV
    ∷ []

-- the operation with a number; past the table's end, where rule 3 lets no record stand, the last one
unfoldable pub operation_of : ℕ → Operation
operation_of n = get_or operations n (System system.Rstv)

-- the loads read data memory, the stores write it
abbrev pub access_of : Operation → Option Access
access_of Nop = None
access_of (Integer op) = None
access_of (Move op) = None
access_of (Load op) = Some Read
access_of (Store op) = Some Write
access_of (Jump op) = None
access_of (Context op) = None
access_of (System op) = None

-- JEQ to JGE.U compare D[a] with D[b], and refuse b = 16
abbrev pub jump_compares : jumps.Jump → Bool
jump_compares jump.J = false
jump_compares jump.Jl = false
jump_compares jump.Ji = false
jump_compares jump.Jeq = true
jump_compares jump.Jne = true
jump_compares jump.Jlt = true
jump_compares jump.JltU = true
jump_compares jump.Jge = true
jump_compares jump.JgeU = true
jump_compares jump.Loop = false

abbrev pub compares : Operation → Bool
compares Nop = false
compares (Integer op) = false
compares (Move op) = false
compares (Load op) = false
compares (Store op) = false
compares (Jump op) = jump_compares op
compares (Context op) = false
compares (System op) = false
