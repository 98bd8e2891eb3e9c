use mathlib.Core.Path.{refl, ap, ◌∙◌}
use Rattle.arithmetic.specs.Arithmetic.{addc_of, subc_of}
use Rattle.integer.specs.Integer.{flagged, carried, plain, compute_of}
use Rattle.integer.proofs.Arms.{arm}
use Rattle.integer.proofs.compute.Goals as goal

pub returns-in-Add : goal.returns-in-Add
unfolding compute_of
returns-in-Add c = arm flagged _ _ _ c.with_overflow.ensures c.add.ensures c.in-Add.is refl

pub returns-in-Sub : goal.returns-in-Sub
unfolding compute_of
returns-in-Sub c = arm flagged _ _ _ c.with_overflow-in-Sub.ensures c.sub.ensures c.in-Sub.is refl

pub returns-in-Rsub : goal.returns-in-Rsub
unfolding compute_of
returns-in-Rsub c = arm flagged _ _ _ c.with_overflow-in-Rsub.ensures c.rsub.ensures c.in-Rsub.is refl

pub returns-in-Addx : goal.returns-in-Addx
unfolding compute_of
returns-in-Addx c = arm carried _ _ _ c.with_flags.ensures c.addx.ensures c.in-Addx.is refl

pub returns-in-Addc : goal.returns-in-Addc
unfolding compute_of
returns-in-Addc c = arm carried _ _ _ c.with_flags-in-Addc.ensures (c.addc.ensures ∙ ap (addc_of _ _) c.carry.ensures) c.in-Addc.is refl

pub returns-in-Subx : goal.returns-in-Subx
unfolding compute_of
returns-in-Subx c = arm carried _ _ _ c.with_flags-in-Subx.ensures c.subx.ensures c.in-Subx.is refl

pub returns-in-Subc : goal.returns-in-Subc
unfolding compute_of
returns-in-Subc c = arm carried _ _ _ c.with_flags-in-Subc.ensures (c.subc.ensures ∙ ap (subc_of _ _) c.carry-in-Subc.ensures) c.in-Subc.is refl

pub returns-in-Adds : goal.returns-in-Adds
unfolding compute_of
returns-in-Adds c = arm flagged _ _ _ c.with_overflow-in-Adds.ensures c.adds.ensures c.in-Adds.is refl

pub returns-in-AddsU : goal.returns-in-AddsU
unfolding compute_of
returns-in-AddsU c = arm flagged _ _ _ c.with_overflow-in-AddsU.ensures c.adds_u.ensures c.in-AddsU.is refl

pub returns-in-Subs : goal.returns-in-Subs
unfolding compute_of
returns-in-Subs c = arm flagged _ _ _ c.with_overflow-in-Subs.ensures c.subs.ensures c.in-Subs.is refl

pub returns-in-SubsU : goal.returns-in-SubsU
unfolding compute_of
returns-in-SubsU c = arm flagged _ _ _ c.with_overflow-in-SubsU.ensures c.subs_u.ensures c.in-SubsU.is refl

pub returns-in-Mul : goal.returns-in-Mul
unfolding compute_of
returns-in-Mul c = arm flagged _ _ _ c.with_overflow-in-Mul.ensures c.mul.ensures c.in-Mul.is refl

pub returns-in-And : goal.returns-in-And
unfolding compute_of
returns-in-And c = arm plain _ _ _ c.without_flags.ensures c.and.ensures c.in-And.is refl

pub returns-in-Or : goal.returns-in-Or
unfolding compute_of
returns-in-Or c = arm plain _ _ _ c.without_flags-in-Or.ensures c.or.ensures c.in-Or.is refl

pub returns-in-Xor : goal.returns-in-Xor
unfolding compute_of
returns-in-Xor c = arm plain _ _ _ c.without_flags-in-Xor.ensures c.xor.ensures c.in-Xor.is refl

pub returns-in-Nand : goal.returns-in-Nand
unfolding compute_of
returns-in-Nand c = arm plain _ _ _ c.without_flags-in-Nand.ensures c.nand.ensures c.in-Nand.is refl

pub returns-in-Nor : goal.returns-in-Nor
unfolding compute_of
returns-in-Nor c = arm plain _ _ _ c.without_flags-in-Nor.ensures c.nor.ensures c.in-Nor.is refl

pub returns-in-Xnor : goal.returns-in-Xnor
unfolding compute_of
returns-in-Xnor c = arm plain _ _ _ c.without_flags-in-Xnor.ensures c.xnor.ensures c.in-Xnor.is refl

pub returns-in-Andn : goal.returns-in-Andn
unfolding compute_of
returns-in-Andn c = arm plain _ _ _ c.without_flags-in-Andn.ensures c.andn.ensures c.in-Andn.is refl

pub returns-in-Orn : goal.returns-in-Orn
unfolding compute_of
returns-in-Orn c = arm plain _ _ _ c.without_flags-in-Orn.ensures c.orn.ensures c.in-Orn.is refl

pub returns-in-Sh : goal.returns-in-Sh
unfolding compute_of
returns-in-Sh c = arm plain _ _ _ c.without_flags-in-Sh.ensures c.sh.ensures c.in-Sh.is refl

pub returns-in-Sha : goal.returns-in-Sha
unfolding compute_of
returns-in-Sha c = arm carried _ _ _ c.with_flags-in-Sha.ensures c.sha.ensures c.in-Sha.is refl

pub returns-in-Min : goal.returns-in-Min
unfolding compute_of
returns-in-Min c = arm plain _ _ _ c.without_flags-in-Min.ensures c.min.ensures c.in-Min.is refl

pub returns-in-MinU : goal.returns-in-MinU
unfolding compute_of
returns-in-MinU c = arm plain _ _ _ c.without_flags-in-MinU.ensures c.min_u.ensures c.in-MinU.is refl

pub returns-in-Max : goal.returns-in-Max
unfolding compute_of
returns-in-Max c = arm plain _ _ _ c.without_flags-in-Max.ensures c.max.ensures c.in-Max.is refl

pub returns-in-MaxU : goal.returns-in-MaxU
unfolding compute_of
returns-in-MaxU c = arm plain _ _ _ c.without_flags-in-MaxU.ensures c.max_u.ensures c.in-MaxU.is refl

pub returns-in-Abs : goal.returns-in-Abs
unfolding compute_of
returns-in-Abs c = arm flagged _ _ _ c.with_overflow-in-Abs.ensures c.abs.ensures c.in-Abs.is refl

pub returns-in-Absdif : goal.returns-in-Absdif
unfolding compute_of
returns-in-Absdif c = arm flagged _ _ _ c.with_overflow-in-Absdif.ensures c.absdif.ensures c.in-Absdif.is refl

pub returns-in-Eq : goal.returns-in-Eq
unfolding compute_of
returns-in-Eq c = arm plain _ _ _ c.without_flags-in-Eq.ensures c.eq.ensures c.in-Eq.is refl

pub returns-in-Ne : goal.returns-in-Ne
unfolding compute_of
returns-in-Ne c = arm plain _ _ _ c.without_flags-in-Ne.ensures c.ne.ensures c.in-Ne.is refl

pub returns-in-Lt : goal.returns-in-Lt
unfolding compute_of
returns-in-Lt c = arm plain _ _ _ c.without_flags-in-Lt.ensures c.lt.ensures c.in-Lt.is refl

pub returns-in-LtU : goal.returns-in-LtU
unfolding compute_of
returns-in-LtU c = arm plain _ _ _ c.without_flags-in-LtU.ensures c.lt_u.ensures c.in-LtU.is refl

pub returns-in-Ge : goal.returns-in-Ge
unfolding compute_of
returns-in-Ge c = arm plain _ _ _ c.without_flags-in-Ge.ensures c.ge.ensures c.in-Ge.is refl

pub returns-in-GeU : goal.returns-in-GeU
unfolding compute_of
returns-in-GeU c = arm plain _ _ _ c.without_flags-in-GeU.ensures c.ge_u.ensures c.in-GeU.is refl

pub returns-in-Clz : goal.returns-in-Clz
unfolding compute_of
returns-in-Clz c = arm plain _ _ _ c.without_flags-in-Clz.ensures c.clz.ensures c.in-Clz.is refl

pub returns-in-Clo : goal.returns-in-Clo
unfolding compute_of
returns-in-Clo c = arm plain _ _ _ c.without_flags-in-Clo.ensures c.clo.ensures c.in-Clo.is refl

pub returns-in-Cls : goal.returns-in-Cls
unfolding compute_of
returns-in-Cls c = arm plain _ _ _ c.without_flags-in-Cls.ensures c.cls.ensures c.in-Cls.is refl

pub returns-in-Mov : goal.returns-in-Mov
unfolding compute_of
returns-in-Mov c = arm plain _ _ _ c.without_flags-in-Mov.ensures refl c.in-Mov.is refl
