-- What the integer operations answer: the word for D[c], and PSW. In document 01's order, from 1.
use Rattle.std.specs.Prelude.{ℕ}
use Rattle.words.specs.declared.result.Flagged.{Flagged}
use Rattle.words.specs.declared.result.Carried.{Carried}
use Rattle.fields.specs.Psw.{psw_c, flagged_of, overflowed_of}
use Rattle.arithmetic.specs.Arithmetic.{add_of, sub_of, rsub_of, addx_of, addc_of, subx_of, subc_of, adds_of, addsu_of, subs_of, subsu_of, mul_of, abs_of, absdif_of}
use Rattle.bitwise.specs.Logical.{and_of, or_of, xor_of, nand_of, nor_of, xnor_of, andn_of, orn_of}
use Rattle.bitwise.specs.Shift.{sh_of, sha_of}
use Rattle.bitwise.specs.Leading.{clz_of, clo_of, cls_of}
use Rattle.compare.specs.Compare.{min_of, minu_of, max_of, maxu_of, eq_of, ne_of, lt_of, ltu_of, ge_of, geu_of}
use Rattle.integer.specs.declared.Computed.{Computed}
use Rattle.integer.specs.declared.Integer.{Integer}
use Rattle.integer.specs.declared.Integer.TheVariants.{Add, Sub, Rsub, Addx, Addc, Subx, Subc, Adds, AddsU, Subs, SubsU, Mul, And, Or, Xor, Nand, Nor, Xnor, Andn, Orn, Sh, Sha, Min, MinU, Max, MaxU, Abs, Absdif, Eq, Ne, Lt, LtU, Ge, GeU, Clz, Clo, Cls, Mov}

-- a result that sets V, SV, AV and SAV
abbrev pub flagged : Flagged → ℕ → Computed
flagged f psw = record { word = f.word; psw = overflowed_of psw f.v f.av }

-- a result that sets C too
abbrev pub carried : Carried → ℕ → Computed
carried f psw = record { word = f.word; psw = flagged_of psw f.c f.v f.av }

-- a result that leaves PSW as it was
abbrev pub plain : ℕ → ℕ → Computed
plain w psw = record { word = w; psw = psw }

-- a is D[a], b the second operand
unfoldable pub compute_of : Integer → ℕ → ℕ → ℕ → Computed
compute_of Add a b psw = flagged (add_of a b) psw
compute_of Sub a b psw = flagged (sub_of a b) psw
compute_of Rsub a b psw = flagged (rsub_of a b) psw
compute_of Addx a b psw = carried (addx_of a b) psw
compute_of Addc a b psw = carried (addc_of a b (psw_c psw)) psw
compute_of Subx a b psw = carried (subx_of a b) psw
compute_of Subc a b psw = carried (subc_of a b (psw_c psw)) psw
compute_of Adds a b psw = flagged (adds_of a b) psw
compute_of AddsU a b psw = flagged (addsu_of a b) psw
compute_of Subs a b psw = flagged (subs_of a b) psw
compute_of SubsU a b psw = flagged (subsu_of a b) psw
compute_of Mul a b psw = flagged (mul_of a b) psw
compute_of And a b psw = plain (and_of a b) psw
compute_of Or a b psw = plain (or_of a b) psw
compute_of Xor a b psw = plain (xor_of a b) psw
compute_of Nand a b psw = plain (nand_of a b) psw
compute_of Nor a b psw = plain (nor_of a b) psw
compute_of Xnor a b psw = plain (xnor_of a b) psw
compute_of Andn a b psw = plain (andn_of a b) psw
compute_of Orn a b psw = plain (orn_of a b) psw
compute_of Sh a b psw = plain (sh_of a b) psw
compute_of Sha a b psw = carried (sha_of a b) psw
compute_of Min a b psw = plain (min_of a b) psw
compute_of MinU a b psw = plain (minu_of a b) psw
compute_of Max a b psw = plain (max_of a b) psw
compute_of MaxU a b psw = plain (maxu_of a b) psw
compute_of Abs a b psw = flagged (abs_of a) psw
compute_of Absdif a b psw = flagged (absdif_of a b) psw
compute_of Eq a b psw = plain (eq_of a b) psw
compute_of Ne a b psw = plain (ne_of a b) psw
compute_of Lt a b psw = plain (lt_of a b) psw
compute_of LtU a b psw = plain (ltu_of a b) psw
compute_of Ge a b psw = plain (ge_of a b) psw
compute_of GeU a b psw = plain (geu_of a b) psw
compute_of Clz a b psw = plain (clz_of a) psw
compute_of Clo a b psw = plain (clo_of a) psw
compute_of Cls a b psw = plain (cls_of a) psw
compute_of Mov a b psw = plain b psw
