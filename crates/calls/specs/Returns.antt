-- RET, RFE and RSLCX (002, 4.3, 8.8.1, 8.9.5 and chapter 9).
use Rattle.std.specs.Prelude.{ℕ, Bool, not, cond, eqb, Err, Ok, Result, ⊤}
use Rattle.fields.specs.Pcxi.{pcxi_pcpn, pcxi_pie, pcxi_ul}
use Rattle.fields.specs.Depth.{underflows_down, nested}
use Rattle.fields.specs.Icr.{icr_of}
use Rattle.fields.specs.Link.{link_of}
use Rattle.registers.specs.Registers.{A, psw, pcxi, icr, with_pc, with_icr, new_pc}
use Rattle.registers.specs.declared.Registers.{Registers}
use Rattle.events.specs.Traps.{CDU, CSU, CTYP, NEST}
use Rattle.contexts.specs.declared.context.Half.{Half}
use Rattle.contexts.specs.declared.context.Half.TheVariants.{Upper, Lower}
use Rattle.acts.specs.Acts as acts
use Rattle.acts.specs.Acts.{Act, Ends, Return}
use Rattle.events.specs.declared.trap.Trap.{Trap}

-- UL is that of the half
abbrev pub is_of : Half → ℕ → Bool
is_of Upper word = pcxi_ul word
is_of Lower word = not (pcxi_ul word)

-- 3/5 link 0 on a return, 3/6 wrong UL
unfoldable pub previous_of : Half → ℕ → Result ⊤ Trap
previous_of half word = cond (eqb (link_of word).0 0) (Err CSU) (cond (is_of half word) (Ok tt) (Err CTYP))

abbrev pub if_there : Act → Result ⊤ Trap → Act
if_there act (Err t) = Ends (acts.Traps t)
if_there act (Ok _) = act

-- RET: PC = A11, upper return, all of PSW. 3/3 where CDC would underflow. ICR stays
unfoldable pub ret_of : Registers → Act
ret_of r =
    cond (underflows_down (psw r)) (Ends (acts.Traps CDU))
    (if_there (Return Upper (with_pc (new_pc (A r 11)))) (previous_of Upper (pcxi r)))

-- RFE also sets IE, CCPN from PIE, PCPN as they were before the load
abbrev pub rfe_then : Registers → Registers → Registers
rfe_then r q = with_pc (new_pc (A r 11)) (with_icr (icr_of (icr r) (pcxi_pie (pcxi r)) (pcxi_pcpn (pcxi r))) q)

-- 3/7 with CDE 1 and count above 0
unfoldable pub rfe_of : Registers → Act
rfe_of r =
    if_there (cond (nested (psw r)) (Ends (acts.Traps NEST)) (Return Upper (rfe_then r))) (previous_of Upper (pcxi r))

-- RSLCX: lower return, the saved PC passed over
unfoldable pub rslcx_of : ℕ → Registers → Act
rslcx_of next r = if_there (Return Lower (with_pc next)) (previous_of Lower (pcxi r))
