-- ENABLE to RSTV (002, 8.9 and chapter 9).
use Rattle.std.specs.Prelude.{ℕ, Bool, true, false, cond}
use Rattle.fields.specs.Psw.{psw_v, psw_sv, is_user0, is_supervisor, reset_of}
use Rattle.fields.specs.Icr.{icr_ccpn, icr_of}
use Rattle.operations.specs.declared.System.{System}
use Rattle.operations.specs.declared.System.TheVariants.{Enable, Disable, Mfcr, Mtcr, Trapv, Trapsv, Rstv}
use Rattle.image.specs.declared.fetch.Instruction.{Instruction}
use Rattle.registers.specs.Registers.{registers, D, psw, icr, with_d, with_pc, with_psw, with_icr}
use Rattle.registers.specs.declared.Registers.{Registers}
use Rattle.events.specs.Traps.{PRIV, OVF, SOVF}
use Rattle.acts.specs.Acts.{Effect, Sets, Traps, TrapsAfter}
use Rattle.system.specs.CoreRegisters.{core_at, written_of}

-- IE is set or cleared, not from User-0
unfoldable pub enable_of : Bool → ℕ → Registers → Effect
enable_of ie next r =
    cond (is_user0 (psw r)) (Traps PRIV) (Sets (with_pc next (with_icr (icr_of (icr r) ie (icr_ccpn (icr r))) r)))

unfoldable pub system_of : System → Instruction → Registers → Effect
system_of Enable i r = enable_of true i.next r
system_of Disable i r = enable_of false i.next r
-- D[c] = the core register at the immediate's offset
system_of Mfcr i r = Sets (with_pc i.next (with_d i.c (core_at r.core i.imm) r))
-- that core register = D[a], from Supervisor
system_of Mtcr i r =
    cond (is_supervisor (psw r)) (Sets (with_pc i.next (registers r.d r.a (written_of r.core i.imm (D r i.a)))))
    (Traps PRIV)
-- a trap if V is 1
system_of Trapv i r = cond (psw_v (psw r)) (TrapsAfter OVF) (Sets (with_pc i.next r))
-- a trap if SV is 1
system_of Trapsv i r = cond (psw_sv (psw r)) (TrapsAfter SOVF) (Sets (with_pc i.next r))
-- V, SV, AV and SAV are cleared
system_of Rstv i r = Sets (with_pc i.next (with_psw (reset_of (psw r)) r))
