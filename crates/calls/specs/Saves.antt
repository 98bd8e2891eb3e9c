-- CALL and CALLI, SVLCX and BISR (002, 4.3, 8.6.1, 8.8.1 and chapter 9).
use Rattle.std.specs.Prelude.{ℕ, Bool, true, false, cond, not, ◌&&◌}
use Rattle.fields.specs.Psw.{is_supervisor}
use Rattle.fields.specs.Depth.{overflows_up, called_of}
use Rattle.fields.specs.Icr.{icr_of}
use Rattle.registers.specs.Registers.{psw, icr, with_a, with_pc, with_psw, with_icr, new_pc}
use Rattle.registers.specs.declared.Registers.{Registers}
use Rattle.events.specs.Traps.{CDO, PRIV}
use Rattle.contexts.specs.declared.context.Half.TheVariants.{Upper, Lower}
use Rattle.acts.specs.Acts.{Act, Ends, Traps, Save}

-- CDC goes up if CDE is 1, CDE becomes 1, A11 = PC + 4, and PC is the call's target
unfoldable pub called_then : ℕ → ℕ → Registers → Registers
called_then to next r = with_pc (new_pc to) (with_psw (called_of (psw r)) (with_a 11 next r))

-- a call is an upper save; the save finds PSW as it was. 3/2 where CDC would overflow. The saved PC is of no use in an upper save
unfoldable pub call_of : ℕ → ℕ → Registers → Act
call_of to next r = cond (overflows_up (psw r)) (Ends (Traps CDO)) (Save Upper 0 (called_then to next))

-- SVLCX: a lower save with the next instruction's address as saved PC
unfoldable pub svlcx_of : ℕ → Act
svlcx_of next = Save Lower next (with_pc next)

-- BISR then sets IE = 1, CCPN = the immediate's low 8 bits
unfoldable pub bisr_then : ℕ → ℕ → Registers → Registers
bisr_then imm next r = with_pc next (with_icr (icr_of (icr r) true imm) r)

-- BISR: 1/1 unless Supervisor; the same save as SVLCX
unfoldable pub bisr_of : ℕ → ℕ → Registers → Act
bisr_of imm next r = cond (is_supervisor (psw r)) (Save Lower next (bisr_then imm next)) (Ends (Traps PRIV))

-- the two by whether it is BISR
unfoldable pub lower_save_of : Bool → ℕ → ℕ → Registers → Act
lower_save_of true imm next r = bisr_of imm next r
lower_save_of false imm next r = svlcx_of next

abbrev pub lower_then : Bool → ℕ → ℕ → Registers → Registers
lower_then true imm next r = bisr_then imm next r
lower_then false imm next r = with_pc next r

-- BISR needs Supervisor
unfoldable pub forbids : Bool → ℕ → Bool
forbids bisr psw = bisr && not (is_supervisor psw)
