-- ENABLE to RSTV. MTCR alone can write a head.
-- Assumes nothing.
use Prim.Native.Nat.{ℕ, ◌<◌}
use native.Mathlib.Omega.{arith}
use mathlib.Core.Path.{◌≡◌, sym}
use mathlib.Core.Bool.{Bool, true, false, ◌&&◌}
use lib.Seq.{get_or-set_other}
use lib.Dec.{eqb}
use borrow.Author.Tests.{eqb-false}
use Rattle.words.proofs.Truth.{either_false}
use Rattle.fields.specs.Psw.{psw_v, psw_sv, is_user0, is_supervisor}
use Rattle.fields.specs.Icr.{icr_ccpn}
use Rattle.fields.proofs.RangeSets.{level_reset}
use Rattle.bounds.proofs.Fields.{icr_word, reset_psw}
use Rattle.operations.specs.declared.Operation.TheVariants as operation
use Rattle.operations.specs.declared.System.{System}
use Rattle.operations.specs.declared.System.TheVariants.{Enable, Disable, Mfcr, Mtcr, Trapv, Trapsv, Rstv}
use Rattle.image.specs.declared.fetch.Instruction.{Instruction}
use Rattle.registers.specs.Registers.{registers, D, psw, icr}
use Rattle.registers.specs.declared.Registers.{Registers}
use Rattle.system.specs.CoreRegisters.{named_of, read_by, core_at, written_by, written_of}
use Rattle.system.specs.Instructions.{enable_of, system_of}
use Rattle.system.specs.declared.core_registers.Named.{Named}
use Rattle.std.specs.Prelude.{Option, Some, None}
use Rattle.system.specs.declared.core_registers.Named.TheVariants.{Pc, Register}
use Rattle.decisions.specs.Valid.{Valid}
use Rattle.decisions.specs.Heads.{is_head, writes_head}
use Rattle.decisions.proofs.Setters.{valid_core}
use Rattle.decisions.proofs.Values.{Word, either_has, either_knows}
use Rattle.decisions.proofs.Levels.{User, not_both}
use Rattle.decisions.proofs.Sound.{Sound, EndsSound, sound_start, sound_d, sound_psw, sound_icr}
use Rattle.decisions.proofs.Families.{Decoded, onward, small}

-- PC is not under a register's index
abbrev NotPc : Option Named → Type 0
NotPc (Some Pc) = Unit {0}
NotPc (Some (Register k)) = 0 < k
NotPc None = Unit {0}

named_not : (offset : ℕ) → NotPc (named_of offset)
unfolding named_of
named_not offset =
    either_has NotPc (eqb offset 0xFE00) {x = Some (Register 2)} (omega arith)
    (either_has NotPc (eqb offset 0xFE04) {x = Some (Register 1)} (omega arith)
    (either_has NotPc (eqb offset 0xFE08) {x = Some Pc} tt
    (either_has NotPc (eqb offset 0xFE14) {x = Some (Register 9)} (omega arith)
    (either_has NotPc (eqb offset 0xFE20) {x = Some (Register 7)} (omega arith)
    (either_has NotPc (eqb offset 0xFE24) {x = Some (Register 8)} (omega arith)
    (either_has NotPc (eqb offset 0xFE28) {x = Some (Register 6)} (omega arith)
    (either_has NotPc (eqb offset 0xFE2C) {x = Some (Register 5)} (omega arith)
    (either_has NotPc (eqb offset 0xFE38) {x = Some (Register 3)} (omega arith)
    (either_has NotPc (eqb offset 0xFE3C) {x = Some (Register 4)} {y = None} (omega arith) tt)))))))))

module _ {r : Registers} (w : Valid r) where
  read_word : (n : Option Named) → Word (read_by r.core n)
  read_word (Some Pc) = w.core.each 0
  read_word (Some (Register k)) = w.core.each k
  read_word None = omega arith

  written_sound : (User r → ⊥) → (n : Option Named) → NotPc n → (v : ℕ) → Word v → Sound (is_head n ≡ false) r (registers r.d r.a (written_by r.core v n))
  written_sound x (Some Pc) h v g = sound_start w
  written_sound x (Some (Register k)) h v g =
      record {
        valid = valid_core w k v h g;
        heads = λ q.
            (let n = either_false (eqb k 2) (eqb k 3) q in
            record {
              fcx_same = get_or-set_other r.core k 3 v 0 (λ e. eqb-false k 3 n.1 (sym e));
              pcxi_same = get_or-set_other r.core k 2 v 0 (λ e. eqb-false k 2 n.0 (sym e));
            });
        level = λ u. absurd (x u);
      }
  written_sound x None h v g = sound_start w

  weaken : {p q : Type 0} {s : Registers} → (p → q) → Sound q r s → Sound p r s
  weaken f s = record { valid = s.valid; heads = λ x. s.heads (f x); level = s.level }

  module _ (i : Instruction) (o : Decoded i) where
    enable_sound : (quiet : Type 0) (ie : Bool) → EndsSound quiet r (enable_of ie i.next r)
    unfolding enable_of
    enable_sound quiet ie =
        either_has (EndsSound quiet r) (is_user0 (psw r)) (small (omega arith) (omega arith))
        (onward quiet w {i = i} o (sound_icr (sound_start w) _ (icr_word (icr r) ie (icr_ccpn (icr r)) (w.core.each 5))))

    pub system_sound : (op : System) → EndsSound (writes_head (operation.System op) i r ≡ false) r (system_of op i r)
    unfolding system_of core_at written_of
    system_sound Enable = enable_sound _ true
    system_sound Disable = enable_sound _ false
    system_sound Mfcr = onward _ w {i = i} o (sound_d (sound_start w) i.c _ (read_word (named_of i.imm)))
    system_sound Mtcr =
        let quiet : Type 0 = (is_supervisor (psw r) && is_head (named_of i.imm)) ≡ false in
        either_knows (EndsSound quiet r) (is_supervisor (psw r))
        (λ e. onward quiet w {i = i} o (weaken (λ h. (rw e at h)) (written_sound (not_both r e) (named_of i.imm) (named_not i.imm) (D r i.a) (w.d.each i.a))))
        (λ e. small (omega arith) (omega arith))
    system_sound Trapv = either_has (EndsSound _ r) (psw_v (psw r)) (small (omega arith) (omega arith)) (onward _ w {i = i} o (sound_start w))
    system_sound Trapsv = either_has (EndsSound _ r) (psw_sv (psw r)) (small (omega arith) (omega arith)) (onward _ w {i = i} o (sound_start w))
    system_sound Rstv = onward _ w {i = i} o (sound_psw (sound_start w) _ (reset_psw (psw r)) (level_reset (psw r)))
