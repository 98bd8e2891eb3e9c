-- What a step leaves in the registers: words, an even PC, the heads of the lists as they were; and from User-0 IO, PRS and SYSCON too.
-- Assumes nothing.
use Prim.Native.Nat.{ℕ, ◌%◌, ◌^◌, ◌<◌}
use native.Mathlib.Omega.{arith}
use mathlib.Core.Path.{◌≡◌, refl, ◌∙◌}
use lib.Seq.{get_or-set_other}
use Rattle.fields.proofs.RangeSets.{level}
use Rattle.registers.specs.Registers.{pcxi, fcx, psw, with_d, with_a, with_pc, with_psw, with_icr}
use Rattle.registers.specs.declared.Registers.{Registers}
use Rattle.events.specs.declared.trap.Trap.{Trap}
use Rattle.acts.specs.Acts.{Effect, Sets, Traps, TrapsAfter}
use Rattle.decisions.specs.Valid.{Valid}
use Rattle.decisions.proofs.Values.{Word}
use Rattle.decisions.proofs.Levels.{Level, User, level_same, level_then, level_next, level_other, level_psw}
use Rattle.decisions.proofs.Setters.{valid_d, valid_a, valid_core, valid_pc}

pub record Heads (r q : Registers) : Type 0 where
  pub fcx_same : fcx q ≡ fcx r
  pub pcxi_same : pcxi q ≡ pcxi r

-- `quiet` says that no head is written directly
pub record Sound (quiet : Type 0) (r q : Registers) : Type 0 where
  pub valid : Valid q
  pub heads : quiet → Heads r q
  -- a task of User-0 stays in its level
  pub level : User r → Level r q

pub same_heads : {r : Registers} → Heads r r
same_heads = record { fcx_same = refl; pcxi_same = refl }

pub sound_start : {quiet : Type 0} {r : Registers} → Valid r → Sound quiet r r
sound_start w = record { valid = w; heads = λ h. same_heads; level = λ u. level_same }

module _ {quiet : Type 0} {r q : Registers} (s : Sound quiet r q) where
  pub sound_d : (n v : ℕ) → Word v → Sound quiet r (with_d n v q)
  sound_d n v h =
      record {
        valid = valid_d s.valid n v h;
        heads = λ k. record { fcx_same = (s.heads k).fcx_same; pcxi_same = (s.heads k).pcxi_same };
        level = λ u. record { same = (s.level u).same; config = (s.level u).config };
      }

  pub sound_a : (n v : ℕ) → Word v → Sound quiet r (with_a n v q)
  sound_a n v h =
      record {
        valid = valid_a s.valid n v h;
        heads = λ k. record { fcx_same = (s.heads k).fcx_same; pcxi_same = (s.heads k).pcxi_same };
        level = λ u. record { same = (s.level u).same; config = (s.level u).config };
      }

  pub sound_psw : (v : ℕ) → Word v → level v ≡ level (psw q) → Sound quiet r (with_psw v q)
  sound_psw v h e =
      record {
        valid = valid_core s.valid 1 v (omega arith) h;
        heads = λ k. record {
          fcx_same = get_or-set_other q.core 1 3 v 0 (λ e. omega arith) ∙ (s.heads k).fcx_same;
          pcxi_same = get_or-set_other q.core 1 2 v 0 (λ e. omega arith) ∙ (s.heads k).pcxi_same;
        };
        level = λ u. level_then {q = q} (s.level u) (level_psw q.d q.a v q s.valid e);
      }

  pub sound_icr : (v : ℕ) → Word v → Sound quiet r (with_icr v q)
  sound_icr v h =
      record {
        valid = valid_core s.valid 5 v (omega arith) h;
        heads = λ k. record {
          fcx_same = get_or-set_other q.core 5 3 v 0 (λ e. omega arith) ∙ (s.heads k).fcx_same;
          pcxi_same = get_or-set_other q.core 5 2 v 0 (λ e. omega arith) ∙ (s.heads k).pcxi_same;
        };
        level = λ u. level_then {q = q} (s.level u) (level_other 5 v q.d q.a q (λ e. omega arith) (λ e. omega arith));
      }

  pub sound_pc : (v : ℕ) → Word v → v % 2 ≡ 0 → Sound quiet r (with_pc v q)
  sound_pc v h p =
      record {
        valid = valid_pc s.valid v h p;
        heads = λ k. record {
          fcx_same = get_or-set_other q.core 0 3 v 0 (λ e. omega arith) ∙ (s.heads k).fcx_same;
          pcxi_same = get_or-set_other q.core 0 2 v 0 (λ e. omega arith) ∙ (s.heads k).pcxi_same;
        };
        level = λ u. level_then {q = q} (s.level u) (level_next q.d q.a v q);
      }

-- a trap's class and TIN are bytes
pub record TrapBytes (t : Trap) : Type 0 where
  pub class : t.class < 2 ^ 8
  pub tin : t.tin < 2 ^ 8

-- an instruction that leaves memory alone
abbrev pub EndsSound : Type 0 → Registers → Effect → Type 0
EndsSound quiet r (Sets q) = Sound quiet r q
EndsSound quiet r (Traps t) = TrapBytes t
EndsSound quiet r (TrapsAfter t) = TrapBytes t
