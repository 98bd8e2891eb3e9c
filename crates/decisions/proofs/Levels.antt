-- IO and PRS of PSW, and SYSCON: what leaves them as they are.
-- Assumes nothing.
use Prim.Native.Nat.{ℕ}
use native.Mathlib.Omega.{arith}
use mathlib.Core.Path.{◌≡◌, refl, sym, ap, ◌∙◌}
use mathlib.Core.Bool.{true, false}
use mathlib.Core.List.{List}
use lib.ListN.{set}
use lib.Seq.{get_or-set_other, get_or-set_same}
use borrow.Author.Tests.{eqb-true, lt-leb}
use Rattle.words.proofs.Truth.{never}
use Rattle.fields.specs.Psw.{psw_io, is_user0, is_supervisor}
use Rattle.fields.proofs.RangeSets.{level}
use Rattle.registers.specs.Registers.{registers, psw, syscon}
use Rattle.registers.specs.declared.Registers.{Registers}
use Rattle.events.specs.declared.event.Event.{Event}
use Rattle.events.specs.declared.event.Event.TheVariants as event
use Rattle.decisions.specs.Valid.{Valid}

-- ---- the registers before and after
pub record Level (r q : Registers) : Type 0 where
  pub same : level (psw q) ≡ level (psw r)
  pub config : syscon q ≡ syscon r

pub level_same : {r : Registers} → Level r r
level_same = record { same = refl; config = refl }

pub level_then : {r q s : Registers} → Level r q → Level q s → Level r s
level_then x y = record { same = y.same ∙ x.same; config = y.config ∙ x.config }

pub level_other : (n v : ℕ) (d a : List ℕ) (r : Registers) → (1 ≡ n → ⊥) → (9 ≡ n → ⊥) → Level r (registers d a (set r.core n v))
level_other n v d a r x y =
    record { same = ap level (get_or-set_other r.core n 1 v 0 x); config = get_or-set_other r.core n 9 v 0 y }

pub level_next : (d a : List ℕ) (v : ℕ) (r : Registers) → Level r (registers d a (set r.core 0 v))
level_next d a v r = level_other 0 v d a r (λ e. omega arith) (λ e. omega arith)

pub level_psw : (d a : List ℕ) (p : ℕ) (r : Registers) → Valid r → level p ≡ level (psw r) → Level r (registers d a (set r.core 1 p))
level_psw d a p r w e =
    record {
      same = ap level (get_or-set_same r.core 1 p 0 (omega (arith, w.core.size))) ∙ e;
      config = get_or-set_other r.core 1 9 p 0 (λ z. omega arith);
    }

pub level_flags : (d a : List ℕ) (v p : ℕ) (r : Registers) → Valid r → level p ≡ level (psw r) → Level r (registers d a (set (set r.core 1 p) 0 v))
level_flags d a v p r w e = level_then {q = registers d a (set r.core 1 p)} (level_psw d a p r w e) (level_next d a v (registers d a (set r.core 1 p)))

-- User-0 is not Supervisor
abbrev pub User : Registers → Type 0
User r = is_user0 (psw r) ≡ true

pub no_supervisor : (r : Registers) → User r → is_supervisor (psw r) ≡ false
no_supervisor r user = lt-leb 2 (psw_io (psw r)) (omega (arith, eqb-true (psw_io (psw r)) 0 user))

pub not_both : (r : Registers) → is_supervisor (psw r) ≡ true → User r → ⊥
not_both r e user = never (sym e ∙ no_supervisor r user)

-- ---- after a save
abbrev pub ThenLevel : (Registers → Registers) → Type 0
ThenLevel then = (q : Registers) → Valid q → Level q (then q)

-- an entry sets PSW
abbrev pub EventLevel : Event → (Registers → Registers) → Type 0
EventLevel event.Instruction then = ThenLevel then
EventLevel (event.Interrupt source) then = Unit {0}
EventLevel (event.Trap t) then = Unit {0}
