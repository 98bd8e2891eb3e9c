-- What leaves ICR, SYSCON and PSW.PRS as they are, and what an instruction that leaves them answers.
-- Assumes nothing.
use Prim.Native.Nat.{ℕ, ◌≤◌}
use native.Mathlib.Nat.{lt_of_not-le}
use native.Mathlib.Decide.{dec_le}
use native.Mathlib.Omega.{arith}
use mathlib.Core.Path.{◌≡◌, refl, ap, sym, ◌∙◌}
use mathlib.Core.Bool.{Bool, true, false, ◌&&◌}
use mathlib.Core.List.{List}
use lib.Dec.{eqb}
use lib.ListN.{length, get_or, set, length-set, get_or-eq_default}
use lib.Seq.{get_or-set_same, get_or-set_other}
use borrow.Author.Tests.{eq-eqb, eqb-true}
use Rattle.words.proofs.Truth.{both_true}
use Rattle.fields.specs.Psw.{psw_prs}
use Rattle.memory.specs.Memory.{Memory}
use Rattle.registers.specs.Registers.{registers, psw, with_core, with_pc, with_psw}
use Rattle.registers.specs.declared.Registers.{Registers}
use Rattle.acts.specs.Acts.{control_of, is_same, done_by, done_of, ended, did, doing}
use Rattle.acts.specs.declared.Control.{Control}
use Rattle.acts.specs.declared.How.TheVariants as how

-- the registers before and after
pub record Steady (r q : Registers) : Type 0 where
  pub same : control_of q.core ≡ control_of r.core

pub steady_then : {r q s : Registers} → Steady r q → Steady q s → Steady r s
steady_then x y = record { same = y.same ∙ x.same }

-- ---- the test
-- the fields' comparison is the test
pub told_same : (x y : Control) (t : Bool) → t ≡ (eqb x.icr y.icr && (eqb x.syscon y.syscon && eqb x.prs y.prs)) → done_by t ≡ done_by (is_same x y)
unfolding is_same
told_same x y t e = ap done_by e

pub all_same : (x y : Control) → x.icr ≡ y.icr → x.syscon ≡ y.syscon → x.prs ≡ y.prs → is_same x y ≡ true
unfolding is_same
all_same x y e f g = rw (eq-eqb _ _ e, eq-eqb _ _ f, eq-eqb _ _ g) refl

pub same_control : (x y : Control) → is_same x y ≡ true → y ≡ x
unfolding is_same
same_control x y e =
    let f = both_true (eqb x.icr y.icr) _ e in
    let g = both_true (eqb x.syscon y.syscon) _ f.1 in
    rw (eqb-true x.icr y.icr f.0, eqb-true x.syscon y.syscon g.0, eqb-true x.prs y.prs g.1) refl

-- an instruction that leaves them is done, and no more
module _ {r q : Registers} (s : Steady r q) where
  done_is : how.Done ≡ done_of r q
  unfolding done_of
  done_is = rw (s.same, all_same (control_of r.core) (control_of r.core) refl refl refl) refl

  pub done_ended : ended how.Done q ≡ ended (done_of r q) q
  done_ended = ap (λ h. ended h q) done_is

  pub done_did : (m : Memory) → did how.Done q m ≡ doing r q m
  done_did m = ap (λ h. did h q m) done_is

-- ---- one core register written: none of those, or PSW with the same PRS
pub steady_other : (n v : ℕ) (r : Registers) → (1 ≡ n → ⊥) → (5 ≡ n → ⊥) → (9 ≡ n → ⊥) → Steady r (with_core n v r)
steady_other n v r a b c = record { same = rw (get_or-set_other r.core n 5 v 0 b, get_or-set_other r.core n 9 v 0 c, get_or-set_other r.core n 1 v 0 a) refl }

pub steady_pc : (v : ℕ) (r : Registers) → Steady r (with_pc v r)
steady_pc v r = steady_other 0 v r (λ e. omega arith) (λ e. omega arith) (λ e. omega arith)

-- past a list's end nothing is written
written : (xs : List ℕ) (i p : ℕ) → psw_prs p ≡ psw_prs (get_or xs i 0) → psw_prs (get_or (set xs i p) i 0) ≡ psw_prs (get_or xs i 0)
written xs i p e = by (dec_le (length xs) i)
  where
    by : Dec (length xs ≤ i) → psw_prs (get_or (set xs i p) i 0) ≡ psw_prs (get_or xs i 0)
    by (yes h) =
        let l : length (set xs i p) ≤ i = omega (arith, length-set xs i p) in
        ap psw_prs (get_or-eq_default (set xs i p) 0 l ∙ sym (get_or-eq_default xs 0 h))
    by (no h) = ap psw_prs (get_or-set_same xs i p 0 (lt_of_not-le h)) ∙ e

pub steady_psw : (p : ℕ) (r : Registers) → psw_prs p ≡ psw_prs (psw r) → Steady r (with_psw p r)
steady_psw p r e =
    record { same = rw (get_or-set_other r.core 1 5 p 0 (λ z. omega arith), get_or-set_other r.core 1 9 p 0 (λ z. omega arith), written r.core 1 p e) refl }

-- the next PC after a write of data or address registers, and of PSW
pub steady_next : (d a : List ℕ) (v : ℕ) (r : Registers) → Steady r (registers d a (set r.core 0 v))
steady_next d a v r = record { same = (steady_pc v r).same }

pub steady_flags : (d a : List ℕ) (v p : ℕ) (r : Registers) → psw_prs p ≡ psw_prs (psw r) → Steady r (registers d a (set (set r.core 1 p) 0 v))
steady_flags d a v p r e = steady_then (steady_psw p r e) (steady_next d a v (with_psw p r))
