-- What a check answers and which range is named, case by case.
-- Assumes nothing.
use Prim.Native.Nat.{ℕ, ◌<◌}
use native.Mathlib.Omega.{arith}
use mathlib.Core.Path.{◌≡◌, refl}
use mathlib.Core.Bool.{Bool, true, false, cond}
use mathlib.Core.List.{List}
use lib.ListN.{get_or}
use borrow.Author.Tests.{lt-leb}
use Rattle.fields.specs.Psw.{psw_prs, is_user0}
use Rattle.fields.specs.Syscon.{syscon_proten}
use Rattle.memory.specs.declared.address.Address.{Address}
use Rattle.events.specs.Traps.{MPP}
use Rattle.events.specs.declared.trap.Trap.{Trap}
use Rattle.protection.specs.Range.{permitted, lowest_of, PermittedBy}
use Rattle.protection.specs.Access.{denied_of, peripheral, check_of, permit_of}
use Rattle.protection.specs.declared.range.Range.{Range}
use Rattle.protection.specs.declared.range.Right.{Right}
use Rattle.protection.proofs.Searches.{permitted_by}
use Rattle.std.specs.Prelude.{Err, None, Ok, Result, ⊤}

fails_passes : {t : Trap} → ◌≡◌ {A = Result ⊤ Trap} (Err t) (Ok tt) → ⊥
fails_passes e = let z : ◌≡◌ {A = ℕ} 0 1 = cc in omega arith

module _ (core : List ℕ) (rs : List Range) (right : Right) (address : Address) where
  -- the range named
  pub unnamed_above : peripheral address ≡ true → None ≡ permit_of core rs right address
  unfolding permit_of
  unnamed_above h = rw h

  pub unnamed_off : peripheral address ≡ false → syscon_proten (get_or core 9 0) ≡ false → None ≡ permit_of core rs right address
  unfolding permit_of
  unnamed_off h p = rw (h, p)

  pub named : peripheral address ≡ false → syscon_proten (get_or core 9 0) ≡ true → lowest_of rs (psw_prs (get_or core 1 0)) right address ≡ permit_of core rs right address
  unfolding permit_of
  named h p = rw (h, p)

  -- the check
  pub for_peripherals : peripheral address ≡ true → is_user0 (get_or core 1 0) ≡ true → Err MPP ≡ check_of core rs right address
  unfolding check_of
  for_peripherals h u = rw (h, u)

  pub to_peripherals : peripheral address ≡ true → is_user0 (get_or core 1 0) ≡ false → (Ok tt) ≡ check_of core rs right address
  unfolding check_of
  to_peripherals h u = rw (h, u)

  pub unasked : peripheral address ≡ false → syscon_proten (get_or core 9 0) ≡ false → (Ok tt) ≡ check_of core rs right address
  unfolding check_of
  unasked h p = rw (h, p)

  pub denied : peripheral address ≡ false → syscon_proten (get_or core 9 0) ≡ true → permitted rs (psw_prs (get_or core 1 0)) right address ≡ false → Err (denied_of right) ≡ check_of core rs right address
  unfolding check_of
  denied h p d = rw (h, p, d)

  pub allowed : (k : ℕ) → peripheral address ≡ false → syscon_proten (get_or core 9 0) ≡ true → PermittedBy rs (psw_prs (get_or core 1 0)) right address k → (Ok tt) ≡ check_of core rs right address
  unfolding check_of
  allowed k h p b = rw (h, p, permitted_by rs right address _ k b)

  -- below the peripherals a check goes by PROTEN and PRS alone
  pub same_check : (other : List ℕ) → address.0 < 0xE000_0000 → syscon_proten (get_or other 9 0) ≡ syscon_proten (get_or core 9 0) → psw_prs (get_or other 1 0) ≡ psw_prs (get_or core 1 0)
      → check_of other rs right address ≡ check_of core rs right address
  unfolding check_of
  same_check other h p q = rw (lt-leb _ _ h, p, q)

  -- what passes for User-0 is no peripheral, so with protection on a range permits it
  pub passes_permitted : is_user0 (get_or core 1 0) ≡ true → syscon_proten (get_or core 9 0) ≡ true → check_of core rs right address ≡ (Ok tt) → permitted rs (psw_prs (get_or core 1 0)) right address ≡ true
  unfolding check_of
  passes_permitted u p e = by (peripheral address) (permitted rs (psw_prs (get_or core 1 0)) right address) (rw (u, p) at e)
    where
      by : (b g : Bool) → ◌≡◌ {A = Result ⊤ Trap} (cond b (Err MPP) (cond g (Ok tt) (Err (denied_of right)))) (Ok tt) → g ≡ true
      by b true e = refl
      by true false e = absurd (fails_passes e)
      by false false e = absurd (fails_passes e)
