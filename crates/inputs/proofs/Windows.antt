-- The tests of rules 1 and 13, and what they test.
-- Assumes nothing.
use Prim.Native.Nat.{ℕ, ◌+◌, ◌/◌, ◌%◌, ◌^◌, ◌≤◌}
use mathlib.Core.Path.{◌≡◌, refl, sym, ◌∙◌}
use mathlib.Core.Bool.{Bool, true, false, ◌||◌, or-true}
use mathlib.Core.Logic.{◌⊎◌, inl, inr, ⊎_elim}
use native.Mathlib.Omega.{arith}
use lib.ListN.{length}
use lib.Dec.{leb, eqb}
use borrow.Author.Tests.{leb-true, eqb-true, le-leb, eq-eqb}
use Rattle.words.proofs.Truth.{never, both_true, either_true}
use Rattle.memory.specs.Memory.{Memory, first_length, second_length}
use Rattle.memory.specs.declared.address.Address.{Address}
use Rattle.inputs.specs.Checks.{window_holds, second_holds, apart_holds, windows_verdict, window_verdict}
use Rattle.inputs.specs.Rules.{WindowRight, WindowsRight, WindowsApart, WindowsHold}
use Rattle.inputs.specs.declared.verdict.Refusal.TheVariants.{Window, Overlap}
use Rattle.std.specs.Prelude.{Err, Ok, Result, ⊤}
use Rattle.inputs.specs.declared.verdict.Refusal.{Refusal}

module _ (base : Address) (len : ℕ) where
  pub window_right : window_holds base len ≡ true → WindowRight base len
  unfolding window_holds
  window_right h =
      let p6 = both_true _ _ h in
      let p5 = both_true _ _ p6.0 in
      let p4 = both_true _ _ p5.0 in
      let p3 = both_true _ _ p4.0 in
      let p2 = both_true _ _ p3.0 in
      record {
        aligned = eqb-true (base.0 % 64) 0 p2.0;
        areas = eqb-true (len % 64) 0 p2.1;
        some = leb-true 1 len p3.1;
        most = leb-true len 0x1_0000 p4.1;
        below_E = leb-true (base.0 / 2 ^ 28) 13 p5.1;
        one_segment = leb-true (base.0 % 2 ^ 28 + len) (2 ^ 28) p6.1;
      }

  right_window : WindowRight base len → window_holds base len ≡ true
  unfolding window_holds
  right_window r =
      rw (
        eq-eqb (base.0 % 64) 0 r.aligned,
        eq-eqb (len % 64) 0 r.areas,
        le-leb 1 len r.some,
        le-leb len 0x1_0000 r.most,
        le-leb (base.0 / 2 ^ 28) 13 r.below_E,
        le-leb (base.0 % 2 ^ 28 + len) (2 ^ 28) r.one_segment,
      )

  -- the second window
  second_right : second_holds base len ≡ true → (len ≡ 0) ⊎ WindowRight base len
  unfolding second_holds
  second_right h = ⊎_elim (λ e. inl (eqb-true len 0 e)) (λ e. inr (window_right e)) (either_true (eqb len 0) (window_holds base len) h)

  right_second : (len ≡ 0) ⊎ WindowRight base len → second_holds base len ≡ true
  unfolding second_holds
  right_second (inl e) = rw (eq-eqb len 0 e)
  right_second (inr r) = rw (right_window r, or-true)

  pub second_most : second_holds base len ≡ true → len ≤ 0x1_0000
  second_most h = ⊎_elim (λ e. omega arith) (λ r. r.most) (second_right h)

-- ---- both, and rule 13
module _ (base : Address) (len : ℕ) (base2 : Address) (len2 : ℕ) where
  apart_right : apart_holds base len base2 len2 ≡ true → WindowsApart base len base2 len2
  unfolding apart_holds
  apart_right h =
      ⊎_elim
      (λ p.
      ⊎_elim
      (λ e. inl (eqb-true len2 0 e))
      (λ e. inr (inl (leb-true (base.0 + len) base2.0 e)))
      (either_true (eqb len2 0) (leb (base.0 + len) base2.0) p))
      (λ e. inr (inr (leb-true (base2.0 + len2) base.0 e)))
      (either_true (eqb len2 0 || leb (base.0 + len) base2.0) (leb (base2.0 + len2) base.0) h)

  right_apart : WindowsApart base len base2 len2 → apart_holds base len base2 len2 ≡ true
  unfolding apart_holds
  right_apart (inl e) = rw (eq-eqb len2 0 e)
  right_apart (inr (inl x)) = rw (le-leb (base.0 + len) base2.0 x, or-true)
  right_apart (inr (inr x)) = rw (le-leb (base2.0 + len2) base.0 x, or-true)

  -- the verdict on the windows
  pub data WindowsCome (v : Result ⊤ Refusal) : Type 0 where
    wrong : v ≡ Err Window → (WindowsRight base len base2 len2 → ⊥) → WindowsCome v
    overlap : v ≡ Err Overlap → WindowsRight base len base2 len2 → (WindowsApart base len base2 len2 → ⊥) → WindowsCome v
    hold : v ≡ Ok tt → WindowsRight base len base2 len2 → WindowsApart base len base2 len2 → WindowsCome v

  windows_come : WindowsCome (windows_verdict base len base2 len2)
  unfolding windows_verdict
  windows_come = by (window_holds base len) refl (second_holds base2 len2) refl (apart_holds base len base2 len2) refl
    where
      right : window_holds base len ≡ true → second_holds base2 len2 ≡ true → WindowsRight base len base2 len2
      right e f = record { first = window_right base len e; second = second_right base2 len2 f }

      by : (p : Bool) → window_holds base len ≡ p → (q : Bool) → second_holds base2 len2 ≡ q → (a : Bool) → apart_holds base len base2 len2 ≡ a → WindowsCome (windows_verdict base len base2 len2)
      by false e q f a g = wrong (rw e) (λ r. never (sym (right_window base len r.first) ∙ e))
      by true e false f a g = wrong (rw (e, f)) (λ r. never (sym (right_second base2 len2 r.second) ∙ f))
      by true e true f false g = overlap (rw (e, f, g)) (right e f) (λ x. never (sym (right_apart x) ∙ g))
      by true e true f true g = hold (rw (e, f, g)) (right e f) (apart_right g)

  pub windows_wrong : (WindowsRight base len base2 len2 → ⊥) → windows_verdict base len base2 len2 ≡ Err Window
  windows_wrong d = by windows_come
    where
      by : WindowsCome (windows_verdict base len base2 len2) → windows_verdict base len base2 len2 ≡ Err Window
      by (wrong e x) = e
      by (overlap e r x) = absurd (d r)
      by (hold e r x) = absurd (d r)

  pub windows_overlap : WindowsRight base len base2 len2 → (WindowsApart base len base2 len2 → ⊥) → windows_verdict base len base2 len2 ≡ Err Overlap
  windows_overlap r d = by windows_come
    where
      by : WindowsCome (windows_verdict base len base2 len2) → windows_verdict base len base2 len2 ≡ Err Overlap
      by (wrong e x) = absurd (x r)
      by (overlap e q x) = e
      by (hold e q x) = absurd (d x)

  pub windows_hold : WindowsRight base len base2 len2 → WindowsApart base len base2 len2 → windows_verdict base len base2 len2 ≡ Ok tt
  windows_hold r a = by windows_come
    where
      by : WindowsCome (windows_verdict base len base2 len2) → windows_verdict base len base2 len2 ≡ Ok tt
      by (wrong e x) = absurd (x r)
      by (overlap e q x) = absurd (x a)
      by (hold e q x) = e

-- ---- the windows of a memory
module _ (m : Memory) where
  abbrev pub ComeOf : Type 0
  ComeOf =
      let w = m.windows in
      let len = length m.bytes in
      WindowsCome w.first (first_length w len) w.second (second_length w len) (window_verdict m)

  pub come_of : ComeOf
  come_of = windows_come _ _ _ _

  -- 2,048 areas at most
  pub windows_small : WindowsHold m → length m.bytes ≤ 0x2_0000
  windows_small w = let a = w.right.first.most in ⊎_elim (λ e. omega arith) (λ r. let b = r.most in omega arith) w.right.second
