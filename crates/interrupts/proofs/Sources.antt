-- The best source: what it is of the first n, and so of all sixteen.
-- Assumes nothing.
use Prim.Native.Nat.{ℕ, zero, suc, ◌+◌, ◌≤◌, ◌<◌, ◌^◌}
use native.Mathlib.Omega.{arith}
use native.Mathlib.Numerals.{add-one}
use native.Mathlib.Decide.{ℕ_discrete}
use mathlib.Core.Path.{◌≡◌, refl, sym, ap, subst, ◌∙◌}
use mathlib.Core.Bool.{Bool, true, false, cond, ◌&&◌}
use mathlib.Core.List.{List}
use mathlib.Core.Logic.{◌⊎◌, inl, inr}
use lib.ListN.{get_or}
use lib.Dec.{leb}
use borrow.Author.Tests.{leb-true, leb-false}
use Rattle.words.specs.Exactly.{Exactly}
use Rattle.words.proofs.Truth.{never}
use Rattle.words.proofs.Integers.{lt_or_ge}
use Rattle.words.proofs.Answers.{exactly}
use Rattle.fields.specs.Request.{src_srpn, requests}
use Rattle.interrupts.specs.Sources.{best, better_of, best_below, best_of, Pending, PendingOrNone, Highest}
use Rattle.interrupts.specs.declared.Best.{Best}

-- what is so of the sources before and of source n is so of the first n + 1
by_source : (n : ℕ) (xs : List ℕ) (P : ℕ → Type 0) → ((i : ℕ) → Pending n xs i → P i) → (requests (get_or xs n 0) ≡ true → P n) → (i : ℕ) → Pending (suc n) xs i → P i
by_source n xs P before here i p = by (ℕ_discrete i n)
  where
    by : Dec (i ≡ n) → P i
    by (yes e) = subst P (sym e) (here (subst (λ (x : ℕ). requests (get_or xs x 0) ≡ true) e p.1))
    by (no d) = before i (omega (arith, p.0), p.1)

module _ (n : ℕ) (xs : List ℕ) (b : Best) (h : Highest n xs b) where
  src : ℕ
  src = get_or xs n 0

  taken : requests src ≡ true → b.level ≤ src_srpn src → Highest (suc n) xs (best n (src_srpn src))
  unfolding src
  taken q l = record {
    one = inl ((omega arith, q), refl);
    above = by_source n xs (λ i. src_srpn (get_or xs i 0) ≤ src_srpn (get_or xs n 0)) (λ i p. let a = h.above i p in omega arith) (λ _. omega arith);
    after = λ i p k. absurd (omega (arith, p.0));
  }

  kept : (requests src ≡ true → src_srpn src < b.level) → Highest (suc n) xs b
  unfolding src
  kept q = record {
    one = still h.one;
    above = by_source n xs (λ i. src_srpn (get_or xs i 0) ≤ b.level) h.above (λ r. let l = q r in omega arith);
    after = by_source n xs (λ i. b.source < i → src_srpn (get_or xs i 0) < b.level) h.after (λ r _. q r);
  }
    where
      still : PendingOrNone n xs b → PendingOrNone (suc n) xs b
      still (inl o) = inl ((omega (arith, o.0.0), o.0.1), o.1)
      still (inr o) = inr (by_source n xs (λ _. ⊥) o.0 (λ r. let l = q r in let z = ap (λ (x : Best). x.level) o.1 in absurd (omega arith)), o.1)

  next : Highest (suc n) xs (better_of b n src)
  unfolding better_of
  next = by (requests src) (leb b.level (src_srpn src)) refl refl
    where
      by : (p q : Bool) → requests src ≡ p → leb b.level (src_srpn src) ≡ q → Highest (suc n) xs (cond (p && q) (best n (src_srpn src)) b)
      by true true e f = taken e (leb-true b.level (src_srpn src) f)
      by true false e f = kept (λ _. leb-false b.level (src_srpn src) f)
      by false q e f = kept (λ g. absurd (never (sym g ∙ e)))

highest : (n : ℕ) (xs : List ℕ) → Highest n xs (best_below n xs)
unfolding best_below src
highest zero xs = record { one = inr (λ i p. absurd (omega (arith, p.0)), refl); above = λ i p. absurd (omega (arith, p.0)); after = λ i p k. absurd (omega (arith, p.0)) }
highest (suc n) xs = next n xs (best_below n xs) (highest n xs)

-- none that does not stand below the best is after it
not_after : (n : ℕ) (xs : List ℕ) (b : Best) → Highest n xs b → (i : ℕ) → Pending n xs i → b.level ≤ src_srpn (get_or xs i 0) → i ≤ b.source
not_after n xs b h i p l = by (lt_or_ge b.source i)
  where
    by : (b.source < i) ⊎ (i ≤ b.source) → i ≤ b.source
    by (inl k) = let a = h.after i p k in absurd (omega arith)
    by (inr k) = k

-- no other is the best
only : (n : ℕ) (xs : List ℕ) (b c : Best) → Highest n xs b → Highest n xs c → c ≡ b
only n xs b c h k = by h.one k.one
  where
    by : PendingOrNone n xs b → PendingOrNone n xs c → c ≡ b
    by (inl o) (inl p) =
        let u = h.above c.source p.0 in
        let v = k.above b.source o.0 in
        let l : c.level ≡ b.level = omega (arith, o.1, p.1) in
        let x = not_after n xs b h c.source p.0 (omega (arith, p.1)) in
        let y = not_after n xs c k b.source o.0 (omega (arith, o.1)) in
        let s : c.source ≡ b.source = omega arith in
        ap (λ (i : ℕ). best i c.level) s ∙ ap (best b.source) l
    by (inl o) (inr p) = absurd (p.0 b.source o.0)
    by (inr o) (inl p) = absurd (o.0 c.source p.0)
    by (inr o) (inr p) = p.1 ∙ sym o.1

pub best_is : (xs : List ℕ) (r : Best) → r ≡ best_of xs → (r ≡ best_of xs) × Exactly (Highest 16 xs) r
best_is xs r e = exactly (Highest 16 xs) (best_of xs) (highest 16 xs) (λ c h. only 16 xs (best_of xs) c (highest 16 xs) h) r e

-- a priority number is a byte
pub level_byte : (xs : List ℕ) → (best_of xs).level < 2 ^ 8
level_byte xs = by (highest 16 xs).one
  where
    by : PendingOrNone 16 xs (best_of xs) → (best_of xs).level < 2 ^ 8
    by (inl o) = omega (arith, o.1)
    by (inr o) = let z = ap (λ (x : Best). x.level) o.1 in omega arith

-- the loop's turn
pub turn : (xs : List ℕ) (n : ℕ) (b : Best) → b ≡ best_below n xs → better_of b n (get_or xs n 0) ≡ best_below (n + 1) xs
unfolding best_below
turn xs n b e = rw (add-one n, e)
