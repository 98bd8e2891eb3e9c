-- Where areas lie: a place is in one of the windows, and two links' areas are the same or apart.
-- Assumes nothing.
use Prim.Native.Nat.{ℕ, ◌+◌, ◌-◌, ◌*◌, ◌/◌, ◌%◌, ◌^◌, ◌≤◌, ◌<◌}
use native.Mathlib.Nat.{lt_of_not-le}
use native.Mathlib.Decide.{dec_le}
use native.Mathlib.Omega.{arith}
use mathlib.Core.Path.{◌≡◌, refl, sym, ◌∙◌}
use mathlib.Core.Bool.{Bool, true, false, cond}
use mathlib.Core.List.{List, ◌++◌}
use mathlib.Core.Logic.{◌⊎◌, inl, inr, ⊎_elim}
use lib.ListN.{length}
use lib.Dec.{ltb}
use borrow.Author.Tests.{ltb-false, lt-ltb, le-ltb}
use Rattle.memory.specs.Memory.{Windows, windows, lent, first_length, second_length}
use Rattle.memory.proofs.Joined.{first_length_lem, second_length_lem}
use Rattle.areas.specs.Link.{area_address}
use Rattle.areas.specs.Place.{placed_in, either_spot, spot_at, joined_place, placed_at, placed, spot_of, place_of, LiesIn, offset}
use Rattle.fields.specs.declared.link.Link.{Link}
use Rattle.memory.specs.declared.address.Address.{Address}
use Rattle.areas.specs.declared.link.Spot.{Spot}
use Rattle.areas.specs.declared.link.Spot.TheVariants.{First, Second, Neither}
use Rattle.std.specs.Prelude.{None, Option, Some}

pub never_at : {n : ℕ} → None ≡ Some n → ⊥
never_at e = let z : ◌≡◌ {A = ℕ} 0 1 = cc in omega arith

never_first : {n k : ℕ} → First n ≡ Second k → ⊥
never_first e = let z : ◌≡◌ {A = ℕ} 0 1 = cc in omega arith

first_some : {n : ℕ} → First n ≡ Neither → ⊥
first_some e = let z : ◌≡◌ {A = ℕ} 0 1 = cc in omega arith

second_some : {n : ℕ} → Second n ≡ Neither → ⊥
second_some e = let z : ◌≡◌ {A = ℕ} 0 1 = cc in omega arith

picked : (t u : Bool) (n at : ℕ) → cond t None (cond u None (Some n)) ≡ Some at → (t ≡ false) × (u ≡ false) × (n ≡ at)
picked true u n at e = absurd (never_at e)
picked false true n at e = absurd (never_at e)
picked false false n at e = (refl, refl, cc)

-- a place that is found in a window
pub record FoundIn (base : Address) (len size : ℕ) (a : Address) (at : ℕ) : Type 0 where
  pub above : base.0 ≤ a.0
  pub is : at + base.0 ≡ a.0
  pub inside : at + size ≤ len

pub found_in : (base : Address) (len size : ℕ) (a : Address) (at : ℕ) → placed_in base len size a ≡ Some at → FoundIn base len size a at
unfolding placed_in
found_in base len size a at e =
    let r = picked (ltb a.0 base.0) (ltb len (a.0 - base.0 + size)) (a.0 - base.0) at e in
    let t = ltb-false a.0 base.0 r.0 in
    let u = ltb-false len (a.0 - base.0 + size) r.1 in
    record { above = t; is = omega arith; inside = omega arith }

-- and in one of the two
pub data Found (w : Windows) (len size : ℕ) (a : Address) (at : ℕ) : Type 0 where
  in_first : FoundIn w.first (first_length w len) size a at → Found w len size a at
  in_second : (k : ℕ) → first_length w len + k ≡ at → FoundIn w.second (second_length w len) size a k → Found w len size a at

pub found : (w : Windows) (len size : ℕ) (a : Address) (at : ℕ) → placed_at w len size a ≡ Some at → Found w len size a at
unfolding placed_at spot_at
found w len size a at = by (placed_in w.first (first_length w len) size a) refl (placed_in w.second (second_length w len) size a) refl
  where
    by : (p : Option ℕ) → placed_in w.first (first_length w len) size a ≡ p → (q : Option ℕ) → placed_in w.second (second_length w len) size a ≡ q
        → joined_place (first_length w len) (either_spot p q) ≡ Some at → Found w len size a at
    by (Some k) e q f g = let z : k ≡ at = cc in in_first (found_in w.first (first_length w len) size a at (rw (← z) e))
    by None e (Some k) f g = let z : first_length w len + k ≡ at = cc in in_second k z (found_in w.second (second_length w len) size a k f)
    by None e None f g = absurd (never_at g)

-- the address of byte k of both windows
unfoldable pub address_at : Windows → ℕ → ℕ → ℕ
address_at w len k = cond (ltb k (first_length w len)) (w.first.0 + k) (w.second.0 + (k - first_length w len))

-- that of a byte of some that have a place
pub address_at_lem : (w : Windows) (len size : ℕ) (a : Address) (at k : ℕ) → placed_at w len size a ≡ Some at → at ≤ k → k < at + size → a.0 + (k - at) ≡ address_at w len k
unfolding address_at
address_at_lem w len size a at k e x y = by (found w len size a at e)
  where
    by : Found w len size a at → a.0 + (k - at) ≡ cond (ltb k (first_length w len)) (w.first.0 + k) (w.second.0 + (k - first_length w len))
    by (in_first f) = let i = f.is in let o = f.inside in rw (lt-ltb k (first_length w len) (omega arith)) (omega arith)
    by (in_second j z f) = let i = f.is in rw (le-ltb k (first_length w len) (omega arith)) (omega arith)

-- the cases of the search, as the code has them
module _ (s t : List ℕ) (base base2 : Address) (size : ℕ) (a : Address) where
  pub spot_first : (at : ℕ) → placed_in base (length s) size a ≡ Some at → First at ≡ spot_at (windows base (length s) base2) (length (s ++ t)) size a
  unfolding spot_at
  spot_first at e = rw (first_length_lem s t base base2, e)

  pub spot_second : (k : ℕ) → placed_in base (length s) size a ≡ None → placed_in base2 (length t) size a ≡ Some k
      → Second k ≡ spot_at (windows base (length s) base2) (length (s ++ t)) size a
  unfolding spot_at
  spot_second k e f = rw (first_length_lem s t base base2, second_length_lem s t base base2, e, f)

  pub spot_neither : placed_in base (length s) size a ≡ None → placed_in base2 (length t) size a ≡ None
      → Neither ≡ spot_at (windows base (length s) base2) (length (s ++ t)) size a
  unfolding spot_at
  spot_neither e f = rw (first_length_lem s t base base2, second_length_lem s t base base2, e, f)

  pub place_of_spot : (x : Spot) → x ≡ spot_at (windows base (length s) base2) (length (s ++ t)) size a
      → joined_place (length s) x ≡ placed_at (windows base (length s) base2) (length (s ++ t)) size a
  unfolding placed_at
  place_of_spot x e = rw (first_length_lem s t base base2, ← e)

  -- a spot that is found lies in the window that it names, and is not past the address
  pub lies_first : (at : ℕ) → First at ≡ spot_at (windows base (length s) base2) (length (s ++ t)) size a → at + size ≤ length s
  unfolding spot_at
  lies_first at = by (placed_in base (first_length w n) size a) refl (placed_in base2 (second_length w n) size a)
    where
      w : Windows
      w = windows base (length s) base2

      n : ℕ
      n = length (s ++ t)

      by : (p : Option ℕ) → placed_in base (first_length w n) size a ≡ p → (q : Option ℕ) → First at ≡ either_spot p q → at + size ≤ length s
      by (Some k) e q g = let z : at ≡ k = cc in let i = (found_in base (first_length w n) size a k e).inside in let l = first_length_lem s t base base2 in omega arith
      by None e (Some k) g = absurd (never_first g)
      by None e None g = absurd (first_some g)

  pub lies_second : (at : ℕ) → Second at ≡ spot_at (windows base (length s) base2) (length (s ++ t)) size a → (at + size ≤ length t) × (at ≤ a.0)
  unfolding spot_at
  lies_second at = by (placed_in base (first_length w n) size a) (placed_in base2 (second_length w n) size a) refl
    where
      w : Windows
      w = windows base (length s) base2

      n : ℕ
      n = length (s ++ t)

      by : (p q : Option ℕ) → placed_in base2 (second_length w n) size a ≡ q → Second at ≡ either_spot p q → (at + size ≤ length t) × (at ≤ a.0)
      by (Some k) q f g = absurd (never_first (sym g))
      by None (Some k) f g =
          let z : at ≡ k = cc in
          let r = found_in base2 (second_length w n) size a k f in
          let i = r.inside in
          let j = r.is in
          let l = second_length_lem s t base base2 in
          (omega arith, omega arith)
      by None None f g = absurd (second_some g)

  -- what has a place has a spot, and that is the place
  pub spot_placed : (x : Spot) → x ≡ spot_at (windows base (length s) base2) (length (s ++ t)) size a → (at : ℕ)
      → placed_at (windows base (length s) base2) (length (s ++ t)) size a ≡ Some at → LiesIn (length s) (length t) size x × (offset (length s) x ≡ at)
  spot_placed x e at p = by x e (place_of_spot x e ∙ p)
    where
      by : (x : Spot) → x ≡ spot_at (windows base (length s) base2) (length (s ++ t)) size a → joined_place (length s) x ≡ Some at
          → LiesIn (length s) (length t) size x × (offset (length s) x ≡ at)
      by (First k) e g = (lies_first k e, cc)
      by (Second k) e g = ((lies_second k e).0, cc)
      by Neither e g = absurd (never_at g)

pub spot_at_place : (s t : List ℕ) (b c : Address) (l : Link) (x : Spot) → x ≡ spot_of (lent b s c t) l → (at : ℕ) → place_of (lent b s c t) l ≡ Some at
    → LiesIn (length s) (length t) 64 x × (offset (length s) x ≡ at)
spot_at_place s t b c l x e at p = spot_placed s t b c 64 (area_address l) x e at p

-- some bytes from byte `at` on, of len, lie wholly in one window: before byte `split`, or from there on
pub record Within (split len at size : ℕ) : Type 0 where
  pub inside : at + size ≤ len
  pub one : at < split → at + size ≤ split

-- a place that is found does
pub place_found : (w : Windows) (len size : ℕ) (a : Address) (at : ℕ) → placed_at w len size a ≡ Some at → Within w.split len at size
place_found w len size a at e = by (found w len size a at e)
  where
    by : Found w len size a at → Within w.split len at size
    by (in_first f) = let i = f.inside in record { inside = omega arith; one = λ h. omega arith }
    by (in_second k s f) = let i = f.inside in record { inside = omega arith; one = λ h. omega arith }

pub placed_at_lem : (w : Windows) (len : ℕ) (a : Address) (at : ℕ) → placed w len a ≡ Some at → Within w.split len at 64
placed_at_lem w len a at e = place_found w len 64 a at e

-- two links' areas are the same or apart
same_area : (h l h' l' : ℕ) → l < 2 ^ 16 → l' < 2 ^ 16 → h * 2 ^ 28 + l * 64 < h' * 2 ^ 28 + l' * 64 + 64 → h' * 2 ^ 28 + l' * 64 < h * 2 ^ 28 + l * 64 + 64 → (h ≡ h') × (l ≡ l')
same_area h l h' l' hl hl' a b =
    let c : h * 2 ^ 22 + l ≤ h' * 2 ^ 22 + l' = omega arith in
    let d : h' * 2 ^ 22 + l' ≤ h * 2 ^ 22 + l = omega arith in
    (omega arith, omega arith)

same_link : (n k : ℕ) → n < 2 ^ 20 → k < 2 ^ 20 → n / 2 ^ 16 % 16 ≡ k / 2 ^ 16 % 16 → n % 2 ^ 16 ≡ k % 2 ^ 16 → n ≡ k
same_link n k hn hk p q = omega arith

apart_in : (base : Address) (len : ℕ) (l k : Link) (at bt : ℕ) → l.0 < 2 ^ 20 → k.0 < 2 ^ 20 → (l.0 ≡ k.0 → ⊥)
    → FoundIn base len 64 (area_address l) at → FoundIn base len 64 (area_address k) bt → (at + 64 ≤ bt) ⊎ (bt + 64 ≤ at)
apart_in base len l k at bt hl hk ne u v = either (dec_le (at + 64) bt) (dec_le (bt + 64) at)
  where
    either : Dec (at + 64 ≤ bt) → Dec (bt + 64 ≤ at) → (at + 64 ≤ bt) ⊎ (bt + 64 ≤ at)
    either (yes h) e = inl h
    either (no f) (yes h) = inr h
    either (no f) (no g) =
        let f' = lt_of_not-le f in
        let g' = lt_of_not-le g in
        let u' = u.is in
        let v' = v.is in
        let r = same_area (l.0 / 2 ^ 16 % 16) (l.0 % 2 ^ 16) (k.0 / 2 ^ 16 % 16) (k.0 % 2 ^ 16) (omega arith) (omega arith) (omega arith) (omega arith) in
        absurd (ne (same_link l.0 k.0 hl hk r.0 r.1))

-- in different windows they are apart as the windows are
pub apart : (w : Windows) (len : ℕ) (l k : Link) (at bt : ℕ) → l.0 < 2 ^ 20 → k.0 < 2 ^ 20 → (l.0 ≡ k.0 → ⊥)
    → placed w len (area_address l) ≡ Some at → placed w len (area_address k) ≡ Some bt → (at + 64 ≤ bt) ⊎ (bt + 64 ≤ at)
apart w len l k at bt hl hk ne p q = by (found w len 64 (area_address l) at p) (found w len 64 (area_address k) bt q)
  where
    by : Found w len 64 (area_address l) at → Found w len 64 (area_address k) bt → (at + 64 ≤ bt) ⊎ (bt + 64 ≤ at)
    by (in_first f) (in_first g) = apart_in w.first (first_length w len) l k at bt hl hk ne f g
    by (in_first f) (in_second j s g) = let i = f.inside in inl (omega arith)
    by (in_second i s f) (in_first g) = let i = g.inside in inr (omega arith)
    by (in_second i s f) (in_second j t g) = ⊎_elim (λ x. inl (omega arith)) (λ x. inr (omega arith)) (apart_in w.second (second_length w len) l k i j hl hk ne f g)
