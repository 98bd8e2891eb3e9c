-- Records follow each other by their own lengths.
-- Assumes nothing.
use Rattle.std.proofs.Common.{◌≡◌, ℕ, zero, suc, ◌+◌, ◌-◌, ◌*◌, ◌/◌, ◌%◌, ◌<◌, ◌≤◌, Bool, true, false, cond, List, get_or, sym, refl, subst, lt_of_not-le, arith, le-leb}
use native.Mathlib.Decide.{dec_le}
use borrow.Author.Tests.{lt-leb}
use Rattle.operations.specs.Forms.{is_short}
use Rattle.image.specs.Lengths.{length_of, length_at, address_after}

-- ---- a length is 2 or 4
pub record LengthSays (n : ℕ) : Type 0 where
  pub low : 2 ≤ n
  pub high : n ≤ 4
  pub even : n % 2 ≡ 0

by_form : (t : Bool) → LengthSays (cond t 2 4)
by_form true = record { low = omega arith; high = omega arith; even = refl }
by_form false = record { low = omega arith; high = omega arith; even = refl }

pub length_says : (byte : ℕ) → LengthSays (length_of byte)
unfolding length_of
length_says byte = by_form (is_short byte)

pub long_length : (byte : ℕ) → byte < 128 → length_of byte ≡ 4
unfolding length_of
long_length byte h = rw (lt-leb 128 byte h)

pub short_length : (byte : ℕ) → 128 ≤ byte → length_of byte ≡ 2
unfolding length_of
short_length byte h = rw (le-leb 128 byte h)

-- as the code computes both
pub byte_length : (byte : ℕ) → byte < 256 → (x : ℕ) → x ≡ 4 - 2 * (byte / 128) → x ≡ length_of byte
byte_length byte b x e = by (dec_le 128 byte)
  where
    by : Dec (128 ≤ byte) → x ≡ length_of byte
    by (yes h) = rw (short_length byte h) (omega arith)
    by (no h) = rw (long_length byte (lt_of_not-le h)) (let l = lt_of_not-le h in omega arith)

-- ---- where a record begins
pub after_none : (img : List ℕ) (at from : ℕ) → address_after 0 img at from ≡ from
unfolding address_after
after_none img at from = refl

pub after_more : (j : ℕ) (img : List ℕ) (at from : ℕ) → address_after (suc j) img at from ≡ address_after j img at from + length_at img (at + 8 * j)
unfolding address_after
after_more j img at from = refl

pub after_low : (j : ℕ) (img : List ℕ) (at from : ℕ) → from + 2 * j ≤ address_after j img at from
after_low zero img at from = omega (arith, after_none img at from)
after_low (suc j) img at from = omega (arith, after_low j img at from, after_more j img at from, (length_says (get_or img (at + 8 * j) 0)).low)

pub after_high : (j : ℕ) (img : List ℕ) (at from : ℕ) → address_after j img at from ≤ from + 4 * j
after_high zero img at from = omega (arith, after_none img at from)
after_high (suc j) img at from = omega (arith, after_high j img at from, after_more j img at from, (length_says (get_or img (at + 8 * j) 0)).high)

-- k records, and then j
pub after_join : (k j : ℕ) (img : List ℕ) (at from : ℕ) → address_after (k + j) img at from ≡ address_after j img (at + 8 * k) (address_after k img at from)
after_join k zero img at from =
    let z : k + 0 ≡ k = omega arith in
    rw z (sym (after_none img (at + 8 * k) (address_after k img at from)))
after_join k (suc j) img at from =
    let z : k + suc j ≡ suc (k + j) = omega arith in
    let y : at + 8 * (k + j) ≡ at + 8 * k + 8 * j = omega arith in
    rw (z, after_more (k + j) img at from, y, after_join k j img at from) (sym (after_more j img (at + 8 * k) (address_after k img at from)))

-- the rest of n records, from the one with index k on
pub after_rest : (k n : ℕ) (img : List ℕ) (at from : ℕ) → k ≤ n → address_after (n - k) img (at + 8 * k) (address_after k img at from) ≡ address_after n img at from
after_rest k n img at from h =
    let z : k + (n - k) ≡ n = omega arith in
    subst (λ (x : ℕ). address_after (n - k) img (at + 8 * k) (address_after k img at from) ≡ address_after x img at from) z (sym (after_join k (n - k) img at from))

-- a later record begins later
pub after_less : (k n : ℕ) (img : List ℕ) (at from : ℕ) → k ≤ n → address_after k img at from + 2 * (n - k) ≤ address_after n img at from
after_less k n img at from h = omega (arith, after_rest k n img at from h, after_low (n - k) img (at + 8 * k) (address_after k img at from))

pub after_same : (j k : ℕ) (img : List ℕ) (at from : ℕ) → address_after j img at from ≡ address_after k img at from → j ≡ k
after_same j k img at from e = go (dec_le j k) (dec_le k j)
  where
    go : Dec (j ≤ k) → Dec (k ≤ j) → j ≡ k
    go (yes p) (yes q) = omega arith
    go (no p) q = let l = lt_of_not-le p in absurd (let m = after_less k j img at from (omega arith) in omega arith)
    go (yes p) (no q) = let l = lt_of_not-le q in absurd (let m = after_less j k img at from (omega arith) in omega arith)

-- records that are all long
pub after_long : (n : ℕ) (img : List ℕ) (at from : ℕ) → ((k : ℕ) → k < n → get_or img (at + 8 * k) 0 < 128) → (j : ℕ) → j ≤ n → address_after j img at from ≡ from + 4 * j
after_long n img at from l zero h = omega (arith, after_none img at from)
after_long n img at from l (suc j) h = omega (arith, after_long n img at from l j (omega arith), after_more j img at from, long_length (get_or img (at + 8 * j) 0) (l j h))

-- as a loop counts them
pub after_plus : (k : ℕ) (img : List ℕ) (at from : ℕ) → address_after (k + 1) img at from ≡ address_after k img at from + length_at img (at + 8 * k)
after_plus k img at from = let z : k + 1 ≡ suc k = omega arith in rw z (after_more k img at from)
