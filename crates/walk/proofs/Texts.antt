-- Texts written into a buffer, one after the other.
-- Assumes nothing.
use Prim.Native.Nat.{ℕ, suc, ◌+◌, ◌≤◌}
use native.Mathlib.Omega.{arith}
use native.Mathlib.Nat.{add-zero}
use mathlib.Core.Path.{◌≡◌, refl, sym, ap, ◌∙◌}
use mathlib.Core.List.{List, [], ◌∷◌, ◌++◌, append_assoc}
use lib.ListN.{length, take, drop, set, length-append}
use lib.Seq.{take_at, drop-drop, sets, sets-eq, length-sets}
use borrow.Rule.Slice.PartMut.{put_mid}
use Rattle.text.specs.Hex.{hex_of}
use Rattle.walk.specs.Written.{Written}

-- ---- a text set after another
pub sets_append : (x y a : List ℕ) (i : ℕ) → sets (sets a i x) (i + length x) y ≡ sets a i (x ++ y)
sets_append [] y a i = rw add-zero
sets_append (v ∷ x) y a i = let e : i + suc (length x) ≡ suc i + length x = omega arith in rw e (sets_append x y (set a i v) (suc i))

-- a text copied into its part of the buffer
pub copied : (out s : List ℕ) (at n : ℕ) → n ≡ length s → at + length s ≤ length out → Written out at s (length s) (put_mid at n out s) (at + length s)
copied out s at n e h =
    let b : put_mid at n out s ≡ sets out at s = rw (drop-drop n at out, e) (sym (sets-eq s out at h ∙ append_assoc (take at out) s _)) in
    let l : length (put_mid at n out s) ≡ length out = ap length b ∙ length-sets out at s in
    record { bytes = b; ends = refl; size = l; room = omega arith; fits = omega arith }

-- ---- a text written after another
pub then : {a b c x y : List ℕ} {i j k m n : ℕ} → Written a i x m b j → Written b j y n c k → Written a i (x ++ y) (m + n) c k
then {a} {b} {c} {x} {y} {i} {j} {k} p q =
    record {
      bytes = q.bytes ∙ rw (p.bytes, p.ends) (sets_append x y a i);
      ends = omega (arith, p.ends, q.ends, length-append x y);
      size = q.size ∙ p.size;
      room = omega (arith, p.room, q.room);
      fits = q.fits;
    }

pub nothing : (a : List ℕ) (i : ℕ) → i ≤ length a → Written a i [] 1 a i
nothing a i h = record { bytes = refl; ends = sym (add-zero i); size = refl; room = omega arith; fits = h }

pub roomier : {a b x : List ℕ} {i j m n : ℕ} → m ≤ n → Written a i x m b j → Written a i x n b j
roomier h p = record { bytes = p.bytes; ends = p.ends; size = p.size; room = omega (arith, p.room); fits = p.fits }

-- a text at the buffer's front is what stands there
pub front : {a b x : List ℕ} {j m : ℕ} → Written a 0 x m b j → take j b ≡ x
front {a} {b} {x} {j} p =
    let e : 0 + length x ≤ length a = omega (arith, p.ends, p.fits, p.size) in
    let f : length x ≡ j = omega (arith, p.ends) in
    ap (take j) (p.bytes ∙ sets-eq x a 0 e) ∙ take_at x (drop (0 + length x) a) j f

pub hex_length : (w : ℕ) → length (hex_of w) ≡ 8
unfolding hex_of
hex_length w = refl
