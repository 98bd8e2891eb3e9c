-- An area as a part of whichever window has it: a word read or written in the part is that word of the memory.
-- Assumes nothing.
use mathlib.Core.Path.{◌≡◌, sym, ap, ◌∙◌}
use mathlib.Core.List.{List, [], ◌++◌}
use Prim.Native.Nat.{ℕ, zero, suc, ◌+◌, ◌-◌, ◌*◌, ◌/◌, ◌%◌, ◌≤◌, ◌<◌}
use native.Mathlib.Nat.{zero-add, add-zero, add_assoc}
use native.Mathlib.Omega.{arith}
use lib.ListN.{length, get_or, set, take, drop, length-set, length-drop}
use lib.Seq.{get_or-take, get_or-drop, set-append_left, length-take-le, take-append-le, drop-append-le, drop-append-add}
use borrow.Rule.Slice.PartMut.{mid_of, post_of, put_mid, put_same}
use Rattle.memory.specs.Word.{word_at, put_word, put_words}
use Rattle.memory.proofs.Words.{put_words_length}
use Rattle.memory.specs.Joins.{set_append_add, first_put_word, add_word}
use Rattle.memory.proofs.Joined.{first_put_words, add_words}
use Rattle.memory.specs.Memory.{Memory, lent}
use Rattle.memory.specs.declared.address.Address.{Address}
use Rattle.areas.specs.Link.{area_address}
use Rattle.areas.specs.Place.{spot_of, place_of, offset}
use Rattle.areas.specs.Area.{area_at, area_by, area_of}
use Rattle.fields.specs.declared.link.Link.{Link}
use Rattle.areas.specs.declared.link.Spot.{Spot}
use Rattle.areas.specs.declared.link.Spot.TheVariants.{First, Second, Neither}
use Rattle.areas.proofs.Places.{place_of_spot, lies_first, placed_at_lem}
use Rattle.std.specs.Prelude.{Some}

-- the part as the code takes it
pub part_64 : (at : ℕ) (s : List ℕ) → take (at + 64 - at) (drop at s) ≡ area_at s at
part_64 at s = let e : at + 64 - at ≡ 64 = omega arith in rw e

-- the part of whichever window has it
first_area : (s t : List ℕ) (at : ℕ) → at + 64 ≤ length s → area_at s at ≡ area_at (s ++ t) at
first_area s t at h = rw (drop-append-le at s t (omega arith)) (sym (take-append-le 64 (drop at s) t (simp length-drop (omega arith))))

second_area : (s t : List ℕ) (at : ℕ) → area_at t at ≡ area_at (s ++ t) (length s + at)
second_area s t at = sym (ap (take 64) (drop-append-add s t at))

-- the part that the code takes is the area that the link names
module _ (s t : List ℕ) (b c : Address) (l : Link) where
  pub first_is : (at : ℕ) → First at ≡ spot_of (lent b s c t) l → area_at s at ≡ area_of (lent b s c t) l
  unfolding area_of
  first_is at e =
      first_area s t at (lies_first s t b c 64 (area_address l) at e) ∙ ap (area_by (s ++ t)) (place_of_spot s t b c 64 (area_address l) (First at) e)

  pub second_is : (at : ℕ) → Second at ≡ spot_of (lent b s c t) l → area_at t at ≡ area_of (lent b s c t) l
  unfolding area_of
  second_is at e = second_area s t at ∙ ap (area_by (s ++ t)) (place_of_spot s t b c 64 (area_address l) (Second at) e)

  pub neither_is : Neither ≡ spot_of (lent b s c t) l → [] ≡ area_of (lent b s c t) l
  unfolding area_of
  neither_is e = ap (area_by (s ++ t)) (place_of_spot s t b c 64 (area_address l) Neither e)

-- an area that has a place: the bytes there
pub area_placed : (m : Memory) (l : Link) (at : ℕ) → place_of m l ≡ Some at → area_of m l ≡ area_at m.bytes at
unfolding area_of
area_placed m l at p = ap (area_by m.bytes) p

-- ---- reading
pub area_length : (s : List ℕ) (at : ℕ) → at + 64 ≤ length s → length (area_at s at) ≡ 64
area_length s at h = length-take-le 64 (drop at s) (simp length-drop (omega arith))

pub area_64 : (m : Memory) (l : Link) (at : ℕ) → place_of m l ≡ Some at → length (area_of m l) ≡ 64
area_64 m l at p =
    ap length (area_placed m l at p) ∙ area_length m.bytes at (placed_at_lem m.windows (length m.bytes) (area_address l) at p).inside

area_byte : (s : List ℕ) (at i : ℕ) → i < 64 → get_or (area_at s at) i 0 ≡ get_or s (at + i) 0
area_byte s at i h = rw (get_or-take, get_or-drop)

pub area_word : (s : List ℕ) (at i : ℕ) → i + 4 ≤ 64 → word_at (area_at s at) i ≡ word_at s (at + i)
unfolding word_at
area_word s at i h =
    let b0 = area_byte s at i (omega arith) in
    let b1 = area_byte s at (i + 1) (omega arith) in
    let b2 = area_byte s at (i + 2) (omega arith) in
    let b3 = area_byte s at (i + 3) (omega arith) in
    cc (add_assoc at i 1, add_assoc at i 2, add_assoc at i 3)

pub area_first : (s : List ℕ) (at : ℕ) → word_at (area_at s at) 0 ≡ word_at s at
area_first s at = area_word s at 0 (omega arith) ∙ ap (word_at s) (add-zero at)

-- the area's first word is the word at its place
pub first_word_placed : (m : Memory) (l : Link) (at : ℕ) → place_of m l ≡ Some at → word_at (area_of m l) 0 ≡ word_at m.bytes at
first_word_placed m l at p = ap (λ (x : List ℕ). word_at x 0) (area_placed m l at p) ∙ area_first m.bytes at

-- ---- writing
module _ (a k : ℕ) (xs : List ℕ) (fits : a ≤ length xs) where
  mid_set : (ys : List ℕ) (j v : ℕ) → j < length ys → put_mid a k xs (set ys j v) ≡ set (put_mid a k xs ys) (a + j) v
  mid_set ys j v h =
      let e : length (take a xs) ≡ a = length-take-le a xs fits in
      let s = set_append_add (take a xs) (ys ++ post_of a k xs) j v in
      let t = set-append_left ys (post_of a k xs) j v h in
      cc

  pub mid_word : (ys : List ℕ) (i w : ℕ) → i + 4 ≤ length ys → put_mid a k xs (put_word ys i w) ≡ put_word (put_mid a k xs ys) (a + i) w
  unfolding put_word
  mid_word ys i w h =
      let y1 = set ys i (w % 0x100) in
      let y2 = set y1 (i + 1) (w / 0x100 % 0x100) in
      let y3 = set y2 (i + 2) (w / 0x1_0000 % 0x100) in
      let l1 : length y1 ≡ length ys = simp length-set in
      let l2 : length y2 ≡ length ys = simp length-set in
      let l3 : length y3 ≡ length ys = simp length-set in
      let m0 = mid_set ys i (w % 0x100) (omega arith) in
      let m1 = mid_set y1 (i + 1) (w / 0x100 % 0x100) (omega arith) in
      let m2 = mid_set y2 (i + 2) (w / 0x1_0000 % 0x100) (omega arith) in
      let m3 = mid_set y3 (i + 3) (w / 0x100_0000) (omega arith) in
      cc (add_assoc a i 1, add_assoc a i 2, add_assoc a i 3)

  pub mid_words : a + 64 ≤ length xs → k ≡ 64 → (ws : List ℕ) (n : ℕ) → n ≤ 16 → put_mid a k xs (put_words (mid_of a k xs) 0 ws n) ≡ put_words xs a ws n
  unfolding put_words
  mid_words g e ws zero h = put_same a k xs
  mid_words g e ws (suc n) h =
      let y = put_words (mid_of a k xs) 0 ws n in
      let ly : length y ≡ 64 = put_words_length (mid_of a k xs) 0 ws n ∙ length-take-le k (drop a xs) (simp length-drop (omega arith)) ∙ e in
      cc (mid_words g e ws n (omega arith), mid_word y (4 * n) (get_or ws n 0) (omega arith), zero-add (4 * n))

  pub mid_first : a + 64 ≤ length xs → k ≡ 64 → (w : ℕ) → put_mid a k xs (put_word (mid_of a k xs) 0 w) ≡ put_word xs a w
  mid_first g e w =
      let l : length (mid_of a k xs) ≡ 64 = length-take-le k (drop a xs) (simp length-drop (omega arith)) ∙ e in
      mid_word (mid_of a k xs) 0 w (omega arith) ∙ ap (λ (ys : List ℕ). put_word ys (a + 0) w) (put_same a k xs) ∙ ap (λ (i : ℕ). put_word xs i w) (add-zero a)

-- ---- an area written in place, as a part of the window that has it: the bytes of both windows afterwards
module _ (s t : List ℕ) (k : ℕ) (x : Spot) (ys : List ℕ) where
  pub first_words : x ≡ First k → k + 64 ≤ length s → (ws : List ℕ) → ys ≡ put_words (mid_of k (k + 64 - k) s) 0 ws 16
      → put_mid k (k + 64 - k) s ys ++ t ≡ put_words (s ++ t) (offset (length s) x) ws 16
  first_words e h ws w =
      ap (λ (y : List ℕ). put_mid k (k + 64 - k) s y ++ t) w
      ∙ ap (λ (y : List ℕ). y ++ t) (mid_words k (k + 64 - k) s (omega arith) h (omega arith) ws 16 (omega arith))
      ∙ first_put_words s t k ws 16 h
      ∙ ap (λ (z : Spot). put_words (s ++ t) (offset (length s) z) ws 16) (sym e)

  pub second_words : x ≡ Second k → k + 64 ≤ length t → (ws : List ℕ) → ys ≡ put_words (mid_of k (k + 64 - k) t) 0 ws 16
      → s ++ put_mid k (k + 64 - k) t ys ≡ put_words (s ++ t) (offset (length s) x) ws 16
  second_words e h ws w =
      ap (λ (y : List ℕ). s ++ put_mid k (k + 64 - k) t y) w
      ∙ ap (λ (y : List ℕ). s ++ y) (mid_words k (k + 64 - k) t (omega arith) h (omega arith) ws 16 (omega arith))
      ∙ add_words s t k ws 16
      ∙ ap (λ (z : Spot). put_words (s ++ t) (offset (length s) z) ws 16) (sym e)

  pub first_link : x ≡ First k → k + 64 ≤ length s → (w : ℕ) → ys ≡ put_word (mid_of k (k + 64 - k) s) 0 w
      → put_mid k (k + 64 - k) s ys ++ t ≡ put_word (s ++ t) (offset (length s) x) w
  first_link e h w g =
      ap (λ (y : List ℕ). put_mid k (k + 64 - k) s y ++ t) g
      ∙ ap (λ (y : List ℕ). y ++ t) (mid_first k (k + 64 - k) s (omega arith) h (omega arith) w)
      ∙ first_put_word s t k w (omega arith)
      ∙ ap (λ (z : Spot). put_word (s ++ t) (offset (length s) z) w) (sym e)

  pub second_link : x ≡ Second k → k + 64 ≤ length t → (w : ℕ) → ys ≡ put_word (mid_of k (k + 64 - k) t) 0 w
      → s ++ put_mid k (k + 64 - k) t ys ≡ put_word (s ++ t) (offset (length s) x) w
  second_link e h w g =
      ap (λ (y : List ℕ). s ++ put_mid k (k + 64 - k) t y) g
      ∙ ap (λ (y : List ℕ). s ++ y) (mid_first k (k + 64 - k) t (omega arith) h (omega arith) w)
      ∙ add_word s t k w
      ∙ ap (λ (z : Spot). put_word (s ++ t) (offset (length s) z) w) (sym e)
