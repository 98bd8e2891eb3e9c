-- The laws of words in a list of bytes: lengths, what is read back, what stands elsewhere.
-- Assumes nothing.
use mathlib.Core.Path.{◌≡◌, refl, sym, ap, ap₂, subst, ◌∙◌}
use mathlib.Core.Logic.{◌≢◌, ◌⊎◌, inl, inr, ⊎_elim}
use mathlib.Core.List.{List, ◌∷◌, ◌++◌, append-nil}
use Prim.Native.Nat.{ℕ, zero, suc, ◌+◌, ◌*◌, ◌/◌, ◌%◌, ◌^◌, ◌≤◌, ◌<◌}
use native.Mathlib.Omega.{arith}
use lib.ListN.{length, get_or, set, length-set, drop_of_length-le}
use lib.Seq.{get_or-set_same, get_or-set_other, set-get_or, ext_get_or, sets, sets-eq}
use native.Mathlib.Nat.{lt_of_not-le}
use native.Mathlib.Decide.{dec_le}
use native.Mathlib.Numerals.{add-one}
use Rattle.memory.specs.Word.{word_at, put_word, put_words, words_at}

pub put_word_length : (s : List ℕ) (i w : ℕ) → length (put_word s i w) ≡ length s
unfolding put_word
put_word_length s i w = simp length-set

module _ (s : List ℕ) (i w : ℕ) where
  abbrev s1 : List ℕ
  s1 = set s i (w % 256)

  abbrev s2 : List ℕ
  s2 = set s1 (i + 1) (w / 256 % 256)

  abbrev s3 : List ℕ
  s3 = set s2 (i + 2) (w / 65536 % 256)

  -- a byte outside the word
  pub put_word_byte : (k : ℕ) → (k < i) ⊎ (i + 4 ≤ k) → get_or (put_word s i w) k 0 ≡ get_or s k 0
  unfolding put_word
  put_word_byte k h =
      let ne : (d : ℕ) → d < 4 → k ≢ i + d = λ d hd e. ⊎_elim (λ x. omega arith) (λ x. omega arith) h in
      let ne0 : k ≢ i = λ e. ⊎_elim (λ x. omega arith) (λ x. omega arith) h in
      get_or-set_other s3 (i + 3) k (w / 16777216) 0 (ne 3 (omega arith))
      ∙ get_or-set_other s2 (i + 2) k (w / 65536 % 256) 0 (ne 2 (omega arith))
      ∙ get_or-set_other s1 (i + 1) k (w / 256 % 256) 0 (ne 1 (omega arith))
      ∙ get_or-set_other s i k (w % 256) 0 ne0

  -- a word elsewhere is unchanged
  pub put_word_other : (j : ℕ) → (j + 4 ≤ i) ⊎ (i + 4 ≤ j) → word_at (put_word s i w) j ≡ word_at s j
  unfolding word_at
  put_word_other j h =
      let at : (d : ℕ) → d < 4 → (j + d < i) ⊎ (i + 4 ≤ j + d) = λ d hd. ⊎_elim (λ x. inl (omega arith)) (λ x. inr (omega arith)) h in
      let at0 : (j < i) ⊎ (i + 4 ≤ j) = ⊎_elim (λ x. inl (omega arith)) (λ x. inr x) h in
      omega (arith, put_word_byte j at0, put_word_byte (j + 1) (at 1 (omega arith)), put_word_byte (j + 2) (at 2 (omega arith)), put_word_byte (j + 3) (at 3 (omega arith)))

  -- the word written is read back
  pub put_word_same : i + 4 ≤ length s → w < 2 ^ 32 → word_at (put_word s i w) i ≡ w
  unfolding word_at put_word
  put_word_same h hw =
      let l1 : length s1 ≡ length s = simp length-set in
      let l2 : length s2 ≡ length s = simp length-set in
      let l3 : length s3 ≡ length s = simp length-set in
      let e3 : get_or (put_word s i w) (i + 3) 0 ≡ w / 16777216 = get_or-set_same s3 (i + 3) (w / 16777216) 0 (omega arith) in
      let e2 : get_or (put_word s i w) (i + 2) 0 ≡ w / 65536 % 256 =
      get_or-set_other s3 (i + 3) (i + 2) (w / 16777216) 0 (λ e. omega arith) ∙ get_or-set_same s2 (i + 2) (w / 65536 % 256) 0 (omega arith) in
      let e1 : get_or (put_word s i w) (i + 1) 0 ≡ w / 256 % 256 =
      get_or-set_other s3 (i + 3) (i + 1) (w / 16777216) 0 (λ e. omega arith)
      ∙ get_or-set_other s2 (i + 2) (i + 1) (w / 65536 % 256) 0 (λ e. omega arith)
      ∙ get_or-set_same s1 (i + 1) (w / 256 % 256) 0 (omega arith) in
      let e0 : get_or (put_word s i w) i 0 ≡ w % 256 =
      get_or-set_other s3 (i + 3) i (w / 16777216) 0 (λ e. omega arith)
      ∙ get_or-set_other s2 (i + 2) i (w / 65536 % 256) 0 (λ e. omega arith)
      ∙ get_or-set_other s1 (i + 1) i (w / 256 % 256) 0 (λ e. omega arith)
      ∙ get_or-set_same s i (w % 256) 0 (omega arith) in
      omega arith

pub put_words_length : (s : List ℕ) (i : ℕ) (ws : List ℕ) (n : ℕ) → length (put_words s i ws n) ≡ length s
unfolding put_words
put_words_length s i ws zero = refl
put_words_length s i ws (suc n) = put_word_length (put_words s i ws n) (i + 4 * n) (get_or ws n 0) ∙ put_words_length s i ws n

pub put_words_suc : (s : List ℕ) (i : ℕ) (ws : List ℕ) (n : ℕ) → put_words s i ws (n + 1) ≡ put_word (put_words s i ws n) (i + 4 * n) (get_or ws n 0)
unfolding put_words
put_words_suc s i ws n = rw add-one

-- a turn of the loop that writes words
pub put_turn : (s : List ℕ) (i : ℕ) (ws : List ℕ) (n : ℕ) {a last : List ℕ} → a ≡ put_words s i ws n → last ≡ put_word a (i + 4 * n) (get_or ws n 0) → last ≡ put_words s i ws (n + 1)
put_turn s i ws n e f = cc (put_words_suc s i ws n)

-- ---- a run of words: what is read back, and what stands elsewhere
pub put_words_byte : (s : List ℕ) (i : ℕ) (ws : List ℕ) (n k : ℕ) → (k < i) ⊎ (i + 4 * n ≤ k) → get_or (put_words s i ws n) k 0 ≡ get_or s k 0
unfolding put_words
put_words_byte s i ws zero k h = refl
put_words_byte s i ws (suc n) k h =
    put_word_byte (put_words s i ws n) (i + 4 * n) (get_or ws n 0) k (⊎_elim (λ x. inl (omega arith)) (λ x. inr (omega arith)) h)
    ∙ put_words_byte s i ws n k (⊎_elim (λ x. inl x) (λ x. inr (omega arith)) h)

pub put_words_at : (s : List ℕ) (i : ℕ) (ws : List ℕ) (n k : ℕ) → i + 4 * n ≤ length s → k < n → ((m : ℕ) → get_or ws m 0 < 2 ^ 32) → word_at (put_words s i ws n) (i + 4 * k) ≡ get_or ws k 0
unfolding put_words
put_words_at s i ws zero k g h f = absurd (omega arith)
put_words_at s i ws (suc n) k g h f = either (dec_le n k) (λ q. put_words_at s i ws n k (omega arith) q f)
  where
    either : Dec (n ≤ k) → (k < n → word_at (put_words s i ws n) (i + 4 * k) ≡ get_or ws k 0) → word_at (put_words s i ws (suc n)) (i + 4 * k) ≡ get_or ws k 0
    either (yes p) r =
        let e : n ≡ k = omega arith in
        let t = put_word_same (put_words s i ws n) (i + 4 * n) (get_or ws n 0) (omega (arith, put_words_length s i ws n)) (f n) in
        subst (λ (m : ℕ). word_at (put_words s i ws (suc n)) (i + 4 * m) ≡ get_or ws m 0) e t
    either (no p) r =
        let q : k < n = lt_of_not-le p in
        put_word_other (put_words s i ws n) (i + 4 * n) (get_or ws n 0) (i + 4 * k) (inl (omega arith)) ∙ r q

-- ---- words are read from their bytes alone
pub word_at_same : (s t : List ℕ) (i : ℕ) → ((k : ℕ) → i ≤ k → k < i + 4 → get_or t k 0 ≡ get_or s k 0) → word_at t i ≡ word_at s i
unfolding word_at
word_at_same s t i h =
    omega (arith, h i (omega arith) (omega arith), h (i + 1) (omega arith) (omega arith), h (i + 2) (omega arith) (omega arith), h (i + 3) (omega arith) (omega arith))

pub words_at_same : (s t : List ℕ) (n i : ℕ) → ((k : ℕ) → i ≤ k → k < i + 4 * n → get_or t k 0 ≡ get_or s k 0) → words_at t i n ≡ words_at s i n
unfolding words_at
words_at_same s t zero i h = refl
words_at_same s t (suc n) i h =
    ap₂ ◌∷◌ (word_at_same s t i (λ k p q. h k p (omega arith))) (words_at_same s t n (i + 4) (λ k p q. h k (omega arith) (omega arith)))

pub words_at_length : (s : List ℕ) (i n : ℕ) → length (words_at s i n) ≡ n
unfolding words_at
words_at_length s i zero = refl
words_at_length s i (suc n) = ap suc (words_at_length s (i + 4) n)

-- word k of those from byte i on
pub words_at_lem : (s : List ℕ) (n i k : ℕ) → k < n → get_or (words_at s i n) k 0 ≡ word_at s (i + 4 * k)
unfolding words_at
words_at_lem s zero i k h = absurd (omega arith)
words_at_lem s (suc n) i zero h = let e : i ≡ i + 4 * 0 = omega arith in ap (word_at s) e
words_at_lem s (suc n) i (suc k) h = let e : i + 4 + 4 * k ≡ i + 4 * suc k = omega arith in words_at_lem s n (i + 4) k (omega arith) ∙ ap (word_at s) e

-- one word more read into a list, from its element f on
read_next : (s : List ℕ) (n : ℕ) (ws : List ℕ) (f i : ℕ) → set (sets ws f (words_at s i n)) (f + n) (word_at s (i + 4 * n)) ≡ sets ws f (words_at s i (suc n))
unfolding words_at
read_next s zero ws f i = let a : f + 0 ≡ f = omega arith in let b : i + 4 * 0 ≡ i = omega arith in rw (a, b)
read_next s (suc n) ws f i =
    let a : f + suc n ≡ suc f + n = omega arith in
    let b : i + 4 * suc n ≡ i + 4 + 4 * n = omega arith in
    rw (a, b) (read_next s n (set ws f (word_at s i)) (suc f) (i + 4))

-- a turn of the loop that reads words
pub read_turn : (s : List ℕ) (i : ℕ) (ws : List ℕ) (f n : ℕ) {a : List ℕ} {w : ℕ} → a ≡ sets ws f (words_at s i n) → w ≡ word_at s (i + 4 * n) → set a (f + n) w ≡ sets ws f (words_at s i (n + 1))
read_turn s i ws f n e is = rw (e, is, add-one) (read_next s n ws f i)

-- read into the whole of a list
pub read_whole : (s : List ℕ) (i n : ℕ) (ws : List ℕ) → length ws ≡ n → sets ws 0 (words_at s i n) ≡ words_at s i n
read_whole s i n ws l =
    let v = words_at s i n in
    let e = words_at_length s i n in
    sets-eq v ws 0 (omega arith) ∙ ap (λ (r : List ℕ). v ++ r) (drop_of_length-le ws {i = 0 + length v} (omega arith)) ∙ append-nil v

-- ---- words written: those read back, and those elsewhere
pub words_at_back : (s : List ℕ) (i : ℕ) (ws : List ℕ) (n : ℕ) → i + 4 * n ≤ length s → length ws ≡ n → ((m : ℕ) → get_or ws m 0 < 2 ^ 32) → words_at (put_words s i ws n) i n ≡ ws
words_at_back s i ws n h l f =
    let t = put_words s i ws n in
    ext_get_or 0 (words_at t i n) ws (words_at_length t i n ∙ sym l)
    (λ k g. let q : k < n = omega (arith, words_at_length t i n) in words_at_lem t n i k q ∙ put_words_at s i ws n k h q f)

pub words_at_apart : (s : List ℕ) (i : ℕ) (ws : List ℕ) (n j k : ℕ) → (j + 4 * k ≤ i) ⊎ (i + 4 * n ≤ j) → words_at (put_words s i ws n) j k ≡ words_at s j k
words_at_apart s i ws n j k h =
    words_at_same s (put_words s i ws n) k j (λ b p q. put_words_byte s i ws n b (⊎_elim (λ x. inl (omega arith)) (λ x. inr (omega arith)) h))

-- ---- words that are written where they were read change nothing
low_digit : (x c d : ℕ) → x ≡ c + 0x100 * d → c < 2 ^ 8 → x % 0x100 ≡ c
low_digit x c d e h = omega arith

module _ (s : List ℕ) (bytes : (k : ℕ) → get_or s k 0 < 2 ^ 8) where
  pub put_word_kept : (i : ℕ) → put_word s i (word_at s i) ≡ s
  unfolding put_word word_at
  put_word_kept i =
      let w = word_at s i in
      let b0 = bytes i in
      let b1 = bytes (i + 1) in
      let b2 = bytes (i + 2) in
      let b3 = bytes (i + 3) in
      let e0 : w % 0x100 ≡ get_or s i 0 = omega arith in
      let e1 : w / 0x100 % 0x100 ≡ get_or s (i + 1) 0 = low_digit _ _ (get_or s (i + 2) 0 + 0x100 * get_or s (i + 3) 0) (omega arith) b1 in
      let e2 : w / 0x1_0000 % 0x100 ≡ get_or s (i + 2) 0 = low_digit _ _ (get_or s (i + 3) 0) (omega arith) b2 in
      let e3 : w / 0x100_0000 ≡ get_or s (i + 3) 0 = omega arith in
      rw (e0, set-get_or s i 0, e1, set-get_or s (i + 1) 0, e2, set-get_or s (i + 2) 0, e3) (set-get_or s (i + 3) 0)

  each_kept : (i : ℕ) (ws : List ℕ) (n : ℕ) → ((k : ℕ) → k < n → get_or ws k 0 ≡ word_at s (i + 4 * k)) → put_words s i ws n ≡ s
  unfolding put_words
  each_kept i ws zero h = refl
  each_kept i ws (suc n) h = rw (each_kept i ws n (λ k l. h k (omega arith)), h n (omega arith)) (put_word_kept (i + 4 * n))

  pub put_words_kept : (i n : ℕ) → put_words s i (words_at s i n) n ≡ s
  put_words_kept i n = each_kept i (words_at s i n) n (words_at_lem s n i)
