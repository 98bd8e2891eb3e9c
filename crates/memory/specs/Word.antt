-- Bytes are a list of numbers. A word is four of them, the lowest first.
use Rattle.std.specs.Prelude.{ℕ, zero, suc, ◌+◌, ◌*◌, ◌/◌, ◌%◌, List, [], ◌∷◌, get_or, set}

-- the word at byte i
unfoldable pub word_at : List ℕ → ℕ → ℕ
word_at s i = get_or s i 0 + 0x100 * get_or s (i + 1) 0 + 0x1_0000 * get_or s (i + 2) 0 + 0x100_0000 * get_or s (i + 3) 0

-- the halfword at byte i
unfoldable pub half_at : List ℕ → ℕ → ℕ
half_at s i = get_or s i 0 + 0x100 * get_or s (i + 1) 0

-- the n words from byte i on
unfoldable pub words_at : List ℕ → ℕ → ℕ → List ℕ
words_at s i zero = []
words_at s i (suc n) = word_at s i ∷ words_at s (i + 4) n

-- the bytes with the low byte of w at byte i
unfoldable pub put_byte : List ℕ → ℕ → ℕ → List ℕ
put_byte s i w = set s i (w % 0x100)

-- the bytes with the low halfword of w at byte i
unfoldable pub put_half : List ℕ → ℕ → ℕ → List ℕ
put_half s i w = set (set s i (w % 0x100)) (i + 1) (w / 0x100 % 0x100)

-- the bytes with the word w at byte i
unfoldable pub put_word : List ℕ → ℕ → ℕ → List ℕ
put_word s i w =
    set (set (set (set s i (w % 0x100)) (i + 1) (w / 0x100 % 0x100)) (i + 2) (w / 0x1_0000 % 0x100)) (i + 3) (w / 0x100_0000)

-- the bytes with the first n words of ws written from byte i on, upward
unfoldable pub put_words : List ℕ → ℕ → List ℕ → ℕ → List ℕ
put_words s i ws zero = s
put_words s i ws (suc n) = put_word (put_words s i ws n) (i + 4 * n) (get_or ws n 0)
