-- Hexadecimal digits in ASCII: '0' is 48 and 'A' is 65.
use Rattle.std.specs.Prelude.{ℕ, ◌+◌, ◌-◌, ◌/◌, ◌%◌, ◌^◌, ltb, cond, List, [], ◌∷◌}

-- the lowest digit of n
unfoldable pub glyph_of : ℕ → ℕ
glyph_of n = cond (ltb (n % 16) 10) (48 + n % 16) (65 + (n % 16 - 10))

-- the eight digits of a word, highest first
unfoldable pub hex_of : ℕ → List ℕ
hex_of w =
    glyph_of (w / 2 ^ 28) ∷ glyph_of (w / 2 ^ 24) ∷ glyph_of (w / 2 ^ 20) ∷ glyph_of (w / 2 ^ 16) ∷ glyph_of (w / 2 ^ 12) ∷ glyph_of (w / 2 ^ 8) ∷ glyph_of (w / 2 ^ 4) ∷ glyph_of w ∷ []
