-- What EQ to GE.U and MIN to MAX.U answer (002, 8.2, 8.1.1.6 and chapter 9).
use Rattle.std.specs.Prelude.{ℕ, ltb, eqb, Bool, not, cond}
use Rattle.std.specs.Int.Signed.{lt_z}
use Rattle.words.specs.Bits.{number}
use Rattle.words.specs.Value.{signed}

-- the one meaning of "equal" and "less", signed and unsigned: the conditional jumps have it too
abbrev pub equals : ℕ → ℕ → Bool
equals a b = eqb a b

unfoldable pub less_signed : ℕ → ℕ → Bool
less_signed a b = lt_z (signed a) (signed b)

abbrev pub less_unsigned : ℕ → ℕ → Bool
less_unsigned a b = ltb a b

-- EQ: D[c] = (D[a] == D[b])
abbrev pub eq_of : ℕ → ℕ → ℕ
eq_of a b = number (equals a b)

-- NE: D[c] = (D[a] != D[b])
abbrev pub ne_of : ℕ → ℕ → ℕ
ne_of a b = number (not (equals a b))

-- LT: D[c] = (D[a] < D[b]); signed
abbrev pub lt_of : ℕ → ℕ → ℕ
lt_of a b = number (less_signed a b)

-- LT.U: D[c] = (D[a] < D[b]); unsigned
abbrev pub ltu_of : ℕ → ℕ → ℕ
ltu_of a b = number (less_unsigned a b)

-- GE: D[c] = (D[a] >= D[b]); signed
abbrev pub ge_of : ℕ → ℕ → ℕ
ge_of a b = number (not (less_signed a b))

-- GE.U: D[c] = (D[a] >= D[b]); unsigned
abbrev pub geu_of : ℕ → ℕ → ℕ
geu_of a b = number (not (less_unsigned a b))

-- MIN: if (D[a] < D[b]) then D[c] = D[a] else D[c] = D[b]; signed
abbrev pub min_of : ℕ → ℕ → ℕ
min_of a b = cond (less_signed a b) a b

-- MIN.U: the same, unsigned
abbrev pub minu_of : ℕ → ℕ → ℕ
minu_of a b = cond (less_unsigned a b) a b

-- MAX: if (D[a] > D[b]) then D[c] = D[a] else D[c] = D[b]; signed
abbrev pub max_of : ℕ → ℕ → ℕ
max_of a b = cond (less_signed b a) a b

-- MAX.U: the same, unsigned
abbrev pub maxu_of : ℕ → ℕ → ℕ
maxu_of a b = cond (less_unsigned b a) a b
