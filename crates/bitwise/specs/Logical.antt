-- What AND to ORN answer, bit by bit (002, 8.1.1.8 and chapter 9).
use Rattle.std.specs.Prelude.{ℕ}
use Rattle.std.specs.Int.Bits.{bit_and, bit_or, bit_xor}
use Rattle.words.specs.Bits.{complement}

-- AND: D[c] = D[a] and D[b]
abbrev pub and_of : ℕ → ℕ → ℕ
and_of a b = bit_and a b

-- OR: D[c] = D[a] or D[b]
abbrev pub or_of : ℕ → ℕ → ℕ
or_of a b = bit_or a b

-- XOR: D[c] = D[a] xor D[b]
abbrev pub xor_of : ℕ → ℕ → ℕ
xor_of a b = bit_xor a b

-- NAND: D[c] = !(D[a] and D[b])
abbrev pub nand_of : ℕ → ℕ → ℕ
nand_of a b = complement (bit_and a b)

-- NOR: D[c] = !(D[a] or D[b])
abbrev pub nor_of : ℕ → ℕ → ℕ
nor_of a b = complement (bit_or a b)

-- XNOR: D[c] = !(D[a] xor D[b])
abbrev pub xnor_of : ℕ → ℕ → ℕ
xnor_of a b = complement (bit_xor a b)

-- ANDN: D[c] = D[a] and !D[b]
abbrev pub andn_of : ℕ → ℕ → ℕ
andn_of a b = bit_and a (complement b)

-- ORN: D[c] = D[a] or !D[b]
abbrev pub orn_of : ℕ → ℕ → ℕ
orn_of a b = bit_or a (complement b)
