-- What ADD to MUL, ABS and ABSDIF answer, by the exact result (002, 8.1 and chapter 9). a is D[a], b the second operand, c the carry PSW.C.
use Rattle.std.specs.Prelude.{ℕ, ◌+◌, pos, nat_abs, ◌+ℤ◌, ◌-ℤ◌, ◌*ℤ◌, leb, Bool}
use Rattle.words.specs.Bits.{number}
use Rattle.words.specs.Value.{signed, least, largest, largest_unsigned}
use Rattle.words.specs.Result.{wrapped_of, carried_of, saturated_of}
use Rattle.words.specs.declared.result.Flagged.{Flagged}
use Rattle.words.specs.declared.result.Carried.{Carried}

-- ADD: D[c] = D[a] + D[b]
unfoldable pub add_of : ℕ → ℕ → Flagged
add_of a b = wrapped_of (signed a +ℤ signed b)

-- SUB: D[c] = D[a] - D[b]
unfoldable pub sub_of : ℕ → ℕ → Flagged
sub_of a b = wrapped_of (signed a -ℤ signed b)

-- RSUB: D[c] = const9 - D[a], the second operand minus the first
unfoldable pub rsub_of : ℕ → ℕ → Flagged
rsub_of a b = wrapped_of (signed b -ℤ signed a)

-- ADDX: D[c] = D[a] + D[b]; PSW.C = carry out of bit 31
unfoldable pub addx_of : ℕ → ℕ → Carried
addx_of a b = carried_of (leb 0x1_0000_0000 (a + b)) (signed a +ℤ signed b)

-- ADDC: D[c] = D[a] + D[b] + PSW.C; PSW.C = carry out of bit 31
unfoldable pub addc_of : ℕ → ℕ → Bool → Carried
addc_of a b c = carried_of (leb 0x1_0000_0000 (a + b + number c)) (signed a +ℤ signed b +ℤ pos (number c))

-- SUBX: D[c] = D[a] - D[b]; PSW.C = 1 when there is no borrow
unfoldable pub subx_of : ℕ → ℕ → Carried
subx_of a b = carried_of (leb b a) (signed a -ℤ signed b)

-- SUBC: D[c] = D[a] - D[b] - 1 + PSW.C; PSW.C = 1 when there is no borrow
unfoldable pub subc_of : ℕ → ℕ → Bool → Carried
subc_of a b c = carried_of (leb (b + 1) (a + number c)) (signed a -ℤ signed b -ℤ pos 1 +ℤ pos (number c))

-- ADDS: D[c] = D[a] + D[b]; signed; ssov
unfoldable pub adds_of : ℕ → ℕ → Flagged
adds_of a b = saturated_of least largest (signed a +ℤ signed b)

-- ADDS.U: D[c] = D[a] + D[b]; unsigned; suov
unfoldable pub addsu_of : ℕ → ℕ → Flagged
addsu_of a b = saturated_of (pos 0) largest_unsigned (pos a +ℤ pos b)

-- SUBS: D[c] = D[a] - D[b]; signed; ssov
unfoldable pub subs_of : ℕ → ℕ → Flagged
subs_of a b = saturated_of least largest (signed a -ℤ signed b)

-- SUBS.U: D[c] = D[a] - D[b]; unsigned; suov
unfoldable pub subsu_of : ℕ → ℕ → Flagged
subsu_of a b = saturated_of (pos 0) largest_unsigned (pos a -ℤ pos b)

-- MUL: D[c] = D[a] * D[b]
unfoldable pub mul_of : ℕ → ℕ → Flagged
mul_of a b = wrapped_of (signed a *ℤ signed b)

-- ABS: D[c] = |D[a]|; signed
unfoldable pub abs_of : ℕ → Flagged
abs_of a = wrapped_of (pos (nat_abs (signed a)))

-- ABSDIF: D[c] = |D[a] - D[b]|; signed
unfoldable pub absdif_of : ℕ → ℕ → Flagged
absdif_of a b = wrapped_of (pos (nat_abs (signed a -ℤ signed b)))
