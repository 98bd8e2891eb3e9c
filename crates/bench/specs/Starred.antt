-- Document 01's starred bench values, in its order, AV of ADDS by 02, point 3, as statements about the definitions that the contracts cite.
use Rattle.std.specs.Prelude.{ℕ, ◌^◌, ◌<◌, ◌≡◌, true, false}
use Rattle.arithmetic.specs.Arithmetic.{add_of, adds_of, abs_of, mul_of}
use Rattle.bitwise.specs.Shift.{sha_of, sh_of}
use Rattle.bitwise.specs.Leading.{cls_of, clz_of}
use Rattle.compare.specs.Compare.{lt_of, ltu_of}
use Rattle.memory.specs.Address.{as_address}
use Rattle.areas.specs.Link.{area_address}
use Rattle.protection.specs.Range.{permits}
use Rattle.protection.specs.declared.range.Range.{Range}
use Rattle.protection.specs.declared.range.Right.TheVariants.{Read}
use Rattle.interrupts.specs.Sources.{takes}

-- "Integer results". The word that is -31 as a shift count is FFFFFFE1, and that for -32 is FFFFFFE0.
pub record IntegerValues : Type 0 where
  pub add : add_of 0x7FFF_FFFF 1 ≡ record { word = 0x8000_0000; v = true; av = true }
  pub adds : adds_of 0x8000_0000 0x8000_0000 ≡ record { word = 0x8000_0000; v = true; av = false }
  pub sha_word : (sha_of 0x8000_0000 0xFFFF_FFE1).word ≡ 0xFFFF_FFFF
  pub sha_carry : (sha_of 0x8000_0000 0xFFFF_FFE1).c ≡ false
  pub sh : (a : ℕ) → a < 2 ^ 32 → sh_of a 0xFFFF_FFE0 ≡ 0
  pub abs_word : (abs_of 0x8000_0000).word ≡ 0x8000_0000
  pub abs_overflow : (abs_of 0x8000_0000).v ≡ true
  pub mul_word : (mul_of 0x1_0000 0x1_0000).word ≡ 0
  pub mul_overflow : (mul_of 0x1_0000 0x1_0000).v ≡ true
  pub cls : cls_of 0 ≡ 31
  pub clz : clz_of 0 ≡ 32
  pub lt : lt_of 0xFFFF_FFFF 0 ≡ 1
  pub lt_u : ltu_of 0xFFFF_FFFF 0 ≡ 0

-- "Areas and lists"
pub record LinkValues : Type 0 where
  pub address : area_address (record { 0 = 0xD_0001 }) ≡ record { 0 = 0xD000_0040 }

-- a range from D0000100 to D0000200 that may be read
abbrev pub range : Range
range = record { lower = 0xD000_0100; upper = 0xD000_0200; mode = 0x40 }

-- "Traps"
pub record RangeValues : Type 0 where
  pub inside : permits range Read (as_address 0xD000_01FF) ≡ true
  pub outside : permits range Read (as_address 0xD000_0200) ≡ false

-- "Interrupt", with IE 1 and CCPN 5
pub record InterruptValues : Type 0 where
  pub waits : takes 0x105 5 ≡ false
  pub taken : takes 0x105 6 ≡ true

-- the table, a field for each section of document 01
pub record Starred : Type 0 where
  pub integer : IntegerValues
  pub links : LinkValues
  pub ranges : RangeValues
  pub interrupts : InterruptValues
