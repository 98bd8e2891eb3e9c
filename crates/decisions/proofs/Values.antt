-- What the instructions read and compute are words.
-- Assumes nothing.
use Prim.Native.Nat.{ℕ, ◌+◌, ◌^◌, ◌<◌}
use native.Mathlib.Omega.{arith}
use mathlib.Core.Path.{◌≡◌, refl}
use mathlib.Core.Bool.{Bool, true, false, cond}
use mathlib.Core.List.{List}
use lib.ListN.{get_or}
use lib.Dec.{eqb, ltb}
use Rattle.memory.specs.Word.{word_at, half_at}
use Rattle.registers.specs.Registers.{second_of, plus_of, minus_of}
use Rattle.accesses.specs.Load.{extend_byte, extend_half, read_of}
use Rattle.operations.specs.declared.Load.{Load}
use Rattle.operations.specs.declared.Load.TheVariants.{LdB, LdBu, LdH, LdHu, LdW, LdA}
use Rattle.decisions.specs.Valid.{Words, Bytes}

-- a choice has what both of its cases have
pub either_has : {A : Type 0} (P : A → Type 0) (b : Bool) {x y : A} → P x → P y → P (cond b x y)
either_has P true p q = p
either_has P false p q = q

-- the same with the test known in each case
pub either_knows : {A : Type 0} (P : A → Type 0) (b : Bool) {x y : A} → (b ≡ true → P x) → (b ≡ false → P y) → P (cond b x y)
either_knows P true p q = p refl
either_knows P false p q = q refl

abbrev pub Word : ℕ → Type 0
Word v = v < 2 ^ 32

pub second_word : {n : ℕ} {xs : List ℕ} (b imm : ℕ) → Words n xs → Word imm → Word (second_of xs b imm)
unfolding second_of
second_word b imm w h = either_has Word (eqb b 16) h (w.each b)

pub plus_word : (x y : ℕ) → Word (plus_of x y)
unfolding plus_of
plus_word x y = omega arith

pub minus_word : (x y : ℕ) → Word (minus_of x y)
unfolding minus_of
minus_word x y = omega arith

module _ {s : List ℕ} (b : Bytes s) where
  pub word_word : (i : ℕ) → Word (word_at s i)
  unfolding word_at
  word_word i = omega (arith, b.each i, b.each (i + 1), b.each (i + 2), b.each (i + 3))

  half_word : (i : ℕ) → half_at s i < 2 ^ 16
  unfolding half_at
  half_word i = omega (arith, b.each i, b.each (i + 1))

  byte_extends : (i : ℕ) → Word (extend_byte (get_or s i 0))
  unfolding extend_byte
  byte_extends i = either_has Word (ltb (get_or s i 0) 0x80) (omega (arith, b.each i)) (omega (arith, b.each i))

  half_extends : (i : ℕ) → Word (extend_half (half_at s i))
  unfolding extend_half
  half_extends i = either_has Word (ltb (half_at s i) 0x8000) (omega (arith, half_word i)) (omega (arith, half_word i))

  pub read_word : (op : Load) (i : ℕ) → Word (read_of op s i)
  unfolding read_of
  read_word LdB i = byte_extends i
  read_word LdBu i = omega (arith, b.each i)
  read_word LdH i = half_extends i
  read_word LdHu i = omega (arith, half_word i)
  read_word LdW i = word_word i
  read_word LdA i = word_word i
