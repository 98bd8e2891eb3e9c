-- The core record: 154 little-endian words, 616 bytes. What is read from it, and what is written back.
use Rattle.std.specs.Prelude.{ℕ, List}
use Rattle.memory.specs.Word.{words_at, put_words}
use Rattle.registers.specs.Registers.{registers}
use Rattle.registers.specs.declared.Registers.{Registers}
use Rattle.protection.specs.Range.{ranges_in}
use Rattle.protection.specs.declared.range.Range.{Range}

-- D0 to D15, A0 to A15; PC, PSW, PCXI, FCX, LCX, ICR, ISP, BIV, BTV, SYSCON
unfoldable pub registers_in : List ℕ → Registers
registers_in bytes = registers (words_at bytes 0 16) (words_at bytes 64 16) (words_at bytes 128 10)

-- the request words of the 16 sources
unfoldable pub requests_in : List ℕ → List ℕ
requests_in bytes = words_at bytes 168 16

-- for set 0 to 3 its four data ranges, then its four code ranges: lower, upper, mode
unfoldable pub ranges_of : List ℕ → List Range
ranges_of bytes = ranges_in (words_at bytes 232 96)

-- the record with registers and request words written; the ranges stay
unfoldable pub stored_in : Registers → List ℕ → List ℕ → List ℕ
stored_in r xs bytes = put_words (put_words (put_words (put_words bytes 0 r.d 16) 64 r.a 16) 128 r.core 10) 168 xs 16
