-- Call depth counting (002, 7.1.1.5, 7.1.1.6 and 8.9.5): PSW.CDE, bit 7, and PSW.CDC, bits 6:0.
use Rattle.std.specs.Prelude.{ℕ, zero, suc, ◌+◌, ◌*◌, ◌/◌, ◌%◌, ◌^◌, eqb, ltb, Bool, cond, ◌&&◌}
use Rattle.fields.specs.Field.{is_set}

abbrev pub psw_cde : ℕ → Bool
psw_cde psw = is_set 7 psw

abbrev pub psw_cdc : ℕ → ℕ
psw_cdc psw = psw % 2 ^ 7

-- CDC is a mask of leading ones, a 0, and the counter: how many bits the counter has, where the mask is looked for in the low n bits
unfoldable pub counter_bits : ℕ → ℕ → ℕ
counter_bits zero cdc = 0
counter_bits (suc n) cdc = cond (is_set n cdc) (counter_bits n cdc) n

abbrev pub counter_of : ℕ → ℕ
counter_of cdc = cdc % 2 ^ counter_bits 7 cdc

-- CDE is 1, and CDC is below seven ones, which turn counting and its traps off
unfoldable pub counts : ℕ → Bool
counts psw = psw_cde psw && ltb (psw_cdc psw) 0x7F

-- going up from a count of all ones overflows, and with no counter bits
unfoldable pub overflows_up : ℕ → Bool
overflows_up psw = counts psw && eqb (counter_of (psw_cdc psw) + 1) (2 ^ counter_bits 7 (psw_cdc psw))

-- going down from 0 underflows, and with no counter bits
unfoldable pub underflows_down : ℕ → Bool
underflows_down psw = counts psw && eqb (counter_of (psw_cdc psw)) 0

-- the count is above 0
unfoldable pub nested : ℕ → Bool
nested psw = counts psw && ltb 0 (counter_of (psw_cdc psw))

-- a call: CDC goes up if it counts, CDE becomes 1
unfoldable pub called_of : ℕ → ℕ
called_of psw = psw / 2 ^ 8 * 2 ^ 8 + 2 ^ 7 + (psw_cdc psw + cond (counts psw) 1 0)
