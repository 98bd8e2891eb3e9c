-- The index of a record from an address on.
-- Assumes nothing.
use Rattle.std.proofs.Common.{◌≡◌, ℕ, ◌+◌, ◌-◌, ◌*◌, ◌/◌, ◌%◌, ◌^◌, ◌<◌, ◌≤◌, lt_of_not-le, arith}
use native.Mathlib.Decide.{dec_le}
use Rattle.image.specs.Rest.{far_of, index_of}

-- an index below 2^30 is a distance that is a multiple of 4
small : (far n : ℕ) → n ≤ 2 ^ 30 → far / 4 + far % 4 * 2 ^ 30 < n → (far % 4 ≡ 0) × (far / 4 < n)
small far n m h = (omega arith, omega arith)

above : (from pc : ℕ) → pc < 2 ^ 32 → from ≤ pc → far_of from pc ≡ pc - from
above from pc p h = omega arith

under : (from pc : ℕ) → from < 2 ^ 32 → pc < from → far_of from pc ≡ pc + 2 ^ 32 - from
under from pc f h = omega arith

reaches : (from pc far n : ℕ) → from ≤ pc → far ≡ pc - from → far % 4 ≡ 0 → pc ≡ from + 4 * (far / 4 + far % 4 * 2 ^ 30)
reaches from pc far n h e a = omega arith

-- a record that is so many after the one at an address begins there
pub index_in : (from pc n : ℕ) → from < 2 ^ 32 → pc < 2 ^ 32 → n ≤ 2 ^ 30 → from + 4 * n ≤ 2 ^ 32 → index_of from pc < n → pc ≡ from + 4 * index_of from pc
unfolding index_of
index_in from pc n f p m b h = by (dec_le from pc)
  where
    s : (far_of from pc % 4 ≡ 0) × (far_of from pc / 4 < n)
    s = small (far_of from pc) n m h

    wraps : (far : ℕ) → far ≡ pc + 2 ^ 32 - from → far / 4 < n → ⊥
    wraps far e l = omega arith

    by : Dec (from ≤ pc) → pc ≡ from + 4 * (far_of from pc / 4 + far_of from pc % 4 * 2 ^ 30)
    by (yes l) = reaches from pc (far_of from pc) n l (above from pc p l) s.0
    by (no l) = absurd (wraps (far_of from pc) (under from pc f (lt_of_not-le l)) s.1)

-- the index of a record that is so many after the one at an address
pub index_is : (from j : ℕ) → from + 4 * j < 2 ^ 32 → index_of from (from + 4 * j) ≡ j
unfolding index_of
index_is from j h = rw (above from (from + 4 * j) h (omega arith)) (omega arith)
