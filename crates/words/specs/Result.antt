-- An exact result written to a word, with V and AV (002, Table 8).
use Rattle.std.specs.Prelude.{ℕ, Bool, not, ℤ, ◌==◌}
use Rattle.words.specs.Bits.{bit}
use Rattle.words.specs.Value.{low, within, clamp, least, largest}
use Rattle.words.specs.declared.result.Flagged.{Flagged}
use Rattle.words.specs.declared.result.Carried.{Carried}

-- AV of a word: bit 31 differs from bit 30
unfoldable pub advance : ℕ → Bool
unfolding bit
advance w = not (bit 31 w == bit 30 w)

-- a signed result: the low 32 bits are written. V: it is no signed word. AV: of the word written
unfoldable pub wrapped_of : ℤ → Flagged
wrapped_of z = record { word = low z; v = not (within least largest z); av = advance (low z) }

-- the same with a carry
unfoldable pub carried_of : Bool → ℤ → Carried
carried_of c z = record { word = low z; c = c; v = not (within least largest z); av = advance (low z) }

-- a result with saturation: from lo to hi it is written, and else the end that it lies past. V: it lies past one. AV: of the unsaturated low word (02, point 3)
unfoldable pub saturated_of : ℤ → ℤ → ℤ → Flagged
saturated_of lo hi z = record { word = low (clamp lo hi z); v = not (within lo hi z); av = advance (low z) }
