-- The protection ranges (002, 3.8, Figures 28 and 29, and 7.1.2).
use Rattle.std.specs.Prelude.{ℕ, zero, suc, ◌+◌, ◌*◌, ◌≤◌, ◌<◌, ◌≡◌, Bool, true, false, cond, ◌&&◌, ◌||◌, List, [], ◌∷◌, get_or, ltb, leb, None, Option, Some}
use Rattle.fields.specs.Field.{is_set}
use Rattle.memory.specs.declared.address.Address.{Address}
use Rattle.protection.specs.declared.range.Range.{Range}
use Rattle.protection.specs.declared.range.Right.{Right}
use Rattle.protection.specs.declared.range.Right.TheVariants.{Read, Write, Execute}

-- range k of 96 words, three to a range
abbrev pub range_at : List ℕ → ℕ → Range
range_at ws k = record { lower = get_or ws (3 * k) 0; upper = get_or ws (3 * k + 1) 0; mode = get_or ws (3 * k + 2) 0 }

-- n ranges from range k on
abbrev pub ranges_from : ℕ → ℕ → List ℕ → List Range
ranges_from zero k ws = []
ranges_from (suc n) k ws = range_at ws k ∷ ranges_from n (k + 1) ws

-- the 32 ranges that the words hold
unfoldable pub ranges_in : List ℕ → List Range
ranges_in ws = ranges_from 32 0 ws

abbrev pub no_range : Range
no_range = record { lower = 0; upper = 0; mode = 0 }

-- the enable bit of a right in a range's mode: RE 6 and WE 7 of a data range, XE 7 of a code range
unfoldable pub enables : ℕ → Right → Bool
enables mode Read = is_set 6 mode
enables mode Write = is_set 7 mode
enables mode Execute = is_set 7 mode

-- lower bound ≤ address < upper bound, with the right
unfoldable pub permits : Range → Right → Address → Bool
permits g right address = leb g.lower address.0 && ltb address.0 g.upper && enables g.mode right

-- the number of a set's first range: its four data ranges, then its four code ranges
unfoldable pub first_of : ℕ → Right → ℕ
first_of set Read = 8 * set
first_of set Write = 8 * set
first_of set Execute = 8 * set + 4

-- range k permits the access
abbrev pub permits_at : List Range → ℕ → Right → Address → Bool
permits_at rs k right address = permits (get_or rs k no_range) right address

-- one of n ranges from range k on permits it
unfoldable pub any_from : ℕ → ℕ → List Range → Right → Address → Bool
any_from zero k rs right address = false
any_from (suc n) k rs right address = permits_at rs k right address || any_from n (k + 1) rs right address

-- one of the set's four ranges permits it
abbrev pub permitted : List Range → ℕ → Right → Address → Bool
permitted rs set right address = any_from 4 (first_of set right) rs right address

-- the first of n ranges from range k on that permits it, by its number
unfoldable pub lowest_from : ℕ → ℕ → List Range → Right → Address → Option ℕ
lowest_from zero k rs right address = None
lowest_from (suc n) k rs right address = cond (permits_at rs k right address) (Some k) (lowest_from n (k + 1) rs right address)

-- of the set's four ranges the lowest that permits it (02, point 2)
abbrev pub lowest_of : List Range → ℕ → Right → Address → Option ℕ
lowest_of rs set right address = lowest_from 4 (first_of set right) rs right address

-- range k is of the set, and permits the access
pub record PermittedBy (rs : List Range) (set : ℕ) (right : Right) (address : Address) (k : ℕ) : Type 0 where
  pub from : first_of set right ≤ k
  pub to : k < first_of set right + 4
  pub permits_it : permits_at rs k right address ≡ true

-- the lowest permitting range: one of the set that permits the access, and none before it does
pub record LowestBy (rs : List Range) (set : ℕ) (right : Right) (address : Address) (k : ℕ) : Type 0 where
  pub one : PermittedBy rs set right address k
  pub none_before : (j : ℕ) → first_of set right ≤ j → j < k → permits_at rs j right address ≡ false

-- what is named: the lowest permitting range, and no range where none of the four permits
abbrev pub Lowest : List Range → ℕ → Right → Address → Option ℕ → Type 0
Lowest rs set right address (Some k) = LowestBy rs set right address k
Lowest rs set right address None = permitted rs set right address ≡ false
