-- The records of a body from a PC on.
use Rattle.std.specs.Prelude.{◌≡◌, ℕ, zero, suc, ◌+◌, ◌-◌, ◌*◌, ◌/◌, ◌%◌, ◌^◌, ◌<◌, ◌≤◌, cond, List, ◌==◌}
use Rattle.image.specs.Lengths.{length_at, address_after}
use Rattle.image.specs.Table.{entries_of, entry_at}
use Rattle.image.specs.declared.table.Entry.{Entry}
use Rattle.image.specs.declared.fetch.Rest.{Rest}

abbrev pub rest : ℕ → ℕ → Rest
rest n at = record { records = n; at = at }

-- n records from the one at byte `at` on, which begins at `from`: walked, each by its own length, to the one that begins at pc
unfoldable pub body_walk : ℕ → List ℕ → ℕ → ℕ → ℕ → Rest
body_walk zero img at from pc = rest 0 0
body_walk (suc n) img at from pc = cond (from == pc) (rest (suc n) at) (body_walk n img (at + 8) (from + length_at img at) pc)

-- of the entry's body, from the record at pc on
abbrev pub rest_in : List ℕ → Entry → ℕ → Rest
rest_in img e pc = body_walk e.records img e.offset e.load pc

-- k entries from place i on; none where no record begins at pc
unfoldable pub rest_from : ℕ → List ℕ → ℕ → ℕ → Rest
rest_from zero img i pc = rest 0 0
rest_from (suc k) img i pc = let r = rest_in img (entry_at img i) pc in cond (r.records == 0) (rest_from k img (i + 1) pc) r

unfoldable pub rest_of : List ℕ → ℕ → Rest
rest_of img pc = rest_from (entries_of img) img 0 pc

-- the place of the entry whose body they are in: of k entries from place i on; 0 where no record begins at pc
unfoldable pub entry_from : ℕ → List ℕ → ℕ → ℕ → ℕ
entry_from zero img i pc = 0
entry_from (suc k) img i pc = cond ((rest_in img (entry_at img i) pc).records == 0) (entry_from k img (i + 1) pc) i

unfoldable pub entry_of : List ℕ → ℕ → ℕ
entry_of img pc = entry_from (entries_of img) img 0 pc

-- the distance of pc from an address, modulo 2^32
abbrev pub far_of : ℕ → ℕ → ℕ
far_of from pc = (pc + (2 ^ 32 - from)) % 2 ^ 32

-- that distance in records of 4 addresses; its two low bits count highest, so that a pc within a record, or below the address, is past every body
unfoldable pub index_of : ℕ → ℕ → ℕ
index_of from pc = far_of from pc / 4 + far_of from pc % 4 * 2 ^ 30

-- of n records of 4 addresses from an address on, one that the index counts begins at pc
abbrev pub IndexSays : ℕ → ℕ → ℕ → Type 0
IndexSays from pc k = (n : ℕ) → n ≤ 2 ^ 30 → from + 4 * n ≤ 2 ^ 32 → k < n → pc ≡ from + 4 * k

-- where the record with index j of the body of entry i begins, both from 0
abbrev pub record_address : List ℕ → ℕ → ℕ → ℕ
record_address img i j = address_after j img (entry_at img i).offset (entry_at img i).load

-- it begins at pc
abbrev pub Begins : List ℕ → ℕ → ℕ → ℕ → Type 0
Begins img pc i j = (i < entries_of img) × (j < (entry_at img i).records) × (pc ≡ record_address img i j)
