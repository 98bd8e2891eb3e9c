-- Records that are fetched one after the other without a trap.
use Rattle.std.specs.Prelude.{◌≡◌, ℕ, ◌+◌, ◌-◌, ◌*◌, ◌/◌, ◌<◌, ◌≤◌, min, Bool, true, false, cond, ◌&&◌, List, ◌==◌, nat_le, nat_lt, slice_index, slice_index_or, Err, None, Ok, Option, Result, Some}
use Rattle.memory.specs.Address.{as_address}
use Rattle.fields.specs.Psw.{psw_prs}
use Rattle.fields.specs.Syscon.{syscon_proten}
use Rattle.registers.specs.Core.{PC, PSW, SYSCON}
use Rattle.protection.specs.Range.{no_range, lowest_of}
use Rattle.protection.specs.declared.range.Range.{Range}
use Rattle.protection.specs.declared.range.Right.TheVariants.{Execute}
use Rattle.image.specs.Lengths.{address_after}
use Rattle.image.specs.Table.{entry_at}
use Rattle.image.specs.Records.{ImageHolds}
use Rattle.image.specs.Rest.{body_walk, rest_of, entry_of}
use Rattle.image.specs.Fetch.{instruction_at}
use Rattle.image.specs.Marks.{long_only, mark_entry, mark_index, slot_of, bias_of}
use Rattle.image.specs.declared.marks.Guide.{Guide}
use Rattle.image.specs.declared.fetch.InBody.{InBody}
use Rattle.decisions.specs.Beginning as beginning
use Rattle.decisions.specs.Beginning.{Executes, fetching_at}
use Rattle.spans.specs.declared.Span.{Span}
use Rattle.events.specs.declared.trap.Trap.{Trap}

-- how many records from pc on begin below an address, whatever their lengths: each is counted as a long one, of 4 addresses
abbrev pub records_below : ℕ → ℕ → ℕ
records_below upper pc = (upper - pc + 3) / 4

-- of `most` records from pc on those below the upper bound of the range named; where none is named, the first alone
abbrev pub fetchable_by : List Range → ℕ → ℕ → Option ℕ → ℕ
fetchable_by rs pc most (Some k) = min (records_below (slice_index_or rs k no_range).upper pc) most
fetchable_by rs pc most None = 1

-- of `most` records from pc on, of which the first passes the fetch's check, how many surely pass it: all where protection is off; otherwise as far as the lowest range that permits the first
unfoldable pub fetchable_of : List ℕ → List Range → ℕ → ℕ → ℕ
fetchable_of core rs pc most =
    cond (syscon_proten (slice_index core SYSCON)) (fetchable_by rs pc most (lowest_of rs (psw_prs (slice_index core PSW)) Execute (as_address pc))) most

-- the records from pc on, and the place of their body's entry: told only where the image is not known to have no short form
abbrev pub found_of : List ℕ → Bool → ℕ → InBody
found_of img long pc = record { rest = rest_of img pc; entry = cond long 0 (entry_of img pc) }

abbrev pub span : ℕ → ℕ → ℕ → ℕ → ℕ → ℕ → ℕ → Span
span from n at long entry first bias =
    record { from = from; records = n; at = at; end = at + 8 * n; long = long; entry = entry; first = first; bias = bias }

-- the first n of the records from pc on. In an image that is known to have no short form all count as long, and the body is not told. Otherwise none does, and the body is told: its entry, from 1, how many of its records come before the span, and what its marks stand by
abbrev pub span_of : List ℕ → Bool → ℕ → ℕ → Span
span_of img true pc n = span pc n (rest_of img pc).at n 0 0 0
span_of img false pc n =
    let e = entry_at img (entry_of img pc) in
    span pc n (rest_of img pc).at 0 (entry_of img pc + 1) (e.records - (rest_of img pc).records) (bias_of e)

-- where the record with index j of the span begins
abbrev pub begin : List ℕ → Span → ℕ → ℕ
begin img s j = address_after j img s.at s.from

-- a span of an accepted image: the first of the records from an address on
pub record IsSpan (img : List ℕ) (long : Bool) (s : Span) : Type 0 where
  pub image : ImageHolds img
  pub all_long : long ≡ true → long_only img ≡ true
  pub some : 0 < s.records
  pub most : s.records ≤ (rest_of img s.from).records
  pub is : s ≡ span_of img long s.from s.records

-- the index of the record that begins at pc, among the span's records from the one with index k on: they are walked as the fetch is defined. Past the span where none begins there
unfoldable pub index_on : List ℕ → Span → ℕ → ℕ → ℕ
index_on img s k pc = s.records - (body_walk (s.records - k) img (s.at + 8 * k) (begin img s k) pc).records

-- what it tells, in both directions: an index in the span is that of the record that begins at pc, and where one begins there, from the one with index k on, it is that one's
pub record IndexTells (img : List ℕ) (s : Span) (k pc r : ℕ) : Type 0 where
  pub begins : r < s.records → pc ≡ begin img s r
  pub only : (j : ℕ) → k ≤ j → j < s.records → pc ≡ begin img s j → r ≡ j

-- a mark names a record of the span
abbrev pub names_in : Span → ℕ → Bool
names_in s m = mark_entry m == s.entry && (nat_le s.first (mark_index m) && nat_lt (mark_index m) (s.first + s.records))

-- the same by the mark in the place for pc, from the record on that it names. Past the span where it names none of the span
unfoldable pub marked_index : List ℕ → ℕ → List ℕ → Span → ℕ → ℕ
marked_index img shift marks s pc =
    let m = slice_index_or marks (slot_of s.bias s.entry shift pc) 0 in
    cond (names_in s m) (index_on img s (mark_index m - s.first) pc) s.records

-- the record at byte `at` is one of the span, and ends at `next`
abbrev pub EndsAt : List ℕ → Span → ℕ → ℕ → Type 0
EndsAt img s at next = (k : ℕ) × (k < s.records) × (at ≡ s.at + 8 * k) × (next ≡ begin img s (k + 1))

-- the byte at which the record stands that begins at pc, after the one at byte `at`, which ends at `next`: the next one, or the one found by a mark. Past the span where no mark tells, and where all are long: these are found by their index
unfoldable pub place_after : List ℕ → Guide → List ℕ → Span → ℕ → ℕ → ℕ → ℕ
place_after img guide marks s at next pc =
    cond guide.long s.end (cond (pc == next) (at + 8) (s.at + 8 * marked_index img guide.shift marks s pc))

-- what lies at PC: the trap of the fetch, or the span of the records that surely pass its check
abbrev pub LiesAhead : List ℕ → Bool → List ℕ → List Range → Result Span Trap → Type 0
LiesAhead img long core rs (Err t) = fetching_at img core rs (slice_index core PC) ≡ beginning.Traps t
LiesAhead img long core rs (Ok s) =
    let pc = slice_index_or core PC 0 in
    (fetching_at img core rs pc ≡ Executes (instruction_at img s.at pc)) × (s ≡ span_of img long pc (fetchable_of core rs pc (rest_of img pc).records))
