-- What a span of an accepted image is: where it lies, and what is fetched in it.
-- Assumes nothing.
use Rattle.std.proofs.Common.{◌≡◌, ℕ, ◌+◌, ◌*◌, ◌<◌, ◌≤◌, Bool, true, false, cond, List, length}
use Rattle.protection.specs.declared.range.Range.{Range}
use Rattle.image.specs.Table.{entry_at}
use Rattle.image.specs.Rest.{Begins}
use Rattle.image.specs.Fetch.{instruction_at, FieldsHold}
use Rattle.decisions.specs.Beginning.{Executes, fetching_at}
use Rattle.spans.specs.Spans.{begin, IsSpan}
use Rattle.spans.specs.declared.Span.{Span}

-- the span's first record in its body: of the entry with that number, from 1, the record with index `first`
pub record LiesInBody (img : List ℕ) (s : Span) : Type 0 where
  pub entry : ℕ
  pub is : s.entry ≡ entry + 1
  pub begins : Begins img s.from entry s.first
  pub few : s.first < 0x1_0000
  pub place : s.at ≡ (entry_at img entry).offset + 8 * s.first

-- a span lies in the image, and below E0000000. Where it is known to have no short form, its records are counted as long ones, and begin at each fourth address; otherwise none is, and it is known where in its body it lies
pub record Lies (img : List ℕ) (long : Bool) (s : Span) : Type 0 where
  pub most : s.records ≤ 0x1_0000
  pub below : begin img s s.records ≤ 0xE000_0000
  pub inside : s.at + 8 * s.records ≤ length img
  pub ends : s.end ≡ s.at + 8 * s.records
  pub counted : s.long ≡ cond long s.records 0
  pub each : long ≡ true → (j : ℕ) → j ≤ s.records → begin img s j ≡ s.from + 4 * j
  pub body : long ≡ false → LiesInBody img s

-- each record of the span is fetched at its address
pub record SpanHolds (img : List ℕ) (long : Bool) (core : List ℕ) (rs : List Range) (s : Span) : Type 0 where
  pub fetched : (j : ℕ) → j < s.records → fetching_at img core rs (begin img s j) ≡ Executes (instruction_at img (s.at + 8 * j) (begin img s j))
  pub fields : (j : ℕ) → j < s.records → (q : ℕ) → FieldsHold (instruction_at img (s.at + 8 * j) q)
  pub lies : Lies img long s
  pub spans : IsSpan img long s

-- an index in the span is that of the record that begins at pc
abbrev pub IndexIn : List ℕ → Span → ℕ → ℕ → Type 0
IndexIn img s pc k = k < s.records → pc ≡ begin img s k

-- a byte in the span is that at which the record stands that begins at pc
abbrev pub PlaceIn : List ℕ → Span → ℕ → ℕ → Type 0
PlaceIn img s pc at = at < s.end → (k : ℕ) × (k < s.records) × (at ≡ s.at + 8 * k) × (pc ≡ begin img s k)
