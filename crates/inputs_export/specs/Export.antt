-- Verdicts and fetched records as numbers.
use Rattle.std.specs.Prelude.{◌≡◌, ℕ, ◌+◌, ◌*◌, ◌^◌, List, Err, None, Ok, Option, Result, Some, ⊤}
use Rattle.image.specs.Records.{image_of}
use Rattle.image.specs.Rules.{ImageRight}
use Rattle.image.specs.Rest.{far_of}
use Rattle.image.specs.Fetch.{fetch_of, FetchSays}
use Rattle.inputs.specs.Verdict.{number_of, fault_of}
use Rattle.inputs.specs.declared.verdict.Refusal.{Refusal}
use Rattle.image.specs.declared.fetch.Instruction.{Instruction}
use Rattle.image.specs.declared.table.ImageFault.{ImageFault}

-- 0 for accepted; else the rule's number, with its place in the high word
abbrev pub verdict_of : Result ⊤ Refusal → ℕ
verdict_of (Ok _) = 0
verdict_of (Err r) = fault_of r * 2 ^ 32 + number_of r

-- of a record at pc how many addresses it covers, c, a, b from the lowest byte on, and the immediate in the high word
abbrev pub packed_fetch : ℕ → Option Instruction → ℕ
packed_fetch pc None = 0
packed_fetch pc (Some i) = i.imm * 2 ^ 32 + i.b * 2 ^ 24 + i.a * 2 ^ 16 + i.c * 2 ^ 8 + far_of pc i.next

abbrev pub fetched_of : List ℕ → ℕ → ℕ
fetched_of img pc = packed_fetch pc (fetch_of img pc)

-- the number of the record that begins at pc, or of none where none does
pub record FetchTells (img : List ℕ) (pc n : ℕ) : Type 0 where
  pub fetched : Option Instruction
  pub number : n ≡ packed_fetch pc fetched
  pub says : FetchSays img pc fetched

-- of an image that rules 2 and 3 accept; of any other 0
pub record FetchTold (img : List ℕ) (pc n : ℕ) : Type 0 where
  pub right : ImageRight img → FetchTells img pc n
  pub refused : (ImageRight img → ⊥) → n ≡ 0

abbrev pub fetched_by : Result ⊤ ImageFault → List ℕ → ℕ → ℕ
fetched_by (Ok _) img pc = fetched_of img pc
fetched_by (Err f) img pc = 0

-- 0 of an image that is refused, too
abbrev pub exported_fetch : List ℕ → ℕ → ℕ
exported_fetch img pc = fetched_by (image_of img) img pc
