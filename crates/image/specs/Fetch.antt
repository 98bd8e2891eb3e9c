-- The record that begins at a PC.
use Rattle.std.specs.Prelude.{◌≡◌, ℕ, ◌+◌, ◌*◌, ◌%◌, ◌^◌, ◌<◌, ◌≤◌, true, cond, List, ◌==◌, slice_index, None, Option, Some}
use Rattle.memory.specs.Word.{word_at}
use Rattle.operations.specs.Operations.{operation_of, compares}
use Rattle.operations.specs.Forms.{operation_number}
use Rattle.image.specs.Lengths.{length_at}
use Rattle.image.specs.Table.{entry_at}
use Rattle.image.specs.Rest.{rest_of, Begins}
use Rattle.image.specs.declared.fetch.Instruction.{Instruction}
use Rattle.image.specs.declared.fetch.Rest.{Rest}

-- the address after the record at byte `at`, which begins at pc: its own length on
abbrev pub next_after : List ℕ → ℕ → ℕ → ℕ
next_after img at pc = (pc + length_at img at) % 2 ^ 32

-- operation, c, a, b, immediate word, and the address of the next instruction
unfoldable pub instruction_at : List ℕ → ℕ → ℕ → Instruction
instruction_at img at pc =
    record {
      op = operation_of (operation_number (slice_index img at));
      c = slice_index img (at + 1);
      a = slice_index img (at + 2);
      b = slice_index img (at + 3);
      imm = word_at img (at + 4);
      next = next_after img at pc;
    }

-- the first of the records from pc on, if there is one
abbrev pub fetch_by : List ℕ → ℕ → Rest → Option Instruction
fetch_by img pc r = cond (r.records == 0) None (Some (instruction_at img r.at pc))

unfoldable pub fetch_of : List ℕ → ℕ → Option Instruction
fetch_of img pc = fetch_by img pc (rest_of img pc)

-- a record's fields are in their bounds: what rule 3 says of them
abbrev pub FieldsHold : Instruction → Type 0
FieldsHold i = (i.c < 16) × (i.a < 16) × (i.b ≤ 16) × (compares i.op ≡ true → i.b < 16)

abbrev pub Bounded : Option Instruction → Type 0
Bounded (Some i) = FieldsHold i
Bounded None = Unit {0}

-- what is fetched is the record that begins at pc, and nothing is where none does
abbrev pub FetchSays : List ℕ → ℕ → Option Instruction → Type 0
FetchSays img pc (Some r) = (i : ℕ) × (j : ℕ) × Begins img pc i j × (r ≡ instruction_at img ((entry_at img i).offset + 8 * j) pc)
FetchSays img pc None = (i j : ℕ) → Begins img pc i j → ⊥
