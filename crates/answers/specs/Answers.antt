-- The answers as numbers.
use Rattle.std.specs.Prelude.{ℕ, ◌+◌, ◌*◌, ◌%◌, ◌^◌, Err, None, Ok, Option, Result, Some, ⊤}
use Rattle.events.specs.Events.{stop_number}
use Rattle.events.specs.declared.event.Event.{Event}
use Rattle.events.specs.declared.event.Event.TheVariants as event
use Rattle.inputs.specs.Verdict.{number_of, fault_of}
use Rattle.inputs.specs.declared.verdict.Refusal.{Refusal}
use Rattle.permits.specs.declared.Permits.{Permits}
use Rattle.machine.specs.declared.answer.Unmade.{Unmade}
use Rattle.machine.specs.declared.answer.Unmade.TheVariants.{Refused, Stopped}

-- bits 7:0 the kind, 15:8 the number, 23:16 the TIN, 31:24 the permitting ranges, 63:32 the high word
unfoldable pub packed_of : ℕ → ℕ → ℕ → ℕ → ℕ → ℕ
packed_of kind number tin permits high = kind + number * 2 ^ 8 + tin * 2 ^ 16 + permits * 2 ^ 24 + high * 2 ^ 32

-- 0 where no range is named, else 4 and the range's number among the four of set PRS
abbrev pub permit_number : Option ℕ → ℕ
permit_number None = 0
permit_number (Some k) = 4 + k % 4

-- bits 26:24 for the fetch, 29:27 for the data access
abbrev pub permits_number : Permits → ℕ
permits_number p = permit_number p.fetch + permit_number p.access * 2 ^ 3

-- 0 an instruction, 1 an interrupt with its source, 2 a trap with class and TIN
abbrev pub event_answer : Event → ℕ → ℕ → ℕ
event_answer event.Instruction permits made = packed_of 0 0 0 permits made
event_answer (event.Interrupt source) permits made = packed_of 1 source 0 permits made
event_answer (event.Trap t) permits made = packed_of 2 t.class t.tin permits made

-- 4 a refusal, with its number and its place
abbrev pub refusal_answer : Refusal → ℕ → ℕ
refusal_answer x permits = packed_of 4 (number_of x) 0 permits (fault_of x)

-- 3 a stop, with its number; or a refusal
abbrev pub unmade_answer : Unmade → ℕ → ℕ → ℕ
unmade_answer (Stopped s) permits made = packed_of 3 (stop_number s) 0 permits made
unmade_answer (Refused x) permits made = refusal_answer x permits

-- of a step or a run that has made so many steps
abbrev pub outcome_answer : Result Event Unmade → ℕ → ℕ → ℕ
outcome_answer (Ok e) permits made = event_answer e permits made
outcome_answer (Err u) permits made = unmade_answer u permits made

-- 5 a record of a wrong length
abbrev pub wrong_length : ℕ
wrong_length = packed_of 5 0 0 0 0

-- 6 a start that is accepted
abbrev pub verdict_answer : Result ⊤ Refusal → ℕ
verdict_answer (Ok _) = packed_of 6 0 0 0 0
verdict_answer (Err x) = refusal_answer x 0
