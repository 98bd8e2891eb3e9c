-- What the functions answer, and what they leave of the core record and the windows. A record of another length than 616 is answered as such, with all as before.
use Rattle.std.specs.Prelude.{ℕ, ◌≡◌, Bool, cond, List, length, eqb, Err, Ok, Result}
use Rattle.memory.specs.Memory.{Memory}
use Rattle.registers.specs.Registers.{pc, fcx, pcxi}
use Rattle.registers.specs.declared.Registers.{Registers}
use Rattle.words.specs.Exactly.{Exactly, Tells}
use Rattle.inputs.specs.Checks.{start_verdict}
use Rattle.inputs.specs.Rules.{StepSays, StartSays}
use Rattle.machine.specs.Step.{verdict_in, StepOf, step_of}
use Rattle.machine.specs.Run.{RunOf, run_of}
use Rattle.records.specs.CoreRecord.{registers_in, requests_in, ranges_of, stored_in}
use Rattle.answers.specs.Answers.{permits_number, outcome_answer, wrong_length, verdict_answer}
use Rattle.events.specs.declared.event.Event.{Event}
use Rattle.machine.specs.declared.answer.Unmade.{Unmade}
use Rattle.machine.specs.declared.answer.Unmade.TheVariants.{Refused, Stopped}

-- the version of the host's interface
abbrev pub version : ℕ
version = 3

abbrev pub is_record : List ℕ → Bool
is_record bytes = eqb (length bytes) 616

-- ---- a start, with PC, FCX and PCXI of the record
abbrev pub start_on : Registers → Memory → List ℕ → ℕ
start_on r m img = verdict_answer (start_verdict m img (pc r) (fcx r) (pcxi r))

abbrev pub start_answer : List ℕ → Memory → List ℕ → ℕ
start_answer bytes m img = cond (is_record bytes) (start_on (registers_in bytes) m img) wrong_length

-- accepted or refused exactly where the seven rules say so
abbrev pub StartTells : List ℕ → Memory → List ℕ → ℕ → Type 0
StartTells bytes m img n = length bytes ≡ 616 → (let r = registers_in bytes in Tells verdict_answer (StartSays m img (pc r) (fcx r) (pcxi r)) n)

-- ---- a step or a run: its answer, and what it leaves of the record and the windows
pub record Called : Type 0 where
  pub answer : ℕ
  pub core : List ℕ
  pub memory : Memory

abbrev pub called : ℕ → List ℕ → Memory → Called
called n bytes m = record { answer = n; core = bytes; memory = m }

-- the record after a step: a refusal and a stop leave it as it was
abbrev pub step_stored : Result Event Unmade → Registers → List ℕ → List ℕ → List ℕ
step_stored (Ok e) r xs bytes = stored_in r xs bytes
step_stored (Err u) r xs bytes = bytes

-- and after a run, which stores what its last step made left
abbrev pub run_stored : Result Event Unmade → Registers → List ℕ → List ℕ → List ℕ
run_stored (Ok e) r xs bytes = stored_in r xs bytes
run_stored (Err (Stopped s)) r xs bytes = stored_in r xs bytes
run_stored (Err (Refused x)) r xs bytes = bytes

-- ---- a step of the machine in the record
abbrev pub step_on : List ℕ → Memory → List ℕ → StepOf
step_on bytes m img = step_of img (registers_in bytes) (requests_in bytes) (ranges_of bytes) m

-- the outcome, with the ranges that permitted its fetch and its data access
abbrev pub step_called : StepOf → List ℕ → Called
step_called s bytes = called (outcome_answer s.outcome (permits_number s.permits) 0) (step_stored s.outcome s.registers s.requests bytes) s.memory

abbrev pub step_call : List ℕ → Memory → List ℕ → Called
step_call bytes m img = cond (is_record bytes) (step_called (step_on bytes m img) bytes) (called wrong_length bytes m)

-- refused exactly where the rules 1, 13 and 2 to 4 say so, and else made or stopped
abbrev pub StepTells : List ℕ → Memory → List ℕ → Type 0
StepTells bytes m img = length bytes ≡ 616 → Exactly (StepSays m img (pc (registers_in bytes))) (verdict_in (step_on bytes m img).outcome)

-- the record then holds the registers after the step, for the next call to read
abbrev pub StepHolds : List ℕ → Memory → List ℕ → List ℕ → Type 0
StepHolds bytes m img after = length bytes ≡ 616 → registers_in after ≡ (step_on bytes m img).registers

-- ---- a run of n steps
abbrev pub run_on : ℕ → List ℕ → Memory → List ℕ → RunOf
run_on n bytes m img = run_of n img (registers_in bytes) (requests_in bytes) (ranges_of bytes) m

-- the last step's outcome, with the steps made
abbrev pub run_called : RunOf → List ℕ → Called
run_called v bytes = called (outcome_answer v.outcome 0 v.made) (run_stored v.outcome v.registers v.requests bytes) v.memory

abbrev pub run_call : ℕ → List ℕ → Memory → List ℕ → Called
run_call n bytes m img = cond (is_record bytes) (run_called (run_on n bytes m img) bytes) (called wrong_length bytes m)

-- refused exactly where the rules 1, 13 and 2 to 4 say so
abbrev pub RunTells : ℕ → List ℕ → Memory → List ℕ → Type 0
RunTells n bytes m img = length bytes ≡ 616 → Exactly (StepSays m img (pc (registers_in bytes))) (verdict_in (run_on n bytes m img).outcome)

-- the record then holds the registers after the run
abbrev pub RunHolds : ℕ → List ℕ → Memory → List ℕ → List ℕ → Type 0
RunHolds n bytes m img after = length bytes ≡ 616 → registers_in after ≡ (run_on n bytes m img).registers

-- where no step is made, record and windows are as they were, byte for byte
abbrev pub UnmadeKeeps : ℕ → List ℕ → Memory → List ℕ → List ℕ → Memory → Type 0
UnmadeKeeps n bytes m img after w = (run_on n bytes m img).made ≡ 0 → (after ≡ bytes) × (w ≡ m)
