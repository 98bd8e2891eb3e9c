-- A series of the host's calls, as demand 3 is about it.
use Rattle.std.specs.Prelude.{ℕ, ◌≡◌, cond, List, [], ◌∷◌, length, Ok}
use Rattle.memory.specs.Memory.{Memory}
use Rattle.series.specs.Calls.{Image, Kind, step, run, Call, State, state, after_all}
use Rattle.series.specs.Claim.{Follows}
use Rattle.records.specs.CoreRecord.{registers_in, requests_in, ranges_of}
use Rattle.answers.specs.Answers.{verdict_answer}
use Rattle.deqbaryn.specs.Host.{is_record, Called, step_call, run_call}

-- a call of deqbaryn_step or deqbaryn_run: the record and the image that the host lends, each a string of bytes
pub record HostCall : Type 0 where
  pub kind : Kind
  pub core : Image
  pub image : Image

-- the step or the run that it makes, with the requests and the ranges of the record
abbrev pub series_call : HostCall → Call
series_call h = record { kind = h.kind; image = h.image; requests = requests_in h.core.bytes; ranges = ranges_of h.core.bytes }

-- what it answers and leaves
abbrev pub called_by : Kind → HostCall → Memory → Called
called_by step h m = step_call h.core.bytes m h.image.bytes
called_by (run n) h m = run_call n h.core.bytes m h.image.bytes

-- the registers then are those in the record that it leaves. A record of another length has none: registers and windows are as they were
abbrev pub leaves : HostCall → State → State
leaves h s =
    let l = called_by h.kind h s.memory in
    state (cond (is_record h.core.bytes) (registers_in l.core) s.registers) l.memory

abbrev pub leaves_all : List HostCall → State → State
leaves_all [] s = s
leaves_all (h ∷ hs) s = leaves_all hs (leaves h s)

-- each record of 616 bytes has in it the registers that the calls before left; its requests and ranges are as the host sets them
abbrev pub HandedOn : List HostCall → State → Type 0
HandedOn [] s = Unit {0}
HandedOn (h ∷ hs) s = (length h.core.bytes ≡ 616 → registers_in h.core.bytes ≡ s.registers) × HandedOn hs (leaves h s)

-- the steps and runs of a series: one for each record of 616 bytes
abbrev pub calls_of : List HostCall → List Call
calls_of [] = []
calls_of (h ∷ hs) = cond (is_record h.core.bytes) (series_call h ∷ calls_of hs) (calls_of hs)

-- demand 3 of the host library: a series of its calls leaves what the series of steps and runs leaves, and that one follows the abstract lists
pub record HostFollows (s : State) : Type 0 where
  pub same : (hs : List HostCall) → HandedOn hs s → leaves_all hs s ≡ after_all (calls_of hs) s
  pub follows : Follows s

-- from a start that is accepted
abbrev pub AcceptedFollows : List ℕ → Memory → ℕ → Type 0
AcceptedFollows bytes m n = n ≡ verdict_answer (Ok tt) → HostFollows (state (registers_in bytes) m)
