-- The checks, in document 01's order: rules 1, 13 and 2 to 4 for a step or a run, all seven for a start.
use Rattle.std.specs.Prelude.{ℕ, ◌+◌, ◌/◌, ◌%◌, ◌^◌, Bool, cond, ◌&&◌, ◌||◌, List, length, leb, eqb, Err, Ok, Result, ⊤}
use Rattle.memory.specs.Memory.{Memory, first_length, second_length}
use Rattle.memory.specs.declared.address.Address.{Address}
use Rattle.lists.specs.Walk.{lists_of}
use Rattle.image.specs.Records.{image_of}
use Rattle.inputs.specs.Verdict.{image_refusal, lists_refusal}
use Rattle.inputs.specs.declared.verdict.Refusal.TheVariants.{Window, Overlap, OddPc}
use Rattle.inputs.specs.declared.verdict.Refusal.{Refusal}
use Rattle.image.specs.declared.table.ImageFault.{ImageFault}
use Rattle.lists.specs.declared.ListFault.{ListFault}

-- the first rule at fault
abbrev pub and_then : Result ⊤ Refusal → Result ⊤ Refusal → Result ⊤ Refusal
and_then (Ok _) v = v
and_then (Err r) v = Err r

-- 1: base and length are multiples of 64, the length is 1 to 65,536, and the window lies within one segment below E
unfoldable pub window_holds : Address → ℕ → Bool
window_holds base len =
    eqb (base.0 % 64) 0 && eqb (len % 64) 0 && leb 1 len && leb len 0x1_0000 && leb (base.0 / 2 ^ 28) 13 && leb (base.0 % 2 ^ 28 + len) (2 ^ 28)

-- a second window without bytes passes
unfoldable pub second_holds : Address → ℕ → Bool
second_holds base len = eqb len 0 || window_holds base len

-- 13: the windows do not overlap. A second window without bytes passes
unfoldable pub apart_holds : Address → ℕ → Address → ℕ → Bool
apart_holds base len base2 len2 = eqb len2 0 || leb (base.0 + len) base2.0 || leb (base2.0 + len2) base.0

-- 1 is tried on each window in turn, then 13
unfoldable pub windows_verdict : Address → ℕ → Address → ℕ → Result ⊤ Refusal
windows_verdict base len base2 len2 =
    and_then (cond (window_holds base len) (Ok tt) (Err Window))
    (and_then (cond (second_holds base2 len2) (Ok tt) (Err Window)) (cond (apart_holds base len base2 len2) (Ok tt) (Err Overlap)))

-- of the windows of a memory
abbrev pub window_verdict : Memory → Result ⊤ Refusal
window_verdict m =
    let w = m.windows in
    let len = length m.bytes in
    windows_verdict w.first (first_length w len) w.second (second_length w len)

-- 2 and 3
abbrev pub image_said : Result ⊤ ImageFault → Result ⊤ Refusal
image_said (Ok _) = Ok tt
image_said (Err f) = Err (image_refusal f)

abbrev pub image_verdict : List ℕ → Result ⊤ Refusal
image_verdict img = image_said (image_of img)

-- 4
abbrev pub pc_verdict : ℕ → Result ⊤ Refusal
pc_verdict pc = cond (eqb (pc % 2) 0) (Ok tt) (Err OddPc)

-- 5 and 6, of windows that rules 1 and 13 accept
abbrev pub lists_said : Result ⊤ ListFault → Result ⊤ Refusal
lists_said (Ok _) = Ok tt
lists_said (Err f) = Err (lists_refusal f)

abbrev pub lists_verdict : Memory → ℕ → ℕ → Result ⊤ Refusal
lists_verdict m fcx pcxi = and_then (window_verdict m) (lists_said (lists_of m fcx pcxi))

-- what a step, or a run from a given state, is tried with
unfoldable pub step_verdict : Memory → List ℕ → ℕ → Result ⊤ Refusal
step_verdict m img pc = and_then (window_verdict m) (and_then (image_verdict img) (pc_verdict pc))

-- what a start is tried with
unfoldable pub start_verdict : Memory → List ℕ → ℕ → ℕ → ℕ → Result ⊤ Refusal
start_verdict m img pc fcx pcxi = and_then (step_verdict m img pc) (lists_said (lists_of m fcx pcxi))
