-- A run step by step: a step made, a stop, the end.
-- Assumes nothing.
use Rattle.std.proofs.Common.{◌≡◌, ℕ, zero, suc, ◌+◌, ◌%◌, ◌<◌, false, List, length, sym, refl, ◌∙◌, subst, arith}
use Rattle.memory.specs.Memory.{Memory}
use Rattle.fields.specs.Icr.{icr_ie}
use Rattle.registers.specs.Registers.{pc, icr}
use Rattle.registers.specs.declared.Registers.{Registers}
use Rattle.events.specs.declared.event.Event.{Event}
use Rattle.events.specs.declared.event.Stop.{Stop}
use Rattle.protection.specs.declared.range.Range.{Range}
use Rattle.interrupts.specs.Sources.{takes}
use Rattle.entries.specs.Entry.{MadeOf}
use Rattle.image.specs.Records.{image_of, ImageHolds}
use Rattle.inputs.specs.Checks.{window_verdict, image_said, image_verdict, pc_verdict, and_then, step_verdict}
use Rattle.inputs.proofs.Verdicts.{step_says}
use Rattle.inputs.specs.declared.verdict.Refusal.{Refusal}
use Rattle.decisions.specs.Decision.{one_of, requests_of}
use Rattle.decisions.proofs.Steps.{Kept, one_kept}
use Rattle.permits.specs.Permits.{permits_of}
use Rattle.machine.specs.Step.{stepped, accepted_of, step_of}
use Rattle.machine.specs.Run.{ran, run_from}
use Rattle.machine.specs.Inner.{Ready}
use Rattle.std.specs.Prelude.{Err, Ok, Result, ⊤}
use Rattle.image.specs.declared.table.ImageFault.{ImageFault}
use Rattle.image.specs.declared.table.ImageFault.TheVariants.{Record, Table}
use Rattle.machine.specs.declared.answer.Unmade.TheVariants.{Stopped}
use Rattle.machine.specs.declared.answer.Unmade.{Unmade}

-- ---- a step of an accepted machine
pub accepted_step : (img : List ℕ) (r : Registers) (xs : List ℕ) (rs : List Range) (m : Memory) → step_verdict m img (pc r) ≡ (Ok tt) → step_of img r xs rs m ≡ accepted_of img r xs rs m
unfolding step_of
accepted_step img r xs rs m e = rw e

-- the rules of a step are about where the windows lie and their lengths, the image, and whether PC is even
pub same_verdict : (m n : Memory) (img : List ℕ) (p q : ℕ) → n.windows ≡ m.windows → length n.bytes ≡ length m.bytes → p % 2 ≡ 0 → q % 2 ≡ 0 → step_verdict n img q ≡ step_verdict m img p
unfolding step_verdict
same_verdict m n img p q b l e f = rw (b, l, e, f)

module _ {img : List ℕ} {r : Registers} {m : Memory} (y : Ready img r m) (xs : List ℕ) (rs : List Range) (v : MadeOf) (is : v ≡ one_of img r xs rs m) where
  kept : Kept r m v
  kept = subst (Kept r m) (sym is) (one_kept y.valid m y.bytes y.image xs rs)

  pub ready_next : Ready img v.registers v.memory
  ready_next =
      record {
        accepted = same_verdict m v.memory img (pc r) (pc v.registers) kept.base kept.size y.valid.even kept.valid.even ∙ y.accepted;
        image = y.image;
        valid = kept.valid;
        bytes = kept.bytes;
      }

  step_made : (e : Event) → v.ending ≡ Ok e → step_of img r xs rs m ≡ stepped (Ok e) v.registers (requests_of img r xs rs) v.memory (permits_of img r.a r.core xs rs)
  step_made e h = accepted_step img r xs rs m y.accepted ∙ rw (← is, h)

  step_stopped : (s : Stop) → v.ending ≡ Err s → step_of img r xs rs m ≡ stepped (Err (Stopped s)) v.registers xs v.memory (permits_of img r.a r.core xs rs)
  step_stopped s h = accepted_step img r xs rs m y.accepted ∙ rw (← is, h, (kept.leaves s h).0, (kept.leaves s h).1)

  pub run_made : (left made : ℕ) (last : Result Event Unmade) (e : Event) → v.ending ≡ Ok e
      → run_from left img rs (Ok e) (made + 1) v.registers (requests_of img r xs rs) v.memory ≡ run_from (suc left) img rs last made r xs m
  unfolding run_from
  run_made left made last e g = rw (step_made e g)

  pub run_stopped : (left made : ℕ) (last : Result Event Unmade) (s : Stop) → v.ending ≡ Err s → ran (Err (Stopped s)) made v.registers xs v.memory ≡ run_from (suc left) img rs last made r xs m
  unfolding run_from
  run_stopped left made last s g = rw (step_stopped s g)

pub run_end : (img : List ℕ) (rs : List Range) (last : Result Event Unmade) (made : ℕ) (r : Registers) (xs : List ℕ) (m : Memory) → ran last made r xs m ≡ run_from 0 img rs last made r xs m
unfolding run_from
run_end img rs last made r xs m = refl

-- before a step the last outcome does not matter
pub run_last : (left : ℕ) (img : List ℕ) (rs : List Range) (x y : Result Event Unmade) (made : ℕ) (r : Registers) (xs : List ℕ) (m : Memory) → 0 < left → run_from left img rs x made r xs m ≡ run_from left img rs y made r xs m
unfolding run_from
run_last zero img rs x y made r xs m h = absurd (omega arith)
run_last (suc left) img rs x y made r xs m h = refl

-- with IE 0 no source is taken
pub off : (icr level : ℕ) → icr_ie icr ≡ false → takes icr level ≡ false
unfolding takes
off icr level e = rw e

-- an accepted image holds
never : {x : Refusal} → ◌≡◌ {A = Result ⊤ Refusal} (Err x) (Ok tt) → ⊥
never e = let z : ◌≡◌ {A = ℕ} 0 1 = cc in omega arith

by_image : (c : Result ⊤ ImageFault) (v : Result ⊤ Refusal) → and_then (image_said c) v ≡ (Ok tt) → c ≡ (Ok tt)
by_image (Ok _) v e = refl
by_image (Err (Table p)) v e = absurd (never e)
by_image (Err (Record k)) v e = absurd (never e)

pub image_holds : (m : Memory) (img : List ℕ) (p : ℕ) → step_verdict m img p ≡ (Ok tt) → ImageHolds img
unfolding step_verdict
image_holds m img p e = by_window (window_verdict m) e
  where
    by_window : (v : Result ⊤ Refusal) → and_then v (and_then (image_verdict img) (pc_verdict p)) ≡ (Ok tt) → ImageHolds img
    by_window (Ok _) e = by_image (image_of img) (pc_verdict p) e
    by_window (Err x) e = absurd (never e)

-- an accepted start has an even PC
pub accepted_even : (m : Memory) (img : List ℕ) (p : ℕ) → step_verdict m img p ≡ (Ok tt) → p % 2 ≡ 0
accepted_even m img p e = (rw e at (step_says m img p)).even
