-- A verdict is given exactly where its rule is the first at fault, and acceptance exactly where all rules hold.
-- Assumes nothing.
use Prim.Native.Nat.{ℕ, ◌%◌}
use native.Mathlib.Decide.{ℕ_discrete}
use mathlib.Core.Path.{◌≡◌, refl, sym, ap, ◌∙◌}
use mathlib.Core.List.{List}
use borrow.Author.Tests.{eq-eqb, ne_eqb}
use Rattle.words.specs.Exactly.{Exactly}
use Rattle.words.proofs.Answers.{exactly}
use Rattle.memory.specs.Memory.{Memory}
use Rattle.lists.specs.Walk.{lists_of}
use Rattle.lists.specs.Lists.{ListsCome}
use Rattle.lists.proofs.Lists.{lists_come, sound_of, of_sound}
use Rattle.image.specs.Records.{image_of}
use Rattle.image.specs.Rules.{ImageRight, ImageSays}
use Rattle.image.proofs.Images.{image_says}
use Rattle.inputs.specs.Checks.{window_verdict, image_said, image_verdict, pc_verdict, lists_said, and_then, step_verdict, start_verdict}
use Rattle.inputs.specs.Rules.{WindowsHold, Even, StepRight, StepSays, StartSays}
use Rattle.inputs.specs.declared.verdict.Refusal.{Refusal}
use Rattle.inputs.specs.declared.verdict.Refusal.TheVariants.{Window, Overlap, Table, Record, OddPc, LinkOutside, MetAgain}
use Rattle.inputs.proofs.Windows.{wrong, overlap, hold, ComeOf, come_of, windows_small}
use Rattle.inputs.proofs.Single.{windows_is, image_is, end_is}
use Rattle.std.specs.Prelude.{Err, Ok, Result, ⊤}
use Rattle.image.specs.declared.table.ImageFault.{ImageFault}
use Rattle.image.specs.declared.table.ImageFault.TheVariants as image
use Rattle.lists.specs.declared.ListFault.{ListFault}
use Rattle.lists.specs.declared.ListFault.TheVariants as list

-- ---- rules 1, 13 and 2 to 4
module _ (m : Memory) (img : List ℕ) (pc : ℕ) where
  windows_refused : (r : Refusal) → window_verdict m ≡ Err r → step_verdict m img pc ≡ Err r
  unfolding step_verdict
  windows_refused r e = rw e

  windows_passed : window_verdict m ≡ Ok tt → step_verdict m img pc ≡ and_then (image_verdict img) (pc_verdict pc)
  unfolding step_verdict
  windows_passed e = rw e

  pc_verdict_lem : WindowsHold m → ImageRight img → StepSays m img pc (pc_verdict pc)
  pc_verdict_lem w i = go (ℕ_discrete (pc % 2) 0)
    where
      go : Dec (Even pc) → StepSays m img pc (pc_verdict pc)
      go (yes e) = rw (eq-eqb (pc % 2) 0 e) (record { windows = w; image = i; even = e })
      go (no d) = rw (ne_eqb (pc % 2) 0 d) (w, i, d)

  image_verdict_lem : WindowsHold m → (c : Result ⊤ ImageFault) → ImageSays img c → StepSays m img pc (and_then (image_said c) (pc_verdict pc))
  image_verdict_lem w (Ok _) s = pc_verdict_lem w s
  image_verdict_lem w (Err (image.Table entry)) s = (w, s)
  image_verdict_lem w (Err (image.Record index)) s = (w, s)

  -- the verdict is what the rules say
  pub step_says : StepSays m img pc (step_verdict m img pc)
  step_says = by (come_of m)
    where
      by : ComeOf m → StepSays m img pc (step_verdict m img pc)
      by (wrong e d) = rw (windows_refused Window e) d
      by (overlap e r d) = rw (windows_refused Overlap e) (r, d)
      by (hold e r a) = rw (windows_passed e) (image_verdict_lem (record { right = r; apart = a }) (image_of img) (image_says img))

  -- ---- and no other verdict is
  passed : WindowsHold m → step_verdict m img pc ≡ and_then (image_verdict img) (pc_verdict pc)
  passed w = windows_passed (sym (windows_is m (Ok tt) w))

  step_is : (v : Result ⊤ Refusal) → StepSays m img pc v → step_verdict m img pc ≡ v
  step_is (Ok _) r = passed r.windows ∙ rw (image_is img (Ok tt) r.image, eq-eqb (pc % 2) 0 r.even)
  step_is (Err Window) d = windows_refused Window (sym (windows_is m (Err Window) d))
  step_is (Err Overlap) s = windows_refused Overlap (sym (windows_is m (Err Overlap) s))
  step_is (Err (Table entry)) (w, s) = passed w ∙ rw (image_is img (Err (image.Table entry)) s)
  step_is (Err (Record index)) (w, s) = passed w ∙ rw (image_is img (Err (image.Record index)) s)
  step_is (Err OddPc) (w, s, d) = passed w ∙ rw (image_is img (Ok tt) s, ne_eqb (pc % 2) 0 d)
  step_is (Err _) s = absurd s

  pub step_exactly : (r : Result ⊤ Refusal) → r ≡ step_verdict m img pc → (r ≡ step_verdict m img pc) × Exactly (StepSays m img pc) r
  step_exactly = exactly (StepSays m img pc) (step_verdict m img pc) step_says (λ v s. sym (step_is v s))

-- ---- all seven
module _ (m : Memory) (img : List ℕ) (pc fcx pcxi : ℕ) where
  lists_verdict_lem : StepRight m img pc → (e : Result ⊤ ListFault) → ListsCome m fcx pcxi e → StartSays m img pc fcx pcxi (lists_said e)
  lists_verdict_lem r (Ok _) c = (r, sound_of m (windows_small m r.windows) fcx pcxi c)
  lists_verdict_lem r (Err list.LinkOutside) c = (r, c)
  lists_verdict_lem r (Err list.MetAgain) c = (r, c)

  start_refused : (r : Refusal) → step_verdict m img pc ≡ Err r → start_verdict m img pc fcx pcxi ≡ Err r
  unfolding start_verdict
  start_refused r e = rw e

  start_passed : step_verdict m img pc ≡ Ok tt → start_verdict m img pc fcx pcxi ≡ lists_said (lists_of m fcx pcxi)
  unfolding start_verdict
  start_passed e = rw e

  from_step : (r : Refusal) → StepSays m img pc (Err r) → StartSays m img pc fcx pcxi (Err r)
  from_step Window s = s
  from_step Overlap s = s
  from_step (Table entry) s = s
  from_step (Record index) s = s
  from_step OddPc s = s
  from_step _ s = absurd s

  -- the verdict is what the rules say
  pub start_says : StartSays m img pc fcx pcxi (start_verdict m img pc fcx pcxi)
  start_says = go (step_verdict m img pc) refl (step_says m img pc)
    where
      go : (v : Result ⊤ Refusal) → step_verdict m img pc ≡ v → StepSays m img pc v → StartSays m img pc fcx pcxi (start_verdict m img pc fcx pcxi)
      go (Err r) e s = rw (start_refused r e) (from_step r s)
      go (Ok _) e s =
          rw (start_passed e)
          (lists_verdict_lem s (lists_of m fcx pcxi) (lists_come m (windows_small m s.windows) fcx pcxi))

  lists_end : StepRight m img pc → (e : Result ⊤ ListFault) → ListsCome m fcx pcxi e → start_verdict m img pc fcx pcxi ≡ lists_said e
  lists_end r e c =
      start_passed (step_is m img pc (Ok tt) r) ∙ ap lists_said (end_is m fcx pcxi r.windows e c)

  -- ---- and no other verdict is
  start_is : (v : Result ⊤ Refusal) → StartSays m img pc fcx pcxi v → start_verdict m img pc fcx pcxi ≡ v
  start_is (Ok _) (r, s) = lists_end r (Ok tt) (of_sound m (windows_small m r.windows) fcx pcxi s)
  start_is (Err Window) d = start_refused Window (step_is m img pc (Err Window) d)
  start_is (Err Overlap) s = start_refused Overlap (step_is m img pc (Err Overlap) s)
  start_is (Err (Table entry)) s = start_refused (Table entry) (step_is m img pc (Err (Table entry)) s)
  start_is (Err (Record index)) s = start_refused (Record index) (step_is m img pc (Err (Record index)) s)
  start_is (Err OddPc) s = start_refused OddPc (step_is m img pc (Err OddPc) s)
  start_is (Err LinkOutside) (r, c) = lists_end r (Err list.LinkOutside) c
  start_is (Err MetAgain) (r, c) = lists_end r (Err list.MetAgain) c

  pub start_exactly : (r : Result ⊤ Refusal) → r ≡ start_verdict m img pc fcx pcxi → (r ≡ start_verdict m img pc fcx pcxi) × Exactly (StartSays m img pc fcx pcxi) r
  start_exactly = exactly (StartSays m img pc fcx pcxi) (start_verdict m img pc fcx pcxi) start_says (λ v s. sym (start_is v s))
