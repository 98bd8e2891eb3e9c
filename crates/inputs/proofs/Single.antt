-- Rules 1 and 13, 2 and 3, 4, 5 and 6, each by itself: a verdict is given exactly where these rules say it.
-- Assumes nothing.
use Prim.Native.Nat.{ℕ, ◌%◌}
use native.Mathlib.Decide.{ℕ_discrete}
use mathlib.Core.Path.{◌≡◌, sym, ap}
use mathlib.Core.List.{List}
use borrow.Author.Tests.{eq-eqb, ne_eqb}
use Rattle.words.specs.Exactly.{Exactly}
use Rattle.words.proofs.Answers.{exactly}
use Rattle.memory.specs.Memory.{Memory}
use Rattle.lists.specs.Walk.{lists_of}
use Rattle.lists.specs.Lists.{ListsCome}
use Rattle.lists.proofs.Lists.{lists_come, lists_only, sound_of, of_sound}
use Rattle.image.specs.Records.{image_of}
use Rattle.image.specs.Rules.{ImageSays}
use Rattle.image.proofs.Images.{image_says, image_only}
use Rattle.inputs.specs.Checks.{window_verdict, image_said, image_verdict, pc_verdict, lists_said, lists_verdict}
use Rattle.inputs.specs.Rules.{WindowsHold, WindowsSay, ContentsSay, Even, PcSays, ListsSay}
use Rattle.inputs.specs.declared.verdict.Refusal.TheVariants.{Window, Overlap, Table, Record, OddPc, LinkOutside, MetAgain}
use Rattle.inputs.proofs.Windows.{wrong, overlap, hold, windows_wrong, windows_overlap, windows_hold, ComeOf, come_of, windows_small}
use Rattle.std.specs.Prelude.{Err, Ok, Result, ⊤}
use Rattle.inputs.specs.declared.verdict.Refusal.{Refusal}
use Rattle.image.specs.declared.table.ImageFault.{ImageFault}
use Rattle.image.specs.declared.table.ImageFault.TheVariants as image
use Rattle.lists.specs.declared.ListFault.{ListFault}
use Rattle.lists.specs.declared.ListFault.TheVariants as list

-- ---- rules 1 and 13
module _ (m : Memory) where
  windows_say : WindowsSay m (window_verdict m)
  windows_say = by (come_of m)
    where
      by : ComeOf m → WindowsSay m (window_verdict m)
      by (wrong e d) = rw e d
      by (overlap e r d) = rw e (r, d)
      by (hold e r a) = rw e (record { right = r; apart = a })

  pub windows_is : (v : Result ⊤ Refusal) → WindowsSay m v → v ≡ window_verdict m
  windows_is (Ok _) w = sym (windows_hold _ _ _ _ w.right w.apart)
  windows_is (Err Window) d = sym (windows_wrong _ _ _ _ d)
  windows_is (Err Overlap) (r, d) = sym (windows_overlap _ _ _ _ r d)
  windows_is (Err _) s = absurd s

  pub windows_exactly : (r : Result ⊤ Refusal) → r ≡ window_verdict m → (r ≡ window_verdict m) × Exactly (WindowsSay m) r
  windows_exactly = exactly (WindowsSay m) (window_verdict m) windows_say windows_is

-- ---- rules 2 and 3
module _ (img : List ℕ) where
  contents_by : (c : Result ⊤ ImageFault) → ImageSays img c → ContentsSay img (image_said c)
  contents_by (Ok x) s = s
  contents_by (Err (image.Table entry)) s = s
  contents_by (Err (image.Record index)) s = s

  pub image_is : (c : Result ⊤ ImageFault) → ImageSays img c → image_of img ≡ c
  image_is c s = image_only img (image_of img) c (image_says img) s

  contents_is : (v : Result ⊤ Refusal) → ContentsSay img v → v ≡ image_verdict img
  contents_is (Ok _) s = rw (image_is (Ok tt) s)
  contents_is (Err (Table entry)) s = rw (image_is (Err (image.Table entry)) s)
  contents_is (Err (Record index)) s = rw (image_is (Err (image.Record index)) s)
  contents_is (Err _) s = absurd s

  pub contents_exactly : (r : Result ⊤ Refusal) → r ≡ image_verdict img → (r ≡ image_verdict img) × Exactly (ContentsSay img) r
  contents_exactly = exactly (ContentsSay img) (image_verdict img) (contents_by (image_of img) (image_says img)) contents_is

-- ---- rule 4
module _ (pc : ℕ) where
  pc_says : PcSays pc (pc_verdict pc)
  pc_says = go (ℕ_discrete (pc % 2) 0)
    where
      go : Dec (Even pc) → PcSays pc (pc_verdict pc)
      go (yes e) = rw (eq-eqb (pc % 2) 0 e) e
      go (no d) = rw (ne_eqb (pc % 2) 0 d) d

  pc_is : (v : Result ⊤ Refusal) → PcSays pc v → v ≡ pc_verdict pc
  pc_is (Ok _) e = rw (eq-eqb (pc % 2) 0 e)
  pc_is (Err OddPc) d = rw (ne_eqb (pc % 2) 0 d)
  pc_is (Err _) s = absurd s

  pub pc_exactly : (r : Result ⊤ Refusal) → r ≡ pc_verdict pc → (r ≡ pc_verdict pc) × Exactly (PcSays pc) r
  pc_exactly = exactly (PcSays pc) (pc_verdict pc) pc_says pc_is

-- ---- rules 5 and 6
module _ (m : Memory) (fcx pcxi : ℕ) where
  lists_by : WindowsHold m → (e : Result ⊤ ListFault) → ListsCome m fcx pcxi e → ListsSay m fcx pcxi (lists_said e)
  lists_by w (Ok _) c = (w, sound_of m (windows_small m w) fcx pcxi c)
  lists_by w (Err list.LinkOutside) c = (w, c)
  lists_by w (Err list.MetAgain) c = (w, c)

  lists_say : ListsSay m fcx pcxi (lists_verdict m fcx pcxi)
  lists_say = by (come_of m)
    where
      by : ComeOf m → ListsSay m fcx pcxi (lists_verdict m fcx pcxi)
      by (wrong e d) = rw e d
      by (overlap e r d) = rw e (r, d)
      by (hold e r a) =
          let w : WindowsHold m = record { right = r; apart = a } in
          rw e (lists_by w (lists_of m fcx pcxi) (lists_come m (windows_small m w) fcx pcxi))

  -- the end of two lists in windows that rules 1 and 13 accept
  pub end_is : WindowsHold m → (e : Result ⊤ ListFault) → ListsCome m fcx pcxi e → lists_of m fcx pcxi ≡ e
  end_is w e c = lists_only m (windows_small m w) fcx pcxi (lists_of m fcx pcxi) e (lists_come m (windows_small m w) fcx pcxi) c

  ends : WindowsHold m → (e : Result ⊤ ListFault) → ListsCome m fcx pcxi e → lists_said e ≡ lists_verdict m fcx pcxi
  ends w e c = rw (← windows_is m (Ok tt) w) (ap lists_said (sym (end_is w e c)))

  lists_is : (v : Result ⊤ Refusal) → ListsSay m fcx pcxi v → v ≡ lists_verdict m fcx pcxi
  lists_is (Ok _) (w, s) = ends w (Ok tt) (of_sound m (windows_small m w) fcx pcxi s)
  lists_is (Err Window) d = rw (← windows_is m (Err Window) d)
  lists_is (Err Overlap) s = rw (← windows_is m (Err Overlap) s)
  lists_is (Err LinkOutside) (w, c) = ends w (Err list.LinkOutside) c
  lists_is (Err MetAgain) (w, c) = ends w (Err list.MetAgain) c
  lists_is (Err _) s = absurd s

  pub lists_verdict_exactly : (r : Result ⊤ Refusal) → r ≡ lists_verdict m fcx pcxi → (r ≡ lists_verdict m fcx pcxi) × Exactly (ListsSay m fcx pcxi) r
  lists_verdict_exactly = exactly (ListsSay m fcx pcxi) (lists_verdict m fcx pcxi) lists_say lists_is
