-- Of the core registers, a save and a return to the lower context write PCXI and FCX alone.
-- Assumes nothing.
use Prim.Native.Nat.{ℕ}
use native.Mathlib.Omega.{arith}
use mathlib.Core.Path.{◌≡◌, refl, ap}
use mathlib.Core.List.{List}
use lib.ListN.{get_or}
use lib.Seq.{get_or-set_other}
use Rattle.memory.specs.Memory.{Memory}
use Rattle.memory.specs.Word.{word_at}
use Rattle.fields.specs.Link.{link_of}
use Rattle.areas.specs.Place.{place_of}
use Rattle.registers.specs.Registers.{pcxi, with_cores}
use Rattle.registers.specs.declared.Registers.{Registers}
use Rattle.contexts.specs.Save.{Saving, room_of, take_of, foreseen_of, saving, saved_by, save_at_of, save_by, save_of}
use Rattle.contexts.specs.Restore.{Returning, loaded_of, returning, return_by, return_of}
use Rattle.contexts.specs.declared.context.Half.{Half}
use Rattle.contexts.specs.declared.context.Half.TheVariants.{Lower}
use Rattle.acts.proofs.Steadiness.{Steady}
use Rattle.std.specs.Prelude.{Err, None, Ok, Option, Result, Some, ⊤}
use Rattle.contexts.specs.declared.save.Saved.{Saved}
use Rattle.events.specs.declared.event.Stop.{Stop}
use Rattle.contexts.specs.declared.save.Saved.TheVariants.{Depleted, Done}

-- ---- a save
module _ (half : Half) (words core : List ℕ) (m : Memory) (k : ℕ) (n2 : k ≡ 2 → ⊥) (n3 : k ≡ 3 → ⊥) where
  take_other : (at : ℕ) → get_or (take_of half words at core m.bytes).core k 0 ≡ get_or core k 0
  unfolding take_of
  take_other at = rw (get_or-set_other {A = ℕ} _ 3 k _ 0 n3, get_or-set_other {A = ℕ} _ 2 k _ 0 n2)

  saved_other : (at : ℕ) (v : Result Saved Stop) → get_or (saved_by half words at core m v).core k 0 ≡ get_or core k 0
  saved_other at (Err s) = refl
  saved_other at (Ok Done) = take_other at
  saved_other at (Ok Depleted) = take_other at

  at_other : (at : ℕ) → get_or (save_at_of half words at core m).core k 0 ≡ get_or core k 0
  unfolding save_at_of
  at_other at = saved_other at (foreseen_of core m (link_of (word_at m.bytes at)))

  save_other : get_or (save_of half words core m).core k 0 ≡ get_or core k 0
  unfolding save_of
  save_other = by (room_of m (link_of (get_or core 3 0)))
    where
      by : (s : Result ℕ Stop) → get_or (save_by half words core m s).core k 0 ≡ get_or core k 0
      by (Err s) = refl
      by (Ok at) = at_other at

-- after a save that came to `s`
pub save_steady : (half : Half) (words : List ℕ) {core : List ℕ} {r : Registers} (m : Memory) {n : Memory} {s : Result Saved Stop} → saving s core n ≡ save_of half words r.core m → Steady r (with_cores core r)
save_steady half words {core} {r} m {n} {s} e = record { same = rw (ap (λ (v : Saving). v.core) e, save_other half words r.core m 5 (λ e. omega arith) (λ e. omega arith), save_other half words r.core m 9 (λ e. omega arith) (λ e. omega arith), save_other half words r.core m 1 (λ e. omega arith) (λ e. omega arith)) refl }

-- ---- a return
module _ (r : Registers) (m : Memory) (k : ℕ) (n2 : k ≡ 2 → ⊥) (n3 : k ≡ 3 → ⊥) where
  load_lower : (at : ℕ) → get_or (loaded_of Lower at r m.bytes).registers.core k 0 ≡ get_or r.core k 0
  unfolding loaded_of
  load_lower at = rw (get_or-set_other {A = ℕ} _ 3 k _ 0 n3, get_or-set_other {A = ℕ} _ 2 k _ 0 n2)

  lower_other : get_or (return_of Lower r m).registers.core k 0 ≡ get_or r.core k 0
  unfolding return_of
  lower_other = by (place_of m (link_of (pcxi r)))
    where
      by : (p : Option ℕ) → get_or (return_by Lower r m p).registers.core k 0 ≡ get_or r.core k 0
      by None = refl
      by (Some at) = load_lower at

-- after a return to the lower context that came to `s`
pub return_steady : {r q : Registers} (m : Memory) {n : Memory} {s : Result ⊤ Stop} → returning s q n ≡ return_of Lower r m → Steady r q
return_steady {r} {q} m {n} {s} e = record { same = rw (ap (λ (v : Returning). v.registers) e, lower_other r m 5 (λ e. omega arith) (λ e. omega arith), lower_other r m 9 (λ e. omega arith) (λ e. omega arith), lower_other r m 1 (λ e. omega arith) (λ e. omega arith)) refl }
