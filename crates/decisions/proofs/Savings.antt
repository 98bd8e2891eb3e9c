-- The cases of a save: a stop, a save, and one that took LCX's area, with the FCD entry after it.
-- Assumes nothing.
use Prim.Native.Nat.{ℕ}
use mathlib.Core.Path.{◌≡◌, refl, ap, ◌∙◌}
use mathlib.Core.Bool.{Bool, true, false, cond}
use mathlib.Core.List.{List}
use lib.Dec.{eqb}
use borrow.Author.Tests.{eqb-true, eqb-false}
use Rattle.memory.specs.Memory.{Memory, memory}
use Rattle.memory.specs.Word.{word_at, put_words}
use Rattle.memory.proofs.Words.{put_words_length}
use Rattle.fields.specs.Pcxi.{pcxi_of}
use Rattle.fields.proofs.Links.{link_twice}
use Rattle.registers.specs.Registers.{pc, fcx, lcx, icr}
use Rattle.registers.specs.declared.Registers.{Registers}
use Rattle.events.specs.Traps.{FCD}
use Rattle.events.specs.declared.event.Event.{Event}
use Rattle.events.specs.declared.event.Event.TheVariants as event
use Rattle.events.specs.declared.event.Stop.{Stop}
use Rattle.fields.specs.Link.{link_of}
use Rattle.contexts.specs.Context.{ul_of, upper_of, context_of}
use Rattle.contexts.specs.Save.{Saving, room_of, take_of, foreseen_by, foreseen_of, saved_by, save_at_of, save_by, save_of}
use Rattle.contexts.specs.declared.context.Half.{Half}
use Rattle.contexts.specs.declared.context.Half.TheVariants.{Upper}
use Rattle.entries.specs.Entry.{MadeOf, made, trap_entry, fcd_of, entering, saving_of}
use Rattle.decisions.specs.Valid.{Valid}
use Rattle.decisions.proofs.Thens.{Then, with_heads, head_fcx}
use Rattle.std.specs.Prelude.{Err, Ok, Result}
use Rattle.contexts.specs.declared.save.Saved.TheVariants.{Done}

-- the registers with the heads set by a save into the area at byte `at`: PCXI and the next FCX
abbrev pub after_save : Half → ℕ → List ℕ → Registers → Registers
after_save half at bytes r = with_heads (pcxi_of (icr r) (ul_of half) (link_of (fcx r))) (link_of (word_at bytes at)).0 r

module _ (e : Event) (half : Half) (saved-pc : ℕ) (then : Registers → Registers) (r : Registers) (m : Memory) where
  abbrev words : List ℕ
  words = context_of half saved-pc r

  -- the bytes after the save, and the registers that the step then reaches
  abbrev pub saved_bytes : ℕ → List ℕ
  saved_bytes at = put_words m.bytes at words 16

  abbrev pub reached : ℕ → Registers
  reached at = then (after_save half at m.bytes r)

  -- those that the FCD entry sets
  abbrev pub fcd_registers : ℕ → ℕ → Registers
  fcd_registers at second = let q = after_save Upper second (saved_bytes at) (reached at) in trap_entry FCD (pc q) q

  pub data SavingCase : MadeOf → Type 0 where
    -- no area for the save, and none for the FCD entry after it
    lacks : (s : Stop) → room_of m (link_of (fcx r)) ≡ Err s → SavingCase (made (Err s) r m)
    lacks_second : (s : Stop) (at : ℕ) → room_of m (link_of (fcx r)) ≡ Ok at → (link_of (fcx r)).0 ≡ (link_of (lcx r)).0 → room_of m (link_of (word_at m.bytes at)) ≡ Err s
        → SavingCase (made (Err s) r m)
    saves : (at : ℕ) → room_of m (link_of (fcx r)) ≡ Ok at → ((link_of (fcx r)).0 ≡ (link_of (lcx r)).0 → ⊥)
        → SavingCase (made (Ok e) (reached at) (memory m.windows (saved_bytes at)))
    depletes : (at second : ℕ) → room_of m (link_of (fcx r)) ≡ Ok at → (link_of (fcx r)).0 ≡ (link_of (lcx r)).0 → room_of m (link_of (word_at m.bytes at)) ≡ Ok second
        → SavingCase (made (Ok (event.Trap FCD)) (fcd_registers at second) (memory m.windows (put_words (saved_bytes at) second (upper_of (reached at)) 16)))

  abbrev entering_of : Saving → MadeOf
  entering_of v = entering e then r v.saved v.core v.memory

  module _ (w : Valid r) (t : Then then) where
    -- the registers reached still have the next FCX, so that the FCD entry finds the area that was looked for
    pub reached_fcx : (at : ℕ) → fcx (reached at) ≡ (link_of (word_at m.bytes at)).0
    reached_fcx at = ap fcx (t.blind r w _ _) ∙ head_fcx (then r) (t.valid r w) _ _

    reached_room : (at second : ℕ) → room_of m (link_of (word_at m.bytes at)) ≡ Ok second → room_of (memory m.windows (saved_bytes at)) (link_of (fcx (reached at))) ≡ Ok second
    reached_room at second h =
        rw (reached_fcx at, put_words_length m.bytes at words 16) (ap (room_of m) (link_twice (word_at m.bytes at)) ∙ h)

    fcd_case : (at second : ℕ) → room_of m (link_of (fcx r)) ≡ Ok at → (link_of (fcx r)).0 ≡ (link_of (lcx r)).0 → room_of m (link_of (word_at m.bytes at)) ≡ Ok second
        → SavingCase (fcd_of (reached at) (memory m.windows (saved_bytes at)))
    unfolding fcd_of take_of
    fcd_case at second h g k = rw (reached_room at second k) (depletes at second h g k)

    at_case : (at : ℕ) → room_of m (link_of (fcx r)) ≡ Ok at → SavingCase (entering_of (save_at_of half words at r.core m))
    unfolding save_at_of foreseen_of take_of
    at_case at h = by (eqb (link_of (fcx r)).0 (link_of (lcx r)).0) refl (room_of m (link_of (word_at m.bytes at))) refl
      where
        by : (b : Bool) → eqb (link_of (fcx r)).0 (link_of (lcx r)).0 ≡ b → (x : Result ℕ Stop) → room_of m (link_of (word_at m.bytes at)) ≡ x
            → SavingCase (entering_of (saved_by half words at r.core m (cond b (foreseen_by x) (Ok Done))))
        by true g (Err s) k = lacks_second s at h (eqb-true _ _ g) k
        by true g (Ok second) k = fcd_case at second h (eqb-true _ _ g) k
        by false g x k = saves at h (eqb-false _ _ g)

    pub saving_case : SavingCase (saving_of e half saved-pc then r m)
    unfolding save_of
    saving_case = by (room_of m (link_of (fcx r))) refl
      where
        by : (x : Result ℕ Stop) → room_of m (link_of (fcx r)) ≡ x → SavingCase (entering_of (save_by half words r.core m x))
        by (Err s) h = lacks s h
        by (Ok at) h = at_case at h
