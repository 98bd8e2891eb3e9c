-- A save over the lists: the first free link goes on top of the saved contexts, and an FCD entry's after it.
-- Assumes nothing.
use Prim.Native.Nat.{ℕ, ◌^◌, ◌<◌}
use native.Mathlib.Omega.{arith}
use mathlib.Core.Path.{◌≡◌, refl, sym, ap, subst, ◌∙◌}
use mathlib.Core.Bool.{true, false}
use mathlib.Core.List.{List, [], ◌∷◌}
use lib.ListN.{length, set}
use lib.Seq.{get_or-set_other}
use lib.Dec.{eqb}
use borrow.Author.Tests.{eq-eqb, ne_eqb}
use Rattle.memory.specs.Memory.{Memory, memory}
use Rattle.memory.specs.Word.{word_at, put_words}
use Rattle.memory.proofs.Words.{put_words_length}
use Rattle.fields.specs.Pcxi.{pcxi_of}
use Rattle.fields.proofs.Links.{link_twice}
use Rattle.registers.specs.Registers.{pc, pcxi, fcx, lcx, icr}
use Rattle.registers.specs.declared.Registers.{Registers}
use Rattle.events.specs.Traps.{FCD}
use Rattle.events.specs.declared.event.Event.{Event}
use Rattle.events.specs.declared.event.Stop.{Stop}
use Rattle.events.specs.declared.event.Stop.TheVariants.{NoArea, Outside}
use Rattle.fields.specs.Link.{link_of}
use Rattle.areas.specs.Place.{place_of}
use Rattle.fields.specs.declared.link.Link.{Link}
use Rattle.lists.specs.Lists.{Leads}
use Rattle.contexts.specs.Context.{ul_of, upper_of, context_of}
use Rattle.contexts.specs.Save.{room_of}
use Rattle.contexts.specs.declared.context.Half.{Half}
use Rattle.contexts.specs.declared.context.Half.TheVariants.{Upper}
use Rattle.contexts.proofs.Rooms.{never_room, room_at_lem, room_none, room_some}
use Rattle.entries.specs.Entry.{MadeOf, trap_entry}
use Rattle.decisions.specs.Valid.{Valid}
use Rattle.decisions.proofs.Families.{small}
use Rattle.decisions.proofs.Thens.{Then, with_heads, head_fcx, head_pcxi, trap_then}
use Rattle.decisions.proofs.Savings.{after_save, reached, saved_bytes, fcd_registers, SavingCase, lacks, lacks_second, saves, depletes}
use Rattle.decisions.proofs.Steps.{never_made, after_valid}
use Rattle.series.specs.Abstract.{upper_registers, named, SavedContext, context, AbstractLists, lists, SaveOf, save_one, save_two}
use Rattle.series.specs.Calls.{state}
use Rattle.series.specs.Claim.{end}
use Rattle.series.proofs.Frames.{place_same}
use Rattle.series.proofs.Invariant.{Inv, save_inv}
use Rattle.std.specs.Prelude.{Err, Ok, Some, Option, ok_or}

-- ---- the area for a save, from the free list
no_room : (m : Memory) (l : Link) → l ≡ end → room_of m l ≡ Err NoArea
no_room m l e = sym (room_none m.windows (length m.bytes) l (ap (λ (l : Link). l.0) e))

some_room : (m : Memory) (l : Link) (at : ℕ) → (l.0 ≡ 0 → ⊥) → place_of m l ≡ Some at → room_of m l ≡ Ok at
some_room m l at z p = sym (room_some m.windows (length m.bytes) l z (place_of m l) refl) ∙ ap (λ (q : Option ℕ). ok_or q Outside) p

-- ---- the upper registers without the heads

upper_blind : (p f : ℕ) (q : Registers) → upper_registers (with_heads p f q) ≡ upper_registers q
unfolding upper_registers
upper_blind p f q = rw (get_or-set_other (set q.core 2 p) 3 1 f 0 (λ e. omega arith), get_or-set_other q.core 2 1 p 0 (λ e. omega arith))

module _ (e : Event) (half : Half) (saved-pc : ℕ) (h : saved-pc < 2 ^ 32) (then : Registers → Registers) (t : Then then) (L : List Link) (r : Registers) (m : Memory) where
  -- the save as the rules give it
  abbrev s : SaveOf
  s = record { half = half; registers = named half r; limit = link_of (lcx r); icr = icr r; reached = upper_registers (then r) }

  -- what is to be shown of what the step comes to
  pub record Saved (b : AbstractLists) (x : MadeOf) : Type 0 where
    pub inv : Inv L (state x.registers x.memory) (save_one s b.free b)
    pub stays : (y : Stop) → x.ending ≡ Err y → save_one s b.free b ≡ b

  module _ (w : Valid r) where
    abbrev q : ℕ → Registers
    q at = reached e half saved-pc then r m at

    q_valid : (at : ℕ) → Valid (q at)
    q_valid at = t.valid _ (after_valid half at m.bytes w)

    q_fcx : (at : ℕ) → fcx (q at) ≡ (link_of (word_at m.bytes at)).0
    q_fcx at = ap fcx (t.blind r w _ _) ∙ head_fcx (then r) (t.valid r w) _ _

    q_pcxi : (at : ℕ) → pcxi (q at) ≡ pcxi_of (icr r) (ul_of half) (link_of (fcx r))
    q_pcxi at = ap pcxi (t.blind r w _ _) ∙ head_pcxi (then r) (t.valid r w) _ _

    q_upper : (at : ℕ) → upper_registers (q at) ≡ upper_registers (then r)
    q_upper at = ap upper_registers (t.blind r w _ _) ∙ upper_blind _ _ (then r)

    -- ---- one save
    one_save : (l : Link) (ls : List Link) (cs : List SavedContext) → Inv L (state r m) (lists (l ∷ ls) cs) → (at : ℕ) → room_of m (link_of (fcx r)) ≡ Ok at
        → Inv L (state (q at) (memory m.windows (saved_bytes e half saved-pc then r m at))) (lists ls (context l half (named half r) ∷ cs))
    one_save l ls cs i at k =
        save_inv l ls cs i half saved-pc h at (room_at_lem m.windows (length m.bytes) (link_of (fcx r)) at k).lies (q at) (q_valid at) (q_fcx at) (q_pcxi at)

    -- ---- the FCD entry's after it
    abbrev n : ℕ → Memory
    n at = memory m.windows (saved_bytes e half saved-pc then r m at)

    two_saves : (l k : Link) (ks : List Link) (cs : List SavedContext) → Inv L (state r m) (lists (l ∷ k ∷ ks) cs) → (at second : ℕ) → room_of m (link_of (fcx r)) ≡ Ok at → room_of m (link_of (word_at m.bytes at)) ≡ Ok second
        → Inv L (state (fcd_registers e half saved-pc then r m at second) (memory m.windows (put_words (saved_bytes e half saved-pc then r m at) second (upper_of (q at)) 16)))
        (save_two s l (k ∷ ks) (lists (l ∷ k ∷ ks) cs))
    two_saves l k ks cs i at second a c =
        let j = one_save l (k ∷ ks) cs i at a in
        let lies = (room_at_lem m.windows (length m.bytes) (link_of (word_at m.bytes at)) second c).lies in
        let x = after_save Upper second (n at).bytes (q at) in
        let f : Then (trap_entry FCD (pc x)) = trap_then FCD (pc x) (small (omega arith) (omega arith)) ((after_valid Upper second (n at).bytes (q_valid at)).core.each 0) in
        let again : link_of (fcx (q at)) ≡ link_of (word_at m.bytes at) = ap (λ (y : ℕ). link_of y) (q_fcx at) ∙ link_twice (word_at m.bytes at) in
        let p : place_of (n at) (link_of (fcx (q at))) ≡ Some second = ap (place_of (n at)) again ∙ place_same m (n at) refl (put_words_length m.bytes at (context_of half saved-pc r) 16) (link_of (word_at m.bytes at)) ∙ lies in
        let entry : named Upper (q at) ≡ pcxi_of (icr r) (ul_of half) l ∷ upper_registers (then r) =
        ap (λ (y : ℕ). y ∷ upper_registers (q at)) (q_pcxi at ∙ ap (pcxi_of (icr r) (ul_of half)) i.agree.free.0) ∙ ap (λ (y : List ℕ). pcxi_of (icr r) (ul_of half) l ∷ y) (q_upper at) in
        let z =
        save_inv k ks (context l half (named half r) ∷ cs) j Upper 0 (omega arith) second p (trap_entry FCD (pc x) x) (f.valid x (after_valid Upper second (n at).bytes (q_valid at)))
        (ap fcx (f.blind (q at) (q_valid at) _ _) ∙ head_fcx _ (f.valid (q at) (q_valid at)) _ _)
        (ap pcxi (f.blind (q at) (q_valid at) _ _) ∙ head_pcxi _ (f.valid (q at) (q_valid at)) _ _) in
        subst (λ (y : List ℕ). Inv L (state (trap_entry FCD (pc x) x) (memory m.windows (put_words (n at).bytes second (upper_of (q at)) 16))) (lists ks (context k Upper y ∷ context l half (named half r) ∷ cs))) entry z

    -- ---- the cases
    -- the next area's room is that of the next free link
    next_room : (l : Link) (ls : List Link) (cs : List SavedContext) → Inv L (state r m) (lists (l ∷ ls) cs) → (at : ℕ) → room_of m (link_of (fcx r)) ≡ Ok at → Leads m (link_of (word_at m.bytes at)) ls end
    next_room l ls cs i at k =
        let f = i.agree.free in
        let p = (room_at_lem m.windows (length m.bytes) (link_of (fcx r)) at k).lies in
        subst (λ (a : ℕ). Leads m (link_of (word_at m.bytes a)) ls end) (same_at (sym f.3 ∙ p)) f.4
      where
        same_at : {a b : ℕ} → Some a ≡ Some b → a ≡ b
        same_at g = cc

    is_limit : (l : Link) (ls : List Link) (cs : List SavedContext) → Inv L (state r m) (lists (l ∷ ls) cs) → (link_of (fcx r)).0 ≡ l.0
    is_limit l ls cs i = ap (λ (k : Link). k.0) i.agree.free.0

    saved_by_lem : (fs : List Link) (cs : List SavedContext) → Inv L (state r m) (lists fs cs) → (x : MadeOf) → SavingCase e half saved-pc then r m x → Saved (lists fs cs) x
    saved_by_lem [] cs i x (lacks y k) = record { inv = i; stays = λ y' g. refl }
    saved_by_lem [] cs i x (lacks_second y at k g c) = absurd (never_room (sym (no_room m (link_of (fcx r)) i.agree.free) ∙ k))
    saved_by_lem [] cs i x (saves at k g) = absurd (never_room (sym (no_room m (link_of (fcx r)) i.agree.free) ∙ k))
    saved_by_lem [] cs i x (depletes at second k g c) = absurd (never_room (sym (no_room m (link_of (fcx r)) i.agree.free) ∙ k))
    saved_by_lem (l ∷ ls) cs i x (lacks y k) =
        let f = i.agree.free in absurd (never_room (sym k ∙ some_room m (link_of (fcx r)) f.2 f.1 f.3))
    saved_by_lem (l ∷ ls) cs i x (saves at k g) =
        let d : eqb l.0 (link_of (lcx r)).0 ≡ false = ne_eqb l.0 (link_of (lcx r)).0 (λ z. g (is_limit l ls cs i ∙ z)) in
        record { inv = rw d (one_save l ls cs i at k); stays = λ y z. absurd (never_made z) }
    saved_by_lem (l ∷ []) cs i x (lacks_second y at k g c) =
        let d : eqb l.0 (link_of (lcx r)).0 ≡ true = eq-eqb l.0 (link_of (lcx r)).0 (sym (is_limit l [] cs i) ∙ g) in
        record { inv = rw d i; stays = λ y' z. (rw d refl) }
    saved_by_lem (l ∷ j ∷ ls) cs i x (lacks_second y at k g c) =
        let f = next_room l (j ∷ ls) cs i at k in absurd (never_room (sym c ∙ some_room m (link_of (word_at m.bytes at)) f.2 f.1 f.3))
    saved_by_lem (l ∷ []) cs i x (depletes at second k g c) =
        absurd (never_room (sym (no_room m (link_of (word_at m.bytes at)) (next_room l [] cs i at k)) ∙ c))
    saved_by_lem (l ∷ j ∷ ls) cs i x (depletes at second k g c) =
        let d : eqb l.0 (link_of (lcx r)).0 ≡ true = eq-eqb l.0 (link_of (lcx r)).0 (sym (is_limit l (j ∷ ls) cs i) ∙ g) in
        record { inv = rw d (two_saves l j ls cs i at second k c); stays = λ y z. absurd (never_made z) }

    pub save_moves : (b : AbstractLists) → Inv L (state r m) b → (x : MadeOf) → SavingCase e half saved-pc then r m x → Saved b x
    save_moves b i x c = saved_by_lem b.free b.saved i x c
