-- A step over the lists: what is decided moves the abstract lists as it moves those in memory.
-- Assumes nothing.
use Prim.Native.Nat.{ℕ, ◌+◌, ◌/◌, ◌%◌, ◌^◌, ◌≤◌, ◌<◌}
use native.Mathlib.Omega.{arith}
use native.Mathlib.Decide.{dec_le}
use native.Mathlib.Nat.{lt_of_not-le}
use mathlib.Core.Path.{◌≡◌, refl, sym, ap, subst, ◌∙◌}
use mathlib.Core.Logic.{◌⊎◌, inl, inr, ⊎_elim}
use mathlib.Core.List.{List, [], ◌∷◌}
use lib.ListN.{length, get_or, set, length-set}
use lib.Seq.{get_or-set_same, get_or-set_other}
use Rattle.memory.specs.Memory.{Memory, memory}
use Rattle.memory.specs.Word.{word_at, put_byte, put_half}
use Rattle.memory.proofs.Words.{put_word_byte}
use Rattle.registers.specs.Registers.{pcxi, fcx}
use Rattle.registers.specs.declared.Registers.{Registers}
use Rattle.events.specs.declared.event.Stop.{Stop}
use Rattle.fields.specs.Link.{link_of}
use Rattle.areas.specs.Link.{area_address}
use Rattle.areas.specs.Place.{place_of}
use Rattle.areas.specs.Area.{area_at}
use Rattle.fields.specs.declared.link.Link.{Link}
use Rattle.areas.proofs.Places.{never_at, placed_at_lem}
use Rattle.operations.specs.declared.Store.{Store}
use Rattle.operations.specs.declared.Store.TheVariants.{StB, StH, StW, StA}
use Rattle.accesses.specs.Store.{size_of}
use Rattle.lists.specs.Lists.{count}
use Rattle.contexts.specs.Context.{ul_of}
use Rattle.contexts.specs.declared.context.Half.{Half}
use Rattle.contexts.specs.declared.context.Half.TheVariants.{Upper, Lower}
use Rattle.entries.specs.Entry.{MadeOf}
use Rattle.acts.specs.Acts.{stored_of}
use Rattle.words.proofs.Truth as truth
use Rattle.decisions.specs.Valid.{Valid}
use Rattle.execute.specs.Decision.{Decision, Keep, Write, Save, Return, performed_of}
use Rattle.decisions.proofs.Sound.{Sound}
use Rattle.decisions.proofs.Acts.{HasPrevious}
use Rattle.decisions.proofs.Thens.{ReturnThen}
use Rattle.decisions.proofs.Memories.{bytes_stored, stored_length}
use Rattle.decisions.proofs.Decides.{DecisionSound}
use Rattle.decisions.proofs.Savings.{saving_case}
use Rattle.decisions.proofs.Steps.{never_made}
use Rattle.decisions.proofs.Returnings.{loaded_at, loaded_valid, ReturningCase, outside, returns, returning_case}
use Rattle.series.specs.Abstract.{named, held, SavedContext, AbstractLists, lists, links, list_move_of, return_one, moved}
use Rattle.series.specs.Calls.{state}
use Rattle.series.specs.Conditions.{Apart, StoreApart}
use Rattle.series.specs.Claim.{RestoredBy}
use Rattle.series.proofs.Areas.{area_same}
use Rattle.series.proofs.Frames.{Unchanged, leads_frame, stacked_frame}
use Rattle.series.proofs.Invariant.{Inv, return_held, return_inv}
use Rattle.series.proofs.Loads.{loaded_held, named_then}
use Rattle.series.proofs.Saves.{save_moves}
use Rattle.std.specs.Prelude.{Err, Some}

-- ---- registers written, but not the heads
keep_inv : {L : List Link} {r : Registers} {m : Memory} {b : AbstractLists} (quiet : Type 0) (q : Registers) → Inv L (state r m) b → Sound quiet r q → quiet → Inv L (state q m) b
keep_inv quiet q i s k =
    record {
      valid = s.valid;
      bytes = i.bytes;
      agree = record { free = rw (s.heads k).fcx_same i.agree.free; saved = rw (s.heads k).pcxi_same i.agree.saved };
      same = i.same;
      once = i.once;
    }

-- ---- a store
stored_byte : (op : Store) (s : List ℕ) (at v k : ℕ) → (k < at) ⊎ (at + size_of op ≤ k) → get_or (stored_of op s at v) k 0 ≡ get_or s k 0
unfolding put_byte put_half
stored_byte StB s at v k h = get_or-set_other s at k (v % 0x100) 0 (λ e. ⊎_elim (λ x. omega arith) (λ x. omega arith) h)
stored_byte StH s at v k h =
    get_or-set_other (set s at (v % 0x100)) (at + 1) k (v / 0x100 % 0x100) 0 (λ e. ⊎_elim (λ x. omega arith) (λ x. omega arith) h)
    ∙ get_or-set_other s at k (v % 0x100) 0 (λ e. ⊎_elim (λ x. omega arith) (λ x. omega arith) h)
stored_byte StW s at v k h = put_word_byte s at v k h
stored_byte StA s at v k h = put_word_byte s at v k h

module _ {L : List Link} {r : Registers} {m : Memory} {b : AbstractLists} (i : Inv L (state r m) b) (op : Store) (at v : ℕ) (h : v < 2 ^ 32) (f : Apart L m op at) where
  abbrev n : Memory
  n = memory m.windows (stored_of op m.bytes at v)

  -- a byte of a listed area is not stored
  clear : (l : Link) → 1 ≤ count l L → (p : ℕ) → place_of m l ≡ Some p → (k : ℕ) → p ≤ k → k < p + 64 → (k < at) ⊎ (at + size_of op ≤ k)
  clear l c p e k a d = by (dec_le at k) (dec_le (at + size_of op) k)
    where
      by : Dec (at ≤ k) → Dec (at + size_of op ≤ k) → (k < at) ⊎ (at + size_of op ≤ k)
      by (no x) y = inl (lt_of_not-le x)
      by (yes x) (yes y) = inr y
      by (yes x) (no y) = absurd (f l c p e k x (lt_of_not-le y) a d)

  unchanged : (ks : List Link) → ((l : Link) → count l ks ≤ count l L) → Unchanged m n refl (stored_length op m.bytes at v) ks
  unchanged ks g l x c p e =
      area_same m.bytes n.bytes p (placed_at_lem m.windows (length m.bytes) (area_address l) p e).inside (stored_length op m.bytes at v)
      (λ k y z. stored_byte op m.bytes at v k (clear l (omega (arith, g l)) p e k y z))

  write_inv : (quiet : Type 0) (q : Registers) → Sound quiet r q → quiet → Inv L (state q n) b
  write_inv quiet q s k =
      let j : Inv L (state r n) b =
      record {
        valid = i.valid;
        bytes = bytes_stored op at v i.bytes h;
        agree =
            record {
              free = leads_frame m n refl (stored_length op m.bytes at v) b.free (fcx r) (unchanged b.free (λ l. omega (arith, i.same l))) i.agree.free;
              saved = stacked_frame m n refl (stored_length op m.bytes at v) b.saved (pcxi r) (unchanged (links b.saved) (λ l. omega (arith, i.same l))) i.agree.saved;
            };
        same = i.same;
        once = i.once;
      } in
      keep_inv quiet q j s k

-- ---- a return
abbrev pub Restores : Half → Registers → AbstractLists → Type 0
Restores half q b = (c : SavedContext) × (cs : List SavedContext) × (b.saved ≡ c ∷ cs) × (c.half ≡ half) × (named half q ≡ c.registers)

same_half : (h k : Half) → ul_of h ≡ ul_of k → h ≡ k
same_half Upper Upper e = refl
same_half Upper Lower e = absurd (truth.never e)
same_half Lower Upper e = absurd (truth.never (sym e))
same_half Lower Lower e = refl

-- the heads after a load
head_set : (core : List ℕ) (k v : ℕ) → k < length core → get_or (set core k v) k 0 ≡ v
head_set core k v h = get_or-set_same core k v 0 h

module _ (at : ℕ) (r : Registers) (bytes : List ℕ) (w : Valid r) where
  abbrev area : List ℕ
  area = area_at bytes at

  loaded_fcx : (half : Half) → fcx (loaded_at half at r bytes) ≡ (link_of (pcxi r)).0
  loaded_fcx Upper = head_set (set (set r.core 1 (word_at area 4)) 2 (word_at area 0)) 3 (link_of (pcxi r)).0 (simp length-set (omega (arith, w.core.size)))
  loaded_fcx Lower = head_set (set r.core 2 (word_at area 0)) 3 (link_of (pcxi r)).0 (simp length-set (omega (arith, w.core.size)))

  loaded_pcxi : (half : Half) → pcxi (loaded_at half at r bytes) ≡ word_at area 0
  loaded_pcxi Upper =
      get_or-set_other (set (set r.core 1 (word_at area 4)) 2 (word_at area 0)) 3 2 (link_of (pcxi r)).0 0 (λ e. omega arith)
      ∙ head_set (set r.core 1 (word_at area 4)) 2 (word_at area 0) (simp length-set (omega (arith, w.core.size)))
  loaded_pcxi Lower =
      get_or-set_other (set r.core 2 (word_at area 0)) 3 2 (link_of (pcxi r)).0 0 (λ e. omega arith)
      ∙ head_set r.core 2 (word_at area 0) (omega (arith, w.core.size))

module _ (half : Half) (then : Registers → Registers) (t : ReturnThen then) (L : List Link) (r : Registers) (m : Memory) (l : HasPrevious half (pcxi r)) where
  pub record Returned (b : AbstractLists) (x : MadeOf) : Type 0 where
    pub inv : Inv L (state x.registers x.memory) (return_one b.saved b)
    pub stays : (y : Stop) → x.ending ≡ Err y → return_one b.saved b ≡ b
    pub restores : Restores half x.registers b

  returned_by : (fs : List Link) (cs : List SavedContext) → Inv L (state r m) (lists fs cs) → (x : MadeOf) → ReturningCase half then r m x → Returned (lists fs cs) x
  returned_by fs [] i x c = absurd (l.linked (ap (λ (k : Link). k.0) i.agree.saved))
  returned_by fs (c ∷ cs) i x (outside k) =
      let s = i.agree.saved in absurd (never_at (sym k ∙ ap (place_of m) s.0 ∙ s.4))
  returned_by fs (c ∷ cs) i x (returns at k) =
      let s = i.agree.saved in
      let w = i.valid in
      let q = loaded_at half at r m.bytes in
      let is-half : c.half ≡ half = same_half c.half half (sym s.2 ∙ l.is_of_lem) in
      record {
        inv =
            return_inv c cs fs i at k (then q) (t.valid q (loaded_valid w i.bytes at half)) (t.fcx_same q ∙ loaded_fcx at r m.bytes w half) (t.pcxi_same q ∙ loaded_pcxi at r m.bytes w half);
        stays = λ y z. absurd (never_made z);
        restores = (
          c,
          cs,
          refl,
          is-half,
          named_then half then t q ∙ loaded_held half at r m.bytes w ∙ subst (λ (h : Half). held h (area_at m.bytes at) ≡ c.registers) is-half (return_held c cs fs i at k),
        );
      }

-- ---- what is decided
pub record Moves (L : List Link) (d : Decision) (r : Registers) (b : AbstractLists) (x : MadeOf) : Type 0 where
  pub inv : Inv L (state x.registers x.memory) (moved (list_move_of d r) b)
  pub stays : (y : Stop) → x.ending ≡ Err y → moved (list_move_of d r) b ≡ b
  pub restores : RestoredBy d x.registers b

pub decision_moves : {L : List Link} {r : Registers} {m : Memory} {b : AbstractLists} (quiet : Type 0) → quiet → Inv L (state r m) b → (d : Decision) → DecisionSound quiet r m d → StoreApart L m d
    → Moves L d r b (performed_of d r m)
unfolding moved
decision_moves quiet k i (Keep q) s a = record { inv = keep_inv quiet q i s k; stays = λ y z. refl; restores = tt }
decision_moves quiet k i (Write op at v q) s a = record { inv = write_inv i op at v s.1 a quiet q s.0 k; stays = λ y z. refl; restores = tt }
decision_moves {L} {r} {m} {b} quiet k i (Save e half saved-pc then) s a =
    let z = save_moves e half saved-pc s.0 then s.1 L r m i.valid b i _ (saving_case e half saved-pc then r m i.valid s.1) in
    record { inv = z.inv; stays = z.stays; restores = tt }
decision_moves {L} {r} {m} {b} quiet k i (Return half then) s a =
    let z = returned_by half then s.0 L r m s.1 b.free b.saved i _ (returning_case half then r m) in
    record { inv = z.inv; stays = z.stays; restores = z.restores }
