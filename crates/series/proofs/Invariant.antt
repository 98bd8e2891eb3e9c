-- The invariant of a series, and the two moves: a save and a return.
-- Assumes nothing.
use Prim.Native.Nat.{ℕ, ◌+◌, ◌^◌, ◌≤◌, ◌<◌}
use native.Mathlib.Omega.{arith}
use mathlib.Core.Path.{◌≡◌, refl, sym, ap, subst, ◌∙◌}
use mathlib.Core.Logic.{◌⊎◌}
use mathlib.Core.List.{List, ◌∷◌}
use lib.ListN.{length, get_or}
use Rattle.memory.specs.Memory.{Memory, memory}
use Rattle.memory.specs.Word.{word_at, put_word, put_words}
use Rattle.memory.proofs.Words.{put_word_length, put_words_length}
use Rattle.fields.specs.Pcxi.{pcxi_ul, pcxi_of}
use Rattle.fields.proofs.Links.{link_below, link_twice}
use Rattle.bounds.proofs.Fields.{pcxi_link, pcxi_ul_lem}
use Rattle.registers.specs.Registers.{pcxi, fcx, icr}
use Rattle.registers.specs.declared.Registers.{Registers}
use Rattle.fields.specs.Link.{link_of}
use Rattle.areas.specs.Link.{area_address}
use Rattle.areas.specs.Place.{place_of}
use Rattle.areas.specs.Area.{area_at}
use Rattle.fields.specs.declared.link.Link.{Link}
use Rattle.areas.proofs.Places.{apart, placed_at_lem}
use Rattle.areas.proofs.Parts.{area_first}
use Rattle.lists.specs.Lists.{Leads, count}
use Rattle.lists.proofs.Counts.{one_self}
use Rattle.contexts.specs.Context.{ul_of, upper_of, lower_of, context_of}
use Rattle.contexts.specs.declared.context.Half.{Half}
use Rattle.contexts.specs.declared.context.Half.TheVariants.{Upper, Lower}
use Rattle.decisions.specs.Valid.{Valid, Bytes}
use Rattle.decisions.proofs.Memories.{bytes_word, bytes_words, context_words}
use Rattle.series.specs.Abstract.{named, held, SavedContext, context, AbstractLists, lists, links}
use Rattle.series.specs.Calls.{State, state}
use Rattle.series.specs.Claim.{end, Stacked, Agree}
use Rattle.series.proofs.Areas.{written_first, written_apart, held_written, linked_word, linked_apart}
use Rattle.series.proofs.Frames.{Unchanged, leads_frame, stacked_frame, place_same}
use Rattle.std.specs.Prelude.{Some}

-- L are the areas listed at the start
pub record Inv (L : List Link) (s : State) (b : AbstractLists) : Type 0 where
  pub valid : Valid s.registers
  pub bytes : Bytes s.memory.bytes
  pub agree : Agree s b
  pub same : (l : Link) → count l b.free + count l (links b.saved) ≡ count l L
  pub once : (l : Link) → count l L ≤ 1

at_inj : {a b : ℕ} → Some a ≡ Some b → a ≡ b
at_inj e = cc

-- two places of one link are the same
pub same_place : (m : Memory) (l : Link) (a b : ℕ) → place_of m l ≡ Some a → place_of m l ≡ Some b → a ≡ b
same_place m l a b p q = at_inj (sym p ∙ q)

-- other links' areas lie apart
others : (m : Memory) (l : Link) (at : ℕ) → l.0 < 2 ^ 20 → place_of m l ≡ Some at → (k : Link) → k.0 < 2 ^ 20 → (l.0 ≡ k.0 → ⊥) → (p : ℕ) → place_of m k ≡ Some p → ((at + 64 ≤ p) ⊎ (p + 64 ≤ at)) × (p + 64 ≤ length m.bytes)
others m l at h e k g n p f = (apart m.windows (length m.bytes) l k at p h g n e f, (placed_at_lem m.windows (length m.bytes) (area_address k) p f).inside)

-- a link that stands on a list where l does not is another one
not_on : (l k : Link) (ks : List Link) → count l ks ≡ 0 → 1 ≤ count k ks → l.0 ≡ k.0 → ⊥
not_on l k ks z c e = let s : l ≡ k = ap (λ (n : ℕ). record { 0 = n }) e in let y : count k ks ≡ 0 = subst (λ (j : Link). count j ks ≡ 0) s z in omega arith

module _ {L : List Link} {r : Registers} {m : Memory} where
  -- ---- a save
  module _ (l : Link) (ls : List Link) (cs : List SavedContext) (i : Inv L (state r m) (lists (l ∷ ls) cs)) (half : Half) (saved-pc : ℕ) (h : saved-pc < 2 ^ 32)
      (at : ℕ) (p : place_of m (link_of (fcx r)) ≡ Some at) where
    abbrev ws : List ℕ
    ws = context_of half saved-pc r

    abbrev n : Memory
    n = memory m.windows (put_words m.bytes at ws 16)

    is_l : link_of (fcx r) ≡ l
    is_l = i.agree.free.0

    place_l : place_of m l ≡ Some at
    place_l = ap (place_of m) (sym is_l) ∙ p

    inside : at + 64 ≤ length m.bytes
    inside = (placed_at_lem m.windows (length m.bytes) (area_address (link_of (fcx r))) at p).inside

    -- l stands on neither list otherwise
    fresh : (count l ls ≡ 0) × (count l (links cs) ≡ 0)
    fresh = (omega (arith, i.same l, i.once l, one_self l), omega (arith, i.same l, i.once l, one_self l))

    unchanged : (ks : List Link) → count l ks ≡ 0 → Unchanged m n refl (put_words_length m.bytes at ws 16) ks
    unchanged ks z k b c q f =
        let o = others m l at (link_below (fcx r) is_l) place_l k b (not_on l k ks z c) q f in
        written_apart m.bytes at ws inside (context_words i.valid half saved-pc h) q o.0 o.1

    words : (k : ℕ) → get_or ws k 0 < 2 ^ 32
    words = context_words i.valid half saved-pc h

    first_word : word_at n.bytes at ≡ pcxi r
    unfolding upper_of lower_of
    first_word = written_first m.bytes at ws inside words ∙ first half
      where
        first : (half : Half) → get_or (context_of half saved-pc r) 0 0 ≡ pcxi r
        first Upper = refl
        first Lower = refl

    pub save_inv : (q : Registers) → Valid q → fcx q ≡ (link_of (word_at m.bytes at)).0 → pcxi q ≡ pcxi_of (icr r) (ul_of half) (link_of (fcx r))
        → Inv L (state q n) (lists ls (context l half (named half r) ∷ cs))
    save_inv q v ef ep =
        let t = i.agree.free in
        let same_at : t.2 ≡ at = same_place m (link_of (fcx r)) t.2 at t.3 p in
        let onward : Leads m (link_of (word_at m.bytes at)) ls end = subst (λ (a : ℕ). Leads m (link_of (word_at m.bytes a)) ls end) same_at t.4 in
        let again : link_of (fcx q) ≡ link_of (word_at m.bytes at) = ap (λ (w : ℕ). link_of w) ef ∙ link_twice (word_at m.bytes at) in
        record {
          valid = v;
          bytes = bytes_words at ws 16 i.bytes words;
          agree =
              record {
                free = rw again (leads_frame m n refl (put_words_length m.bytes at ws 16) ls (word_at m.bytes at) (unchanged ls fresh.0) onward);
                saved = (
                  ap (λ (w : ℕ). link_of w) ep ∙ pcxi_link (icr r) (ul_of half) (fcx r) ∙ is_l,
                  (λ z. t.1 (ap (λ (k : Link). k.0) is_l ∙ z)),
                  ap pcxi_ul ep ∙ pcxi_ul_lem (icr r) (ul_of half) (fcx r),
                  at,
                  place_same m n refl (put_words_length m.bytes at ws 16) l ∙ place_l,
                  held_written half saved-pc r m.bytes at inside words,
                  rw first_word (stacked_frame m n refl (put_words_length m.bytes at ws 16) cs (pcxi r) (unchanged (links cs) fresh.1) i.agree.saved),
                );
              };
          same = λ k. omega (arith, i.same k);
          once = i.once;
        }

  -- ---- a return
  module _ (c : SavedContext) (cs : List SavedContext) (fs : List Link) (i : Inv L (state r m) (lists fs (c ∷ cs))) (at : ℕ) (p : place_of m (link_of (pcxi r)) ≡ Some at) where
    abbrev n' : Memory
    n' = memory m.windows (put_word m.bytes at (fcx r))

    is_c : link_of (pcxi r) ≡ c.link
    is_c = i.agree.saved.0

    place_c : place_of m c.link ≡ Some at
    place_c = ap (place_of m) (sym is_c) ∙ p

    inside' : at + 64 ≤ length m.bytes
    inside' = (placed_at_lem m.windows (length m.bytes) (area_address (link_of (pcxi r))) at p).inside

    fresh' : (count c.link fs ≡ 0) × (count c.link (links cs) ≡ 0)
    fresh' = (omega (arith, i.same c.link, i.once c.link, one_self c.link), omega (arith, i.same c.link, i.once c.link, one_self c.link))

    unchanged' : (ks : List Link) → count c.link ks ≡ 0 → Unchanged m n' refl (put_word_length m.bytes at (fcx r)) ks
    unchanged' ks z k b d q f =
        let o = others m c.link at (link_below (pcxi r) is_c) place_c k b (not_on c.link k ks z d) q f in
        linked_apart m.bytes at (fcx r) q o.0 o.1

    -- the area holds the context that comes off
    pub return_held : held c.half (area_at m.bytes at) ≡ c.registers
    return_held =
        let t = i.agree.saved in
        subst (λ (a : ℕ). held c.half (area_at m.bytes a) ≡ c.registers) (same_place m c.link t.3 at t.4 place_c) t.5

    pub return_inv : (q : Registers) → Valid q → fcx q ≡ (link_of (pcxi r)).0 → pcxi q ≡ word_at (area_at m.bytes at) 0 → Inv L (state q n') (lists (c.link ∷ fs) cs)
    return_inv q v ef ep =
        let t = i.agree.saved in
        let same_at : t.3 ≡ at = same_place m c.link t.3 at t.4 place_c in
        let onward : Stacked m (word_at m.bytes at) cs = subst (λ (a : ℕ). Stacked m (word_at m.bytes a) cs) same_at t.6 in
        let is : link_of (fcx q) ≡ c.link = ap (λ (w : ℕ). link_of w) ef ∙ link_twice (pcxi r) ∙ is_c in
        let back : word_at n'.bytes at ≡ fcx r = linked_word m.bytes at (fcx r) (omega (arith, inside')) (i.valid.core.each 3) in
        record {
          valid = v;
          bytes = bytes_word at (fcx r) i.bytes (i.valid.core.each 3);
          agree =
              record {
                free = (
                  is,
                  (λ z. t.1 (ap (λ (k : Link). k.0) (sym is) ∙ z)),
                  at,
                  ap (place_of n') is ∙ place_same m n' refl (put_word_length m.bytes at (fcx r)) c.link ∙ place_c,
                  rw back (leads_frame m n' refl (put_word_length m.bytes at (fcx r)) fs (fcx r) (unchanged' fs fresh'.0) i.agree.free),
                );
                saved =
                    rw (ep, area_first m.bytes at)
                    (stacked_frame m n' refl (put_word_length m.bytes at (fcx r)) cs (word_at m.bytes at) (unchanged' (links cs) fresh'.1) onward);
              };
          same = λ k. omega (arith, i.same k);
          once = i.once;
        }
