-- From an accepted start to the invariant, and the theorem.
-- Assumes nothing.
use Prim.Native.Nat.{ℕ, ◌+◌, ◌%◌, ◌≤◌}
use native.Mathlib.Omega.{arith}
use mathlib.Core.Path.{◌≡◌, refl, sym, ap, ap₂, subst, ◌∙◌}
use mathlib.Core.Bool.{Bool, true, false}
use mathlib.Core.List.{List, [], ◌∷◌}
use Rattle.memory.specs.Memory.{Memory}
use Rattle.memory.specs.Word.{word_at}
use Rattle.fields.specs.Pcxi.{pcxi_ul}
use Rattle.registers.specs.Registers.{pc, fcx, pcxi}
use Rattle.fields.specs.Link.{link_of}
use Rattle.areas.specs.Area.{area_at}
use Rattle.fields.specs.declared.link.Link.{Link}
use Rattle.lists.specs.Lists.{Leads, count, Sound}
use Rattle.contexts.specs.Context.{ul_of}
use Rattle.contexts.specs.declared.context.Half.{Half}
use Rattle.contexts.specs.declared.context.Half.TheVariants.{Upper, Lower}
use Rattle.inputs.specs.Checks.{start_verdict}
use Rattle.inputs.proofs.Verdicts.{start_says}
use Rattle.decisions.specs.Valid.{Valid, Bytes}
use Rattle.series.specs.Abstract.{held, SavedContext, context, AbstractLists, lists, links}
use Rattle.series.specs.Calls.{State, all_args}
use Rattle.series.specs.Conditions.{moved_all}
use Rattle.series.specs.Claim.{end, Stacked, Agree, listed, Follows}
use Rattle.series.proofs.Frames.{count_both, stacked_leads}
use Rattle.series.proofs.Invariant.{Inv, same_place}
use Rattle.series.proofs.Series.{series_turns}
use Rattle.std.specs.Prelude.{Ok}

-- ---- a list is met in one way
pub leads_alike : (m : Memory) (ks js : List Link) (l : Link) → Leads m l ks end → Leads m l js end → ks ≡ js
leads_alike m [] [] l p q = refl
leads_alike m [] (j ∷ js) l p q = absurd (q.1 (ap (λ (k : Link). k.0) p))
leads_alike m (k ∷ ks) [] l p q = absurd (p.1 (ap (λ (j : Link). j.0) q))
leads_alike m (k ∷ ks) (j ∷ js) l p q =
    let e : k ≡ j = sym p.0 ∙ q.0 in
    let a : q.2 ≡ p.2 = same_place m l q.2 p.2 q.3 p.3 in
    ap₂ ◌∷◌ e (leads_alike m ks js (link_of (word_at m.bytes p.2)) p.4 (subst (λ (x : ℕ). Leads m (link_of (word_at m.bytes x)) js end) a q.4))

-- ---- the saved contexts as they stand in memory: each area read by the UL of the word that links to it
half_of : Bool → Half
half_of true = Upper
half_of false = Lower

half_ul : (b : Bool) → b ≡ ul_of (half_of b)
unfolding half_of
half_ul true = refl
half_ul false = refl

record Read (m : Memory) (w : ℕ) : Type 0 where
  saved : List SavedContext
  stacked : Stacked m w saved

read_all : (m : Memory) (ls : List Link) (w : ℕ) → Leads m (link_of w) ls end → Read m w
read_all m [] w h = record { saved = []; stacked = h }
read_all m (l ∷ ls) w (e, z, at, p, t) =
    let rest = read_all m ls (word_at m.bytes at) t in
    let half = half_of (pcxi_ul w) in
    record {
      saved = context (link_of w) half (held half (area_at m.bytes at)) ∷ rest.saved;
      stacked = (refl, z, half_ul (pcxi_ul w), at, p, refl, rest.stacked);
    }

module _ (s : State) (v : Valid s.registers) (y : Bytes s.memory.bytes) (sound : Sound s.memory (fcx s.registers) (pcxi s.registers)) where
  abbrev m : Memory
  m = s.memory

  to_end : (l : Link) (ls : List Link) → (r : Link) × Leads m l ls r × (r.0 ≡ 0) → Leads m l ls end
  to_end l ls (r, p, e) = subst (λ (k : Link). Leads m l ls k) (ap (λ (n : ℕ). record { 0 = n }) e) p

  free_met : Leads m (link_of (fcx s.registers)) sound.free end
  free_met = to_end (link_of (fcx s.registers)) sound.free sound.free_linked

  used_met : Leads m (link_of (pcxi s.registers)) sound.used end
  used_met = to_end (link_of (pcxi s.registers)) sound.used sound.used_linked

  -- the lists at the start have their abstract lists
  pub begin : (b : AbstractLists) × Agree s b
  begin =
      let r = read_all m sound.used (pcxi s.registers) used_met in
      (lists sound.free r.saved, record { free = free_met; saved = r.stacked })

  pub start_inv : (b : AbstractLists) → Agree s b → Inv (listed b) s b
  start_inv b a =
      let f : b.free ≡ sound.free = leads_alike m b.free sound.free (link_of (fcx s.registers)) a.free free_met in
      let u : links b.saved ≡ sound.used = leads_alike m (links b.saved) sound.used (link_of (pcxi s.registers)) (stacked_leads m b.saved (pcxi s.registers) a.saved) used_met in
      record {
        valid = v;
        bytes = y;
        agree = a;
        same = λ l. sym (count_both l b.free (links b.saved));
        once = λ l. (let c : count l b.free + count l (links b.saved) ≤ 1 = rw (f, u) (sound.once l) in omega (arith, count_both l b.free (links b.saved)));
      }

  pub from_sound : Follows s
  from_sound =
      record {
        begins = begin;
        holds = λ b a cs q.
            (let i = start_inv b a in
            let t = series_turns (listed b) cs s b i q in
            let now = moved_all (all_args cs s) b in
            record {
              agree = t.0.agree;
              same = λ l. count_both l now.free (links now.saved) ∙ t.0.same l;
              once = i.once;
              steps = t.1;
            });
      }

-- demand 3, of every state that the code can hold: from a start that all seven rules accept, with any image
module _ (s : State) (img : List ℕ) (e : start_verdict s.memory img (pc s.registers) (fcx s.registers) (pcxi s.registers) ≡ (Ok tt)) where
  pub follows : Valid s.registers → Bytes s.memory.bytes → Follows s
  follows v y = from_sound s v y (rw e at (start_says s.memory img (pc s.registers) (fcx s.registers) (pcxi s.registers))).1

  -- its PC is even
  pub start_even : pc s.registers % 2 ≡ 0
  start_even = (rw e at (start_says s.memory img (pc s.registers) (fcx s.registers) (pcxi s.registers))).0.even
