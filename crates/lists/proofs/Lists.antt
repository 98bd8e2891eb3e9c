-- The check of the lists answers exactly what they come to. In particular 6 means an area that was met before.
-- Assumes nothing.
use Prim.Native.Nat.{ℕ, zero, suc, ◌+◌, ◌/◌, ◌^◌, ◌≤◌, ◌<◌}
use native.Mathlib.Omega.{arith}
use mathlib.Core.Path.{◌≡◌, refl, sym, ap, ◌∙◌}
use mathlib.Core.Bool.{Bool, true, false}
use mathlib.Core.Logic.{⊎_elim}
use mathlib.Core.List.{List, [], ◌∷◌}
use lib.ListN.{length, get_or, set, replicate, length-set, get_or-replicate}
use lib.Seq.{get_or-set_same, get_or-set_other}
use Rattle.memory.specs.Memory.{Memory}
use Rattle.memory.specs.Word.{word_at}
use Rattle.fields.specs.Link.{link_of}
use Rattle.areas.specs.Place.{place_of}
use Rattle.lists.specs.Walk.{Walked, walked, list_walk, then_used, lists_of}
use Rattle.lists.specs.Lists.{Leads, one, count, Sound, Why, Comes, ListsCome, at_free, at_used}
use Rattle.fields.specs.declared.link.Link.{Link}
use Rattle.lists.proofs.Counts.{same?, one_self, one_other}
use Rattle.words.specs.Exactly.{Exactly}
use Rattle.words.proofs.Truth.{never}
use Rattle.words.proofs.Answers.{exactly}
use Rattle.areas.proofs.Places.{apart, never_at}
use Rattle.lists.proofs.Walks.{walk_whole, walk_outside, walk_again, walk_on}
use Rattle.lists.proofs.Fuel.{Turn, ends, outside, again, onward, turn, unmet, unmet_le, unmet_set, mark_in}
use Rattle.std.specs.Prelude.{Err, None, Ok, Result, Some, ⊤}
use Rattle.lists.specs.declared.ListFault.{ListFault}
use Rattle.lists.specs.declared.ListFault.TheVariants.{LinkOutside, MetAgain}

-- ---- the marks say which links were met: `c` counts how often
pub record Marked (m : Memory) (met : List Bool) (c : Link → ℕ) : Type 0 where
  pub many : length met ≡ 2048
  pub yes_met : (l : Link) (at : ℕ) → l.0 < 2 ^ 20 → place_of m l ≡ Some at → get_or met (at / 64) false ≡ true → 1 ≤ c l
  pub not_met : (l : Link) (at : ℕ) → l.0 < 2 ^ 20 → place_of m l ≡ Some at → get_or met (at / 64) false ≡ false → c l ≡ 0

marked_same : {m : Memory} {met : List Bool} {c d : Link → ℕ} → ((l : Link) → c l ≡ d l) → Marked m met c → Marked m met d
marked_same h k =
    record { many = k.many; yes_met = λ l at b p e. rw (← h l) (k.yes_met l at b p e); not_met = λ l at b p e. rw (← h l) (k.not_met l at b p e) }

marked_none : (m : Memory) → length m.bytes ≤ 131072 → Marked m (replicate 2048 false) (λ l. 0)
marked_none m small =
    record {
      many = refl;
      yes_met = λ l at b p e. absurd (never (sym e ∙ get_or-replicate 2048 (at / 64) false false (mark_in m l (replicate 2048 false) at small refl p)));
      not_met = λ l at b p e. refl;
    }

-- the area of k is marked
module _ (m : Memory) (small : length m.bytes ≤ 131072) (met : List Bool) (c : Link → ℕ) (g : Marked m met c) (k : Link) (bk : k.0 < 2 ^ 20) (kt : ℕ) (pk : place_of m k ≡ Some kt) where
  other : (l : Link) (at : ℕ) → l.0 < 2 ^ 20 → place_of m l ≡ Some at → (l.0 ≡ k.0 → ⊥) → get_or (set met (kt / 64) true) (at / 64) false ≡ get_or met (at / 64) false
  other l at b p d =
      get_or-set_other met (kt / 64) (at / 64) true false
      (λ e. ⊎_elim (λ x. omega arith) (λ x. omega arith) (apart m.windows (length m.bytes) l k at kt b bk d p pk))

  same_place : (l : Link) (at : ℕ) → l ≡ k → place_of m l ≡ Some at → kt ≡ at
  same_place l at e p = let q : place_of m k ≡ Some at = rw (← e) p in cc

  marked_more : Marked m (set met (kt / 64) true) (λ l. one l k + c l)
  marked_more =
      record {
        many = simp length-set g.many;
        yes_met = λ l at b p e. ⊎_elim (λ s. rw s (omega (arith, one_self k))) (λ d. omega (arith, g.yes_met l at b p (sym (other l at b p d) ∙ e))) (same? l k);
        not_met = λ l at b p e.
            ⊎_elim
            (λ s. absurd (never (sym (get_or-set_same met (kt / 64) true false (mark_in m k met kt small g.many pk))
            ∙ ap (λ (x : ℕ). get_or (set met (kt / 64) true) (x / 64) false) (same_place l at s p) ∙ e)))
            (λ d. omega (arith, one_other l k d, g.not_met l at b p (sym (other l at b p d) ∙ e)))
            (same? l k);
      }

-- ---- what a walk comes to, by counts
why_at : Memory → (Link → ℕ) → Link → Result ⊤ ListFault → Type 0
why_at m c r (Ok _) = r.0 ≡ 0
why_at m c r (Err LinkOutside) = (r.0 ≡ 0 → ⊥) × (place_of m r ≡ None)
why_at m c r (Err MetAgain) = (r.0 ≡ 0 → ⊥) × (at : ℕ) × (place_of m r ≡ Some at) × (1 ≤ c r)

record Goes (m : Memory) (c : Link → ℕ) (l : Link) (w : Walked) : Type 0 where
  met : List Link
  last : Link
  leads : Leads m l met last
  first : (k : Link) → c k + count k met ≤ 1
  why : why_at m (λ k. c k + count k met) last w.end
  marks : Marked m w.met (λ k. c k + count k met)

why_same : (m : Memory) {c d : Link → ℕ} (r : Link) (e : Result ⊤ ListFault) → ((l : Link) → c l ≡ d l) → why_at m c r e → why_at m d r e
unfolding why_at
why_same m r (Ok _) h w = w
why_same m r (Err LinkOutside) h w = w
why_same m r (Err MetAgain) h (z, at, p, k) = (z, at, p, rw (← h r) k)

-- one more link in front
module _ (m : Memory) (c : Link → ℕ) (l : Link) (at : ℕ) (z : l.0 ≡ 0 → ⊥) (p : place_of m l ≡ Some at) (w : Walked) where
  regroup : (k : Link) (ks : List Link) → one k l + c k + count k ks ≡ c k + count k (l ∷ ks)
  regroup k ks = omega arith

  goes_more : Goes m (λ k. one k l + c k) (link_of (word_at m.bytes at)) w → Goes m c l w
  goes_more g =
      record {
        met = l ∷ g.met;
        last = g.last;
        leads = (refl, z, at, p, g.leads);
        first = λ k. omega (arith, g.first k);
        why = why_same m g.last w.end (λ k. regroup k g.met) g.why;
        marks = marked_same (λ k. regroup k g.met) g.marks;
      }

link_lt : (w : ℕ) → (link_of w).0 < 2 ^ 20
link_lt w = omega arith

goes_here : (m : Memory) (c : Link → ℕ) (l : Link) (met : List Bool) (e : Result ⊤ ListFault) → ((k : Link) → c k ≤ 1) → Marked m met c → why_at m (λ k. c k + 0) l e → Goes m c l (walked e met)
goes_here m c l met e o g y =
    record { met = []; last = l; leads = refl; first = λ k. omega (arith, o k); why = y; marks = marked_same (λ k. omega arith) g }

goes : (n : ℕ) (m : Memory) (c : Link → ℕ) (l : Link) (met : List Bool) → length m.bytes ≤ 131072 → l.0 < 2 ^ 20 → ((k : Link) → c k ≤ 1) → Marked m met c → unmet met < n → Goes m c l (list_walk n m l met)
unfolding why_at
goes zero m c l met small b o g u = absurd (omega arith)
goes (suc n) m c l met small b o g u = go (turn m l met) (goes n m)
  where
    go : Turn m l met
        → ((d : Link → ℕ) (k : Link) (s : List Bool) → length m.bytes ≤ 131072 → k.0 < 2 ^ 20 → ((x : Link) → d x ≤ 1) → Marked m s d → unmet s < n → Goes m d k (list_walk n m k s))
        → Goes m c l (list_walk (suc n) m l met)
    go (ends e) r = rw (walk_whole n m l met e) (goes_here m c l met (Ok tt) o g e)
    go (outside z p) r = rw (walk_outside n m l met z p) (goes_here m c l met (Err LinkOutside) o g (z, p))
    go (again at z p t) r = rw (walk_again n m l met z at p t) (goes_here m c l met (Err MetAgain) o g (z, at, p, omega (arith, g.yes_met l at b p t)))
    go (onward at z p t) r =
        rw (walk_on n m l met z at p t)
        (goes_more m c l at z p (list_walk n m (link_of (word_at m.bytes at)) (set met (at / 64) true))
        (r (λ k. one k l + c k) (link_of (word_at m.bytes at)) (set met (at / 64) true) small (link_lt (word_at m.bytes at))
        fresh
        (marked_more m small met c g l b at p)
        (omega (arith, unmet_set met (at / 64) (mark_in m l met at small g.many p) t))))
      where
        fresh : (k : Link) → one k l + c k ≤ 1
        fresh k = ⊎_elim (λ s. rw s (omega (arith, one_self l, g.not_met l at b p t))) (λ d. omega (arith, one_other k l d, o k)) (same? k l)

-- ---- in the words of specs/Lists.antt
why_of : (m : Memory) (before met : List Link) (r : Link) (e : Result ⊤ ListFault) → why_at m (λ k. count k before + count k met) r e → Why m before met r e
unfolding why_at
why_of m before met r (Ok _) w = w
why_of m before met r (Err LinkOutside) w = w
why_of m before met r (Err MetAgain) w = w

of_why : (m : Memory) (before met : List Link) (r : Link) (e : Result ⊤ ListFault) → Why m before met r e → why_at m (λ k. count k before + count k met) r e
unfolding why_at
of_why m before met r (Ok _) w = w
of_why m before met r (Err LinkOutside) w = w
of_why m before met r (Err MetAgain) w = w

comes_of : (m : Memory) (before : List Link) (l : Link) (w : Walked) (e : Result ⊤ ListFault) → w.end ≡ e → Goes m (λ k. count k before) l w → Comes m before l e
comes_of m before l w e q g =
    record { met = g.met; last = g.last; leads = g.leads; first = g.first; why = why_of m before g.met g.last e (rw q at g.why) }

-- ---- a list comes to one thing alone
-- a link at which a walk ends is not one that a walk goes on from
stuck : (m : Memory) (c : Link → ℕ) (r : Link) (e : Result ⊤ ListFault) (at : ℕ) → why_at m c r e → (r.0 ≡ 0 → ⊥) → place_of m r ≡ Some at → c r ≡ 0 → ⊥
unfolding why_at
stuck m c r (Ok _) at w z p n = z w
stuck m c r (Err LinkOutside) at w z p n = never_at (sym w.1 ∙ p)
stuck m c r (Err MetAgain) at (y, bt, q, k) z p n = omega arith

-- the same links lead to the same end
pub record Same (ls ks : List Link) (r s : Link) : Type 0 where
  pub links : ls ≡ ks
  pub last : r ≡ s

unique : (m : Memory) (c : Link → ℕ) (l : Link) (ls ks : List Link) (r s : Link) (e f : Result ⊤ ListFault) → Leads m l ls r → Leads m l ks s
    → ((k : Link) → c k + count k ls ≤ 1) → ((k : Link) → c k + count k ks ≤ 1) → why_at m (λ k. c k + count k ls) r e → why_at m (λ k. c k + count k ks) s f → Same ls ks r s
unique m c l [] [] r s e f p q o u x y = record { links = refl; last = sym p ∙ q }
unique m c l [] (k ∷ ks) r s e f p (h, z, at, i, t) o u x y =
    absurd (stuck m (λ k. c k + 0) r e at x (λ n. z (ap (λ (v : Link). v.0) p ∙ n)) (rw (← p) i) (rw (← p, h) (omega (arith, u k, one_self k))))
unique m c l (j ∷ js) [] r s e f (h, z, at, i, t) q o u x y =
    absurd (stuck m (λ k. c k + 0) s f at y (λ n. z (ap (λ (v : Link). v.0) q ∙ n)) (rw (← q) i) (rw (← q, h) (omega (arith, o j, one_self j))))
unique m c l (j ∷ js) (k ∷ ks) r s e f (h, z, at, i, t) (h', z', bt, i', t') o u x y =
    let a : at ≡ bt = cc in
    let jk : j ≡ k = sym h ∙ h' in
    let d : Link → ℕ = λ v. one v j + c v in
    let g : Same js ks r s =
    unique m d (link_of (word_at m.bytes at)) js ks r s e f t (rw a t') (λ v. omega (arith, o v))
    (λ v. (let n : c v + (one v j + count v ks) ≤ 1 = rw jk (u v) in omega arith))
    (why_same m r e (λ v. omega arith) x)
    (why_same m s f (λ v. (let n : one v j ≡ one v k = rw jk in omega arith)) y) in
    record { links = rw (jk, g.links); last = g.last }

ends_alike : (m : Memory) (c d : Link → ℕ) (r : Link) (e f : Result ⊤ ListFault) → ((k : Link) → c k ≡ d k) → why_at m c r e → why_at m d r f → e ≡ f
unfolding why_at
ends_alike m c d r (Ok _) (Ok _) h x y = refl
ends_alike m c d r (Ok _) (Err LinkOutside) h x y = absurd (y.0 x)
ends_alike m c d r (Ok _) (Err MetAgain) h x y = absurd (y.0 x)
ends_alike m c d r (Err LinkOutside) (Ok _) h x y = absurd (x.0 y)
ends_alike m c d r (Err LinkOutside) (Err LinkOutside) h x y = refl
ends_alike m c d r (Err LinkOutside) (Err MetAgain) h x (z, at, p, k) = absurd (never_at (sym x.1 ∙ p))
ends_alike m c d r (Err MetAgain) (Ok _) h x y = absurd (x.0 y)
ends_alike m c d r (Err MetAgain) (Err LinkOutside) h (z, at, p, k) y = absurd (never_at (sym y.1 ∙ p))
ends_alike m c d r (Err MetAgain) (Err MetAgain) h x y = refl

-- two accounts of a list agree
module _ (m : Memory) (before after : List Link) (alike : before ≡ after) (l : Link) (e f : Result ⊤ ListFault) (g : Comes m before l e) (h : Comes m after l f) where
  both : Same g.met h.met g.last h.last
  both =
      unique m (λ k. count k before) l g.met h.met g.last h.last e f g.leads h.leads g.first (λ k. rw alike (h.first k))
      (of_why m before g.met g.last e g.why)
      (why_same m h.last f (λ k. rw alike) (of_why m after h.met h.last f h.why))

  pub comes_links : g.met ≡ h.met
  comes_links = both.links

  pub comes_alike : e ≡ f
  comes_alike =
      ends_alike m (λ k. count k before + count k g.met) (λ k. count k after + count k h.met) h.last e f
      (λ k. rw (alike, both.links))
      (rw (← both.last) (of_why m before g.met g.last e g.why))
      (of_why m after h.met h.last f h.why)

-- ---- the two lists
module _ (m : Memory) (small : length m.bytes ≤ 131072) (fcx pcxi : ℕ) where
  free_walk : Walked
  free_walk = list_walk 2049 m (link_of fcx) (replicate 2048 false)

  free_goes : Goes m (λ k. 0) (link_of fcx) free_walk
  unfolding free_walk
  free_goes =
      goes 2049 m (λ k. 0) (link_of fcx) (replicate 2048 false) small (link_lt fcx) (λ k. omega arith) (marked_none m small) (omega (arith, unmet_le (replicate 2048 false)))

  used_goes : (ls : List Link) → ((k : Link) → count k ls ≤ 1) → Marked m free_walk.met (λ k. count k ls) → Goes m (λ k. count k ls) (link_of pcxi) (list_walk 2049 m (link_of pcxi) free_walk.met)
  used_goes ls o g = goes 2049 m (λ k. count k ls) (link_of pcxi) free_walk.met small (link_lt pcxi) o g (omega (arith, unmet_le free_walk.met, g.many))

  lists_by : (e : Result ⊤ ListFault) → free_walk.end ≡ e → Goes m (λ k. 0) (link_of fcx) free_walk → ListsCome m fcx pcxi (then_used m pcxi e free_walk.met)
  unfolding comes_of
  lists_by (Ok tt) q g =
      at_used (comes_of m [] (link_of fcx) free_walk (Ok tt) q g)
      (comes_of m g.met (link_of pcxi) (list_walk 2049 m (link_of pcxi) free_walk.met) (then_used m pcxi (Ok tt) free_walk.met) refl
      (used_goes g.met (λ k. omega (arith, g.first k)) (marked_same (λ k. omega arith) g.marks)))
  lists_by (Err LinkOutside) q g = at_free (λ z. (let n : ◌≡◌ {A = ℕ} 0 1 = cc in omega arith)) (comes_of m [] (link_of fcx) free_walk (Err LinkOutside) q g)
  lists_by (Err MetAgain) q g = at_free (λ z. (let n : ◌≡◌ {A = ℕ} 0 1 = cc in omega arith)) (comes_of m [] (link_of fcx) free_walk (Err MetAgain) q g)

  -- the check's answer is what the lists come to
  pub lists_come : ListsCome m fcx pcxi (lists_of m fcx pcxi)
  unfolding lists_of free_walk
  lists_come = lists_by free_walk.end refl free_goes

  -- and they come to nothing else
  pub lists_only : (e f : Result ⊤ ListFault) → ListsCome m fcx pcxi e → ListsCome m fcx pcxi f → e ≡ f
  lists_only e f (at_free d g) (at_free d' h) = comes_alike m [] [] refl (link_of fcx) e f g h
  lists_only e f (at_free d g) (at_used h i) = absurd (d (comes_alike m [] [] refl (link_of fcx) e (Ok tt) g h))
  lists_only e f (at_used g i) (at_free d h) = absurd (d (comes_alike m [] [] refl (link_of fcx) f (Ok tt) h g))
  lists_only e f (at_used g i) (at_used h j) =
      comes_alike m g.met h.met (comes_links m [] [] refl (link_of fcx) (Ok tt) (Ok tt) g h) (link_of pcxi) e f i j

  -- so it is given exactly where they come to it
  pub lists_exactly : (r : Result ⊤ ListFault) → r ≡ lists_of m fcx pcxi → (r ≡ lists_of m fcx pcxi) × Exactly (ListsCome m fcx pcxi) r
  lists_exactly = exactly (ListsCome m fcx pcxi) (lists_of m fcx pcxi) lists_come (λ x p. lists_only x (lists_of m fcx pcxi) p lists_come)

  -- whole lists are sound ones: rules 5 and 6 hold
  pub sound_of : ListsCome m fcx pcxi (Ok tt) → Sound m fcx pcxi
  sound_of (at_free d g) = absurd (d refl)
  sound_of (at_used g h) =
      record {
        free = g.met;
        used = h.met;
        free_linked = (g.last, g.leads, g.why);
        used_linked = (h.last, h.leads, h.why);
        once = h.first;
      }

  pub of_sound : Sound m fcx pcxi → ListsCome m fcx pcxi (Ok tt)
  of_sound s =
      at_used
      (record { met = s.free; last = s.free_linked.0; leads = s.free_linked.1; first = λ k. omega (arith, s.once k); why = s.free_linked.2 })
      (record { met = s.used; last = s.used_linked.0; leads = s.used_linked.1; first = s.once; why = s.used_linked.2 })
