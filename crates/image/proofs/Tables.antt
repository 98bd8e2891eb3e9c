-- The table's check answers exactly rule 2, and its first fault.
-- Assumes nothing.
use Rattle.std.proofs.Common.{◌≡◌, ℕ, zero, suc, ◌+◌, ◌-◌, ◌*◌, ◌<◌, ◌≤◌, Bool, true, false, ◌||◌, ltb, List, length, sym, refl, ap, ◌∙◌, subst, lt_of_not-le, add-one, arith, ltb-false, le-ltb, eq-eqb, ne_eqb}
use native.Mathlib.Decide.{dec_le, ℕ_discrete}
use Rattle.image.specs.Table.{entries_of, entry_at, bodies_of, range_end, entry_holds, entries_from, table_of}
use Rattle.image.specs.Rules.{start_of, floor_of, EntryAt, Counted, TableRight, TableFault, uncounted, at_entry, left_over, TableSays}
use Rattle.image.specs.declared.table.Entry.{Entry}
use Rattle.words.specs.Exactly.{Exactly}
use Rattle.words.proofs.Truth.{never, either_false}
use Rattle.words.proofs.Answers.{exactly}
use Rattle.image.proofs.Tests.{entry_right, right_entry}
use Rattle.std.specs.Prelude.{Err, Ok, Result, ⊤}
use Rattle.image.specs.declared.table.ImageFault.TheVariants.{Record, Table}
use Rattle.image.specs.declared.table.ImageFault.{ImageFault}

-- ---- the cases of a turn
module _ (k : ℕ) (img : List ℕ) (i start floor : ℕ) where
  pub entries_end : start ≡ length img → entries_from 0 img i start floor ≡ Ok tt
  unfolding entries_from
  entries_end e = rw (eq-eqb start (length img) e)

  pub entries_over : (start ≡ length img → ⊥) → entries_from 0 img i start floor ≡ Err (Table i)
  unfolding entries_from
  entries_over d = rw (ne_eqb start (length img) d)

  pub entries_on : entry_holds img (entry_at img i) start floor ≡ true
      → entries_from (suc k) img i start floor ≡ entries_from k img (i + 1) (start + 8 * (entry_at img i).records) (range_end img (entry_at img i))
  unfolding entries_from
  entries_on t = rw t

  pub entries_fault : entry_holds img (entry_at img i) start floor ≡ false → entries_from (suc k) img i start floor ≡ Err (Table (i + 1))
  unfolding entries_from
  entries_fault t = rw t

-- the same with n entries in all, as the loop counts them
module _ (n : ℕ) (img : List ℕ) (i start floor : ℕ) (e : Entry) (is : e ≡ entry_at img i) where
  pub turn_on : i < n → entry_holds img e start floor ≡ true
      → entries_from (n - (i + 1)) img (i + 1) (start + 8 * e.records) (range_end img e) ≡ entries_from (n - i) img i start floor
  turn_on h t = let j : n - i ≡ suc (n - (i + 1)) = omega arith in rw (j, is) (sym (entries_on (n - (i + 1)) img i start floor (rw is at t)))

  pub turn_fault : i < n → entry_holds img e start floor ≡ false → Err (Table (i + 1)) ≡ entries_from (n - i) img i start floor
  turn_fault h t = let j : n - i ≡ suc (n - (i + 1)) = omega arith in rw j (sym (entries_fault (n - (i + 1)) img i start floor (rw is at t)))

module _ (n : ℕ) (img : List ℕ) (i start floor : ℕ) (h : i ≤ n) (k : n ≤ i) where
  pub turn_end : start ≡ length img → Ok tt ≡ entries_from (n - i) img i start floor
  turn_end e = let j : n - i ≡ 0 = omega arith in rw j (sym (entries_end 0 img i start floor e))

  pub turn_over : (start ≡ length img → ⊥) → Err (Table n) ≡ entries_from (n - i) img i start floor
  turn_over d = let j : n - i ≡ 0 = omega arith in let q : n ≡ i = omega arith in rw (j, q) (sym (entries_over 0 img i start floor d))

-- ---- what the entries from place i on say, those before being right
module _ (img : List ℕ) (g : Counted img) where
  before_more : (i : ℕ) → ((j : ℕ) → j < i → EntryAt img j) → EntryAt img i → (j : ℕ) → j < suc i → EntryAt img j
  before_more i b r j h = go (dec_le i j)
    where
      go : Dec (i ≤ j) → EntryAt img j
      go (yes p) = let e : i ≡ j = omega arith in subst (EntryAt img) e r
      go (no p) = b j (lt_of_not-le p)

  entries_say : (k i : ℕ) → i + k ≡ entries_of img → ((j : ℕ) → j < i → EntryAt img j) → TableSays img (entries_from k img i (start_of img i) (floor_of img i))
  entries_say zero i e b = go (ℕ_discrete (start_of img i) (length img))
    where
      n : i ≡ entries_of img
      n = omega arith

      all : (j : ℕ) → j < entries_of img → EntryAt img j
      all = subst (λ (x : ℕ). (j : ℕ) → j < x → EntryAt img j) n b

      go : Dec (start_of img i ≡ length img) → TableSays img (entries_from 0 img i (start_of img i) (floor_of img i))
      go (yes p) = rw (entries_end 0 img i (start_of img i) (floor_of img i) p) (record { counted = g; entries = all; ends = ap (start_of img) (sym n) ∙ p })
      go (no d) = rw (entries_over 0 img i (start_of img i) (floor_of img i) d) (left_over g all (λ p. d (ap (start_of img) n ∙ p)) n)
  entries_say (suc k) i e b = go (entry_holds img (entry_at img i) (start_of img i) (floor_of img i)) refl (entries_say k (suc i))
    where
      more : start_of img i + 8 * (entry_at img i).records ≡ start_of img (suc i)
      more = omega arith

      go : (t : Bool) → entry_holds img (entry_at img i) (start_of img i) (floor_of img i) ≡ t
          → (suc i + k ≡ entries_of img → ((j : ℕ) → j < suc i → EntryAt img j) → TableSays img (entries_from k img (suc i) (start_of img (suc i)) (floor_of img (suc i))))
          → TableSays img (entries_from (suc k) img i (start_of img i) (floor_of img i))
      go true t r =
          rw (entries_on k img i (start_of img i) (floor_of img i) t, more, add-one)
          (r (omega arith) (before_more i b (entry_right img (entry_at img i) (start_of img i) (floor_of img i) t)))
      go false t r =
          rw (entries_fault k img i (start_of img i) (floor_of img i) t)
          (at_entry g i (omega arith) b (λ h. never (sym (right_entry img (entry_at img i) (start_of img i) (floor_of img i) h) ∙ t)) refl)

-- ---- the whole table
module _ (img : List ℕ) where
  bad : Bool
  bad = ltb (length img) 4 || ltb (entries_of img) 1 || ltb 16 (entries_of img) || ltb (length img) (bodies_of img)

  counted_of : bad ≡ false → Counted img
  unfolding bad
  counted_of h =
      let p4 = either_false (ltb (length img) 4 || ltb (entries_of img) 1 || ltb 16 (entries_of img)) (ltb (length img) (bodies_of img)) h in
      let p3 = either_false (ltb (length img) 4 || ltb (entries_of img) 1) (ltb 16 (entries_of img)) p4.0 in
      let p2 = either_false (ltb (length img) 4) (ltb (entries_of img) 1) p3.0 in
      record {
        word = ltb-false (length img) 4 p2.0;
        some = ltb-false (entries_of img) 1 p2.1;
        most = ltb-false 16 (entries_of img) p3.1;
        whole = ltb-false (length img) (bodies_of img) p4.1;
      }

  of_counted : Counted img → bad ≡ false
  unfolding bad
  of_counted g =
      rw (le-ltb (length img) 4 g.word, le-ltb (entries_of img) 1 g.some, le-ltb 16 (entries_of img) g.most, le-ltb (length img) (bodies_of img) g.whole)

  pub table_counted : Counted img → table_of img ≡ entries_from (entries_of img) img 0 (bodies_of img) 0
  unfolding table_of bad
  table_counted g = rw (of_counted g)

  table_uncounted : bad ≡ true → table_of img ≡ Err (Table 0)
  unfolding table_of bad
  table_uncounted h = rw h

  pub start_first : start_of img 0 ≡ bodies_of img
  start_first = omega arith

  -- the check's answer is what rule 2 says
  pub table_says : TableSays img (table_of img)
  table_says = go bad refl
    where
      go : (t : Bool) → bad ≡ t → TableSays img (table_of img)
      go true e = rw (table_uncounted e) (uncounted (λ g. never (sym e ∙ of_counted g)))
      go false e =
          let g = counted_of e in
          rw (table_counted g, ← start_first)
          (entries_say img g (entries_of img) 0 (omega arith) (λ j h. absurd (omega arith)))

  clash : {p : ℕ} → TableRight img → TableFault img p → ⊥
  clash r (uncounted f) = f r.counted
  clash r (at_entry g i h b d e) = d (r.entries i h)
  clash r (left_over g b d e) = d r.ends

  -- and it says nothing else
  pub table_only : (x y : Result ⊤ ImageFault) → TableSays img x → TableSays img y → x ≡ y
  table_only (Ok _) (Ok _) r s = refl
  table_only (Ok _) (Err (Table p)) r s = absurd (clash r s)
  table_only (Ok _) (Err (Record k)) r s = absurd s
  table_only (Err (Record k)) y r s = absurd r
  table_only (Err (Table p)) (Ok _) s r = absurd (clash r s)
  table_only (Err (Table p)) (Err (Record k)) r s = absurd s
  table_only (Err (Table p)) (Err (Table q)) r s = ap (λ (n : ℕ). Err (Table n)) (same r s)
    where
      ordered : (i j : ℕ) → ((x : ℕ) → x < i → EntryAt img x) → (EntryAt img j → ⊥) → i ≤ j
      ordered i j b d = go (dec_le i j)
        where
          go : Dec (i ≤ j) → i ≤ j
          go (yes h) = h
          go (no h) = absurd (d (b j (lt_of_not-le h)))

      same : {p q : ℕ} → TableFault img p → TableFault img q → p ≡ q
      same (uncounted f) (uncounted f') = refl
      same (uncounted f) (at_entry g i h b d e) = absurd (f g)
      same (uncounted f) (left_over g b d e) = absurd (f g)
      same (at_entry g i h b d e) (uncounted f) = absurd (f g)
      same (at_entry g i h b d e) (at_entry g' i' h' b' d' e') = omega (arith, ordered i i' b d', ordered i' i b' d)
      same (at_entry g i h b d e) (left_over g' b' d' e') = absurd (d (b' i h))
      same (left_over g b d e) (uncounted f) = absurd (f g)
      same (left_over g b d e) (at_entry g' i' h' b' d' e') = absurd (d' (b i' h'))
      same (left_over g b d e) (left_over g' b' d' e') = e ∙ sym e'

  -- so it is given exactly where rule 2 says it
  pub table_exactly : (r : Result ⊤ ImageFault) → r ≡ table_of img → (r ≡ table_of img) × Exactly (TableSays img) r
  table_exactly = exactly (TableSays img) (table_of img) table_says (λ x p. table_only x (table_of img) p table_says)
