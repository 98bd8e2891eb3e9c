-- The range named for an access, case by case; and that it is the lowest which permits it.
-- Assumes nothing.
use Prim.Native.Nat.{ℕ}
use mathlib.Core.Path.{◌≡◌, refl, sym, ap, subst, ◌∙◌}
use mathlib.Core.Bool.{Bool, true, false, cond, not, ◌&&◌}
use mathlib.Core.List.{List}
use mathlib.Core.Logic.{inl, inr}
use lib.ListN.{get_or}
use Rattle.words.specs.Exactly.{Exactly}
use Rattle.words.proofs.Answers.{exactly}
use Rattle.words.proofs.Truth.{never}
use Rattle.memory.specs.Address.{as_address}
use Rattle.memory.specs.declared.address.Address.{Address}
use Rattle.fields.specs.Psw.{psw_prs}
use Rattle.fields.specs.Syscon.{syscon_proten}
use Rattle.events.specs.declared.trap.Trap.{Trap}
use Rattle.protection.specs.Range.{lowest_of}
use Rattle.protection.specs.Access.{check_of, asks, peripheral, permit_of}
use Rattle.protection.specs.declared.range.Range.{Range}
use Rattle.protection.specs.declared.range.Right.{Right}
use Rattle.protection.specs.declared.range.Right.TheVariants as right
use Rattle.protection.proofs.Searches.{lowest_says, lowest_is}
use Rattle.interrupts.specs.Sources.{best_of, takes}
use Rattle.operations.specs.Operations.{access_of}
use Rattle.operations.specs.declared.Access.{Access}
use Rattle.image.specs.Fetch.{fetch_of}
use Rattle.image.specs.declared.fetch.Instruction.{Instruction}
use Rattle.accesses.specs.Reach.{data_address}
use Rattle.decisions.specs.Beginning.{Beginning, Interrupts, check_begins, fetching_at, beginning_of}
use Rattle.permits.specs.Permits.{Asked, none, access, data_by, data_in, fetch_asked, data_asked, permit_asked, permits_by, no_permits, begun_permits, permits_of, NamedFor}
use Rattle.permits.specs.declared.Permits.{Permits}
use Rattle.std.specs.Prelude.{Err, None, Ok, Option, Result, Some, ⊤}

module _ (core : List ℕ) (rs : List Range) where
  pub of_none : None ≡ permit_asked core rs none
  unfolding permit_asked
  of_none = refl

  -- ---- one access
  module _ (right : Right) (address : Address) where
    pub of_access : {p : Option ℕ} → p ≡ permit_of core rs right address → p ≡ permit_asked core rs (access right address)
    unfolding permit_asked
    of_access e = e

    not_asked : syscon_proten (get_or core 9 0) ≡ false → None ≡ permit_asked core rs (access right address)
    unfolding permit_asked permit_of
    not_asked p = rw p (by (peripheral address))
      where
        by : (b : Bool) → None ≡ cond (not b && false) (lowest_of rs (psw_prs (get_or core 1 0)) right address) None
        by true = refl
        by false = refl

    -- what is named says so, and nothing else does
    says : (b : Bool) → asks core address ≡ b → NamedFor core rs (access right address) (cond b (lowest_of rs (psw_prs (get_or core 1 0)) right address) None)
    says true e = inl (e, lowest_says rs right address (psw_prs (get_or core 1 0)))
    says false e = inr (e, refl)

    only : (b : Bool) → asks core address ≡ b → (p : Option ℕ) → NamedFor core rs (access right address) p → p ≡ cond b (lowest_of rs (psw_prs (get_or core 1 0)) right address) None
    only true e p (inl h) = (lowest_is rs right address (psw_prs (get_or core 1 0)) p h.1).0
    only true e p (inr h) = absurd (never (sym e ∙ h.0))
    only false e p (inl h) = absurd (never (sym h.0 ∙ e))
    only false e p (inr h) = h.1

  pub named : (a : Asked) (p : Option ℕ) → p ≡ permit_asked core rs a → Exactly (NamedFor core rs a) p
  unfolding permit_asked permit_of
  named none p e = (exactly (NamedFor core rs none) None refl (λ x h. h) p e).1
  named (access right address) p e =
      (exactly (NamedFor core rs (access right address)) (permit_asked core rs (access right address)) (says right address (asks core address) refl) (only right address (asks core address) refl) p e).1

  -- with protection off none is named
  off : (a : Asked) → syscon_proten (get_or core 9 0) ≡ false → None ≡ permit_asked core rs a
  off none p = of_none
  off (access right address) p = not_asked right address p

  -- ---- the data access of an instruction
  pub of_data : (a : List ℕ) (i : Instruction) (k imm : ℕ) (address : Address) → k ≡ i.a → imm ≡ i.imm → address ≡ data_address (get_or a k 0) imm → (x y : Option Access) → y ≡ access_of i.op → y ≡ x → {p : Option ℕ} → p ≡ permit_asked core rs (data_by x address) → p ≡ permit_asked core rs (data_in i a)
  of_data a i k imm address f g is x y e d h = rw (← f, ← g, ← e, d, ← is) h

  module _ (img a : List ℕ) where
    -- ---- of the instruction at PC
    pub not_fetched : (t : Trap) → Err t ≡ check_of core rs right.Execute (as_address (get_or core 0 0)) → None ≡ permit_asked core rs (data_asked a (fetching_at img core rs (get_or core 0 0)))
    unfolding permit_asked fetching_at
    not_fetched t e = rw (← e)

    module _ (e : (Ok tt) ≡ check_of core rs right.Execute (as_address (get_or core 0 0))) where
      pub no_record : None ≡ fetch_of img (get_or core 0 0) → None ≡ permit_asked core rs (data_asked a (fetching_at img core rs (get_or core 0 0)))
      unfolding permit_asked fetching_at
      no_record f = rw (← e, ← f)

      pub of_record : (i : Instruction) → Some i ≡ fetch_of img (get_or core 0 0) → {p : Option ℕ} → p ≡ permit_asked core rs (data_in i a) → p ≡ permit_asked core rs (data_asked a (fetching_at img core rs (get_or core 0 0)))
      unfolding fetching_at
      of_record i f h = rw (← e, ← f) h

    -- ---- of a step
    module _ (xs : List ℕ) where
      abbrev Says : Beginning → Permits → Type 0
      Says s p = (p ≡ begun_permits a core rs s) × (Exactly (NamedFor core rs (fetch_asked (get_or core 0 0) s)) p.fetch × Exactly (NamedFor core rs (data_asked a s)) p.access)

      says_both : (s : Beginning) (f d : Option ℕ) → f ≡ permit_asked core rs (fetch_asked (get_or core 0 0) s) → d ≡ permit_asked core rs (data_asked a s) → Says s (permits_by f d)
      says_both s f d p q = (ap (λ (x : Option ℕ). permits_by x d) p ∙ ap (permits_by (permit_asked core rs (fetch_asked (get_or core 0 0) s))) q, (named (fetch_asked (get_or core 0 0) s) f p, named (data_asked a s) d q))

      abbrev pub Both : Permits → Type 0
      Both p = (p ≡ permits_of img a core xs rs) × (Exactly (NamedFor core rs (fetch_asked (get_or core 0 0) (beginning_of img core xs rs))) p.fetch × Exactly (NamedFor core rs (data_asked a (beginning_of img core xs rs))) p.access)

      both : (p : Permits) (s : Beginning) → beginning_of img core xs rs ≡ s → Says s p → Both p
      unfolding permits_of
      both p s e h = subst (λ (x : Beginning). Says x p) (sym e) h

      pub both_off : syscon_proten (get_or core 9 0) ≡ false → Both no_permits
      both_off p = let s = beginning_of img core xs rs in both no_permits s refl (says_both s None None (off (fetch_asked (get_or core 0 0) s) p) (off (data_asked a s) p))

      -- where an interrupt is taken, and where none is
      pub both_taken : takes (get_or core 5 0) (best_of xs).level ≡ true → Both no_permits
      unfolding beginning_of
      both_taken e = both no_permits (Interrupts (best_of xs)) (rw e refl) (says_both (Interrupts (best_of xs)) None None of_none of_none)

      asks_fetch : (c : Result ⊤ Trap) (f : Option Instruction) → fetch_asked (get_or core 0 0) (check_begins c f) ≡ access right.Execute (as_address (get_or core 0 0))
      asks_fetch (Err t) f = refl
      asks_fetch (Ok _) None = refl
      asks_fetch (Ok _) (Some i) = refl

      fetch_asked_lem : fetch_asked (get_or core 0 0) (fetching_at img core rs (get_or core 0 0)) ≡ access right.Execute (as_address (get_or core 0 0))
      unfolding fetching_at
      fetch_asked_lem = asks_fetch (check_of core rs right.Execute (as_address (get_or core 0 0))) (fetch_of img (get_or core 0 0))

      pub both_quiet : takes (get_or core 5 0) (best_of xs).level ≡ false → {f d : Option ℕ} → f ≡ permit_asked core rs (access right.Execute (as_address (get_or core 0 0))) → d ≡ permit_asked core rs (data_asked a (fetching_at img core rs (get_or core 0 0))) → Both (permits_by f d)
      unfolding beginning_of
      both_quiet e {f} {d} p q = let s = fetching_at img core rs (get_or core 0 0) in both (permits_by f d) s (rw e refl) (says_both s f d (p ∙ ap (permit_asked core rs) (sym fetch_asked_lem)) q)
