-- The walk through records to the one that begins at a PC.
-- Assumes nothing.
use Rattle.std.proofs.Common.{◌≡◌, ℕ, zero, suc, ◌+◌, ◌-◌, ◌*◌, ◌<◌, ◌≤◌, List, get_or, sym, refl, ◌∙◌, arith, below_more, eq-eqb, ne_eqb}
use native.Mathlib.Decide.{ℕ_discrete}
use Rattle.image.specs.Lengths.{length_at, address_after}
use Rattle.image.specs.Rest.{rest, body_walk}
use Rattle.image.specs.declared.fetch.Rest.{Rest}
use Rattle.image.proofs.Addresses.{length_says, after_none, after_more}

-- ---- the cases of a turn
pub walk_end : (img : List ℕ) (at from pc : ℕ) → body_walk 0 img at from pc ≡ rest 0 0
unfolding body_walk
walk_end img at from pc = refl

pub walk_here : (n : ℕ) (img : List ℕ) (at from pc : ℕ) → from ≡ pc → body_walk (suc n) img at from pc ≡ rest (suc n) at
unfolding body_walk
walk_here n img at from pc e = rw (eq-eqb from pc e)

pub walk_on : (n : ℕ) (img : List ℕ) (at from pc : ℕ) → (from ≡ pc → ⊥) → body_walk (suc n) img at from pc ≡ body_walk n img (at + 8) (from + length_at img at) pc
unfolding body_walk
walk_on n img at from pc d = rw (ne_eqb from pc d)

-- ---- records that begin before pc, or at it, are passed
pub walk_skip : (k n : ℕ) (img : List ℕ) (at from pc : ℕ) → k ≤ n → address_after k img at from ≤ pc → body_walk (n - k) img (at + 8 * k) (address_after k img at from) pc ≡ body_walk n img at from pc
walk_skip zero n img at from pc h l =
    let z : n - 0 ≡ n = omega arith in
    let y : at + 8 * 0 ≡ at = omega arith in
    rw (z, y, after_none img at from)
walk_skip (suc k) n img at from pc h l =
    let m = after_more k img at from in
    let s = (length_says (get_or img (at + 8 * k) 0)).low in
    let j : n - k ≡ suc (n - suc k) = omega arith in
    let y : at + 8 * suc k ≡ at + 8 * k + 8 = omega arith in
    let on = walk_on (n - suc k) img (at + 8 * k) (address_after k img at from) pc (λ e. omega arith) in
    let back = rw j at (walk_skip k n img at from pc (omega arith) (omega arith)) in
    rw (y, m) (sym on ∙ back)

pub walk_at_lem : (j n : ℕ) (img : List ℕ) (at from pc : ℕ) → j < n → address_after j img at from ≡ pc → body_walk n img at from pc ≡ rest (n - j) (at + 8 * j)
walk_at_lem j n img at from pc h e =
    let z : n - j ≡ suc (n - suc j) = omega arith in
    let s = walk_skip j n img at from pc (omega arith) (omega arith) in
    sym s ∙ rw z (walk_here (n - suc j) img (at + 8 * j) (address_after j img at from) pc e)

-- none begins at a pc before the first, or past the last
pub walk_before : (n : ℕ) (img : List ℕ) (at from pc : ℕ) → pc < from → body_walk n img at from pc ≡ rest 0 0
walk_before zero img at from pc h = walk_end img at from pc
walk_before (suc n) img at from pc h = walk_on n img at from pc (λ e. omega arith) ∙ walk_before n img (at + 8) (from + length_at img at) pc (omega arith)

pub walk_beyond : (n : ℕ) (img : List ℕ) (at from pc : ℕ) → address_after n img at from ≤ pc → body_walk n img at from pc ≡ rest 0 0
walk_beyond n img at from pc h =
    let z : n - n ≡ 0 = omega arith in
    sym (walk_skip n n img at from pc (omega arith) h) ∙ rw z (walk_end img (at + 8 * n) (address_after n img at from) pc)

-- ---- what the walk finds
pub data Walked (n : ℕ) (img : List ℕ) (at from pc : ℕ) : Rest → Type 0 where
  nowhere : ((j : ℕ) → j < n → address_after j img at from ≡ pc → ⊥) → Walked n img at from pc (rest 0 0)
  somewhere : (j : ℕ) → j < n → address_after j img at from ≡ pc → Walked n img at from pc (rest (n - j) (at + 8 * j))

walked_from : (d n : ℕ) (img : List ℕ) (at from pc k : ℕ) → k + d ≡ n → ((j : ℕ) → j < k → address_after j img at from ≡ pc → ⊥) → Walked n img at from pc (body_walk d img (at + 8 * k) (address_after k img at from) pc)
walked_from zero n img at from pc k e b = rw (walk_end img (at + 8 * k) (address_after k img at from) pc) (nowhere (λ j h. b j (omega arith)))
walked_from (suc d) n img at from pc k e b = go (ℕ_discrete (address_after k img at from) pc) (walked_from d n img at from pc (k + 1))
  where
    more : address_after (k + 1) img at from ≡ address_after k img at from + length_at img (at + 8 * k)
    more = let z : k + 1 ≡ suc k = omega arith in rw z (after_more k img at from)

    go : Dec (address_after k img at from ≡ pc)
        → (k + 1 + d ≡ n → ((j : ℕ) → j < k + 1 → address_after j img at from ≡ pc → ⊥) → Walked n img at from pc (body_walk d img (at + 8 * (k + 1)) (address_after (k + 1) img at from) pc))
        → Walked n img at from pc (body_walk (suc d) img (at + 8 * k) (address_after k img at from) pc)
    go (yes p) r =
        let z : suc d ≡ n - k = omega arith in
        rw (walk_here d img (at + 8 * k) (address_after k img at from) pc p, z) (somewhere k (omega arith) p)
    go (no p) r =
        let y : at + 8 * (k + 1) ≡ at + 8 * k + 8 = omega arith in
        rw (walk_on d img (at + 8 * k) (address_after k img at from) pc p, ← y, ← more) (r (omega arith) (below_more (λ (j : ℕ). address_after j img at from ≡ pc → ⊥) k b p))

pub walked : (n : ℕ) (img : List ℕ) (at from pc : ℕ) → Walked n img at from pc (body_walk n img at from pc)
walked n img at from pc =
    let y : at + 8 * 0 ≡ at = omega arith in
    rw (y, after_none img at from) at (walked_from n n img at from pc 0 (omega arith) (λ j h. absurd (omega arith)))

-- ---- the loop's turns
pub walk_start : (n : ℕ) (img : List ℕ) (at from pc : ℕ) → body_walk (n - 0) img (at + 8 * 0) from pc ≡ body_walk n img at from pc
walk_start n img at from pc =
    let z : n - 0 ≡ n = omega arith in
    let y : at + 8 * 0 ≡ at = omega arith in
    rw (z, y)

module _ (n : ℕ) (img : List ℕ) (at here pc k : ℕ) where
  pub turn_found : k < n → here ≡ pc → rest (n - k) (at + 8 * k) ≡ body_walk (n - k) img (at + 8 * k) here pc
  turn_found h e = let z : n - k ≡ suc (n - (k + 1)) = omega arith in rw z (sym (walk_here (n - (k + 1)) img (at + 8 * k) here pc e))

  pub turn_on : k < n → (here ≡ pc → ⊥) → body_walk (n - (k + 1)) img (at + 8 * (k + 1)) (here + length_at img (at + 8 * k)) pc ≡ body_walk (n - k) img (at + 8 * k) here pc
  turn_on h d =
      let z : n - k ≡ suc (n - (k + 1)) = omega arith in
      let y : at + 8 * (k + 1) ≡ at + 8 * k + 8 = omega arith in
      rw (z, y) (sym (walk_on (n - (k + 1)) img (at + 8 * k) here pc d))

  pub turn_end : n ≤ k → rest 0 0 ≡ body_walk (n - k) img (at + 8 * k) here pc
  turn_end h = let z : n - k ≡ 0 = omega arith in rw z (sym (walk_end img (at + 8 * k) here pc))
