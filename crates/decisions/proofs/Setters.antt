-- Registers with one of them written are registers again.
-- Assumes nothing.
use Prim.Native.Nat.{ℕ, zero, suc, ◌%◌, ◌^◌, ◌<◌}
use native.Mathlib.Omega.{arith}
use mathlib.Core.Path.{◌≡◌, ◌∙◌}
use mathlib.Core.List.{List, [], ◌∷◌}
use lib.ListN.{get_or, set, length-set}
use lib.Seq.{get_or-set_same, get_or-set_other}
use Rattle.registers.specs.Registers.{with_d, with_a, with_core, with_pc, new_pc}
use Rattle.registers.specs.declared.Registers.{Registers}
use Rattle.decisions.specs.Valid.{Words, Valid}

pub set_below : (n : ℕ) (xs : List ℕ) (i v : ℕ) → ((k : ℕ) → get_or xs k 0 < n) → v < n → (k : ℕ) → get_or (set xs i v) k 0 < n
set_below n [] i v h g k = h k
set_below n (x ∷ xs) zero v h g zero = g
set_below n (x ∷ xs) zero v h g (suc k) = h (suc k)
set_below n (x ∷ xs) (suc i) v h g zero = h 0
set_below n (x ∷ xs) (suc i) v h g (suc k) = set_below n xs i v (λ j. h (suc j)) g k

pub words_set : {n : ℕ} {xs : List ℕ} (i v : ℕ) → Words n xs → v < 2 ^ 32 → Words n (set xs i v)
words_set {xs = xs} i v w h = record { size = length-set xs i v ∙ w.size; each = set_below (2 ^ 32) xs i v w.each h }

module _ {r : Registers} (w : Valid r) where
  pub valid_d : (n v : ℕ) → v < 2 ^ 32 → Valid (with_d n v r)
  valid_d n v h = record { d = words_set n v w.d h; a = w.a; core = w.core; even = w.even }

  pub valid_a : (n v : ℕ) → v < 2 ^ 32 → Valid (with_a n v r)
  valid_a n v h = record { d = w.d; a = words_set n v w.a h; core = w.core; even = w.even }

  -- any core register but PC
  pub valid_core : (n v : ℕ) → 0 < n → v < 2 ^ 32 → Valid (with_core n v r)
  valid_core n v p h =
      record {
        d = w.d;
        a = w.a;
        core = words_set n v w.core h;
        even = rw (get_or-set_other r.core n 0 v 0 (λ e. omega arith)) w.even;
      }

  pub valid_pc : (v : ℕ) → v < 2 ^ 32 → v % 2 ≡ 0 → Valid (with_pc v r)
  valid_pc v h e =
      record {
        d = w.d;
        a = w.a;
        core = words_set 0 v w.core h;
        even = rw (get_or-set_same r.core 0 v 0 (omega (arith, w.core.size))) e;
      }

pub even_word : (v : ℕ) → v < 2 ^ 32 → new_pc v < 2 ^ 32
even_word v h = omega arith

pub even_even : (v : ℕ) → new_pc v % 2 ≡ 0
even_even v = omega arith
