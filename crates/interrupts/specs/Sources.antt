-- The interrupt sources: a service request control register each. Sources count from 0.
use Rattle.std.specs.Prelude.{ℕ, zero, suc, ◌≤◌, ◌<◌, ◌≡◌, Bool, true, cond, ◌&&◌, List, ◌⊎◌, get_or, set, ltb, leb}
use Rattle.fields.specs.Icr.{icr_ie, icr_ccpn}
use Rattle.fields.specs.Request.{src_srpn, requests, cleared_of}
use Rattle.interrupts.specs.declared.Best.{Best}

abbrev pub best : ℕ → ℕ → Best
best i n = record { source = i; level = n }

-- source i of the first n is enabled and requests
abbrev pub Pending : ℕ → List ℕ → ℕ → Type 0
Pending n xs i = (i < n) × (requests (get_or xs i 0) ≡ true)

-- one of those enabled and requesting, with its own priority number; 16 and 0 where there is none
abbrev pub PendingOrNone : ℕ → List ℕ → Best → Type 0
PendingOrNone n xs b = (Pending n xs b.source × (src_srpn (get_or xs b.source 0) ≡ b.level)) ⊎ (((i : ℕ) → Pending n xs i → ⊥) × (b ≡ best 16 0))

-- what the best of the first n sources is: one of those enabled and requesting; of them none stands above it, and of its priority number none after it (02, point 1)
pub record Highest (n : ℕ) (xs : List ℕ) (b : Best) : Type 0 where
  pub one : PendingOrNone n xs b
  pub above : (i : ℕ) → Pending n xs i → src_srpn (get_or xs i 0) ≤ b.level
  pub after : (i : ℕ) → Pending n xs i → b.source < i → src_srpn (get_or xs i 0) < b.level

-- source i is better where it is enabled, requests, and does not stand below the best before it: at a tie the later source is
unfoldable pub better_of : Best → ℕ → ℕ → Best
better_of b i src = cond (requests src && leb b.level (src_srpn src)) (best i (src_srpn src)) b

-- the best of the first n sources, found by going through them
unfoldable pub best_below : ℕ → List ℕ → Best
best_below zero xs = best 16 0
best_below (suc n) xs = better_of (best_below n xs) n (get_or xs n 0)

-- and of all sixteen
abbrev pub best_of : List ℕ → Best
best_of xs = best_below 16 xs

-- a source of that priority number is taken: IE is 1, and the number stands above CCPN. So number 0 never is
unfoldable pub takes : ℕ → ℕ → Bool
takes icr level = icr_ie icr && ltb (icr_ccpn icr) level

-- the request of one source cleared
unfoldable pub cleared_at : List ℕ → ℕ → List ℕ
cleared_at xs i = cond (ltb i 16) (set xs i (cleared_of (get_or xs i 0))) xs
