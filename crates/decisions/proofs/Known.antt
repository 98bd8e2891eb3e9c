-- What owning registers, request words and bytes tells.
-- Assumes nothing.
use Prim.Native.Nat.{ℕ, ◌-◌, ◌%◌, ◌^◌, ◌≤◌, ◌<◌}
use native.Mathlib.Nat.{lt_of_not-le}
use native.Mathlib.Decide.{dec_le}
use native.Mathlib.Omega.{arith}
use mathlib.Core.Path.{◌≡◌}
use mathlib.Core.List.{List, map, ◌++◌}
use Rattle.std.proofs.lemmas.List.{map-id}
use lib.ListN.{length, get_or}
use mir.Syntax.{w8, w32}
use mir.Val.{Val, Fits}
use denote.Laws.{Is}
use denote.Plain.{UInt}
use denote.Array.{Array}
use Rattle.memory.proofs.Joined.{first_one, second_one}
use Rattle.registers.specs.Registers.{pc}
use Rattle.registers.specs.declared.Registers.{Registers}
use Rattle.registers.specs.contracts.Registers as row
use Rattle.decisions.specs.Valid.{Words, Valid, Bytes}
use Rattle.decisions.proofs.Values.{Word}
use Rattle.decisions.proofs.Owned.{field_each, field_long}

word : (n : ℕ) (vs : List Val) → Is (UInt w32) n vs → Word n
word n vs p = p.1

words : (n : ℕ) (xs : List ℕ) (vs : List Val) → Is (Array (UInt w32) n) xs vs → Words n xs
words n xs vs p =
    let q : Is (Array (UInt w32) n) (map (λ (v : ℕ). v) xs) vs = rw (map-id xs) p in
    record {
      size = field_long (UInt w32) ℕ (λ v. v) Word word n xs vs q;
      each = λ k. field_each (UInt w32) ℕ (λ v. v) Word word n xs vs q k 0 (omega arith);
    }

pub words_of : {r : Registers} {vs : List Val} → Is (row.the_row) r vs → Words 16 r.d × Words 16 r.a × Words 10 r.core
words_of {r} p =
    (words 16 r.d p.0.0 p.1.1.0, words 16 r.a p.0.1.0 p.1.1.1.0, words 10 r.core p.0.1.1.0 p.1.1.1.1.0)

pub valid_of : {r : Registers} {vs : List Val} → Is (row.the_row) r vs → pc r % 2 ≡ 0 → Valid r
valid_of p e = let w = words_of p in record { d = w.0; a = w.1; core = w.2; even = e }

-- a slice of bytes
pub bytes_of : {m : List ℕ} → ((k : ℕ) → Fits w8 (get_or m k 0)) → Bytes m
bytes_of h = record { each = λ k. (h k).fits }

-- two slices of bytes, one after the other
pub joined_bytes : (s t : List ℕ) → Bytes s → Bytes t → Bytes (s ++ t)
joined_bytes s t a b = record { each = λ k. by k (dec_le (length s) k) }
  where
    by : (k : ℕ) → Dec (length s ≤ k) → get_or (s ++ t) k 0 < 2 ^ 8
    by k (yes h) = rw (← second_one s t k h) (b.each (k - length s))
    by k (no h) = let g = lt_of_not-le h in rw (← first_one s t k (omega arith)) (a.each k)
