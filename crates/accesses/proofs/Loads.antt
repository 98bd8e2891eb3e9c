-- What a load reads, and where it goes.
-- Assumes nothing.
use Prim.Native.Nat.{ℕ}
use mathlib.Core.Path.{◌≡◌, ap}
use mathlib.Core.List.{List}
use Rattle.memory.specs.Memory.{Memory}
use Rattle.registers.specs.declared.Registers.{Registers}
use Rattle.operations.specs.declared.Load.{Load}
use Rattle.image.specs.declared.fetch.Instruction.{Instruction}
use Rattle.acts.specs.Acts.{Ended, ended_of}
use Rattle.events.specs.declared.trap.Trap.{Trap}
use Rattle.accesses.specs.Load.{read_of, put_of, read_by, set_by, load_by}
use Rattle.std.specs.Prelude.{Err, Ok, Result, MatchResult, IsOkAnd}

pub loaded : (op : Load) (i : Instruction) (r : Registers) (m : Memory) (x : Result ℕ Trap) {e : Ended}
    → e ≡ ended_of (set_by (put_of op i.c) i.next r (read_by (read_of op) m.bytes x)) r → e ≡ ended_of (load_by op i r m x) r
loaded op i r m (Err t) h = h
loaded op i r m (Ok at) h = h

-- what is read and then made of it is read so
pub extended : (f : ℕ → ℕ) (read : List ℕ → ℕ → ℕ) (bytes : List ℕ) (x y z : Result ℕ Trap) → y ≡ read_by read bytes x
    → MatchResult y (λ v. IsOkAnd z (λ w. w ≡ f v)) (λ e. z ≡ Err e) → z ≡ read_by (λ s k. f (read s k)) bytes x
extended f read bytes (Err t) y z e h = rw e at h
extended f read bytes (Ok at) y z e h = ok z (rw e at h)
  where
    ok : (z : Result ℕ Trap) → IsOkAnd z (λ w. w ≡ f (read bytes at)) → z ≡ Ok (f (read bytes at))
    ok (Ok w) g = ap Ok g
    ok (Err t) g = absurd g
