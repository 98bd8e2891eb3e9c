-- What a store writes is its act performed.
-- Assumes nothing.
use Prim.Native.Nat.{ℕ}
use mathlib.Core.Path.{◌≡◌, refl, ap, ◌∙◌}
use mathlib.Core.Bool.{false}
use mathlib.Core.List.{List, ◌++◌}
use lib.ListN.{length}
use Rattle.memory.specs.Memory.{windows, lent}
use Rattle.memory.specs.declared.address.Address.{Address}
use Rattle.registers.specs.declared.Registers.{Registers}
use Rattle.protection.specs.declared.range.Range.{Range}
use Rattle.protection.specs.declared.range.Right.TheVariants.{Write}
use Rattle.operations.specs.declared.Store.{Store}
use Rattle.image.specs.declared.fetch.Instruction.{Instruction}
use Rattle.events.specs.declared.trap.Trap.{Trap}
use Rattle.acts.specs.Acts.{did, Ended, ended, ended_of, keeping, stored_of, perform_of}
use Rattle.acts.specs.declared.How.{How}
use Rattle.accesses.specs.Load.{address_in}
use Rattle.accesses.specs.Reach.{reach_of}
use Rattle.accesses.specs.Store.{size_of, alignment_of, value_of, reached, written_by, end_by, store_by, store_of}
use Rattle.std.specs.Prelude.{Err, Ok, Result, ⊤}

-- the windows s and t are s' and t' after it
pub record Stored (op : Store) (i : Instruction) (r : Registers) (rs : List Range) (b c : Address) (s t s' t' : List ℕ) (answer : Result ⊤ Trap) : Type 0 where
  pub value : answer ≡ reached (reach_of (windows b (length s) c) (length (s ++ t)) r.core rs Write false (size_of op) (alignment_of op) (address_in i r.a))
  pub written : s' ++ t' ≡ written_by (stored_of op) (value_of op i.c r.d r.a) (s ++ t) (reach_of (windows b (length s) c) (length (s ++ t)) r.core rs Write false (size_of op) (alignment_of op) (address_in i r.a))
  pub kept : length s' ≡ length s

pub stored : {op : Store} {i : Instruction} {r : Registers} {rs : List Range} {b c : Address} {s t s' t' : List ℕ} {answer : Result ⊤ Trap} {h : How} {q : Registers}
    → Stored op i r rs b c s t s' t' answer → ended h q ≡ ended_of (end_by i.next r answer) r
    → did h q (lent b s' c t') ≡ perform_of (store_of op i r rs (lent b s c t)) r (lent b s c t)
unfolding store_of
stored {op} {i} {r} {rs} {b} {c} {s} {t} {s'} {t'} {answer} {h} {q} w e =
    ap (λ (x : Ended). keeping x (lent b s' c t')) e ∙ by (reach_of (windows b (length s) c) (length (s ++ t)) r.core rs Write false (size_of op) (alignment_of op) (address_in i r.a)) w.value w.written
  where
    by : (x : Result ℕ Trap) → answer ≡ reached x → s' ++ t' ≡ written_by (stored_of op) (value_of op i.c r.d r.a) (s ++ t) x
        → keeping (ended_of (end_by i.next r answer) r) (lent b s' c t') ≡ perform_of (store_by op i r x) r (lent b s c t)
    by (Err v) f g = rw (f, g, w.kept) refl
    by (Ok at) f g = rw (f, g, w.kept) refl
