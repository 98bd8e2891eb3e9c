-- What is decided of a User-0 task's step depends on no byte that the task may not read.
-- Assumes nothing.
use Prim.Native.Nat.{ℕ, ◌+◌, ◌≤◌, ◌<◌}
use native.Mathlib.Omega.{arith}
use mathlib.Core.Path.{◌≡◌, refl, sym, ap, ◌∙◌}
use mathlib.Core.Bool.{true, ◌&&◌}
use mathlib.Core.List.{List}
use lib.ListN.{length, get_or}
use Rattle.memory.specs.Memory.{Windows, Memory, memory}
use Rattle.memory.specs.Word.{half_at}
use Rattle.memory.specs.declared.address.Address.{Address}
use Rattle.memory.proofs.Words.{word_at_same}
use Rattle.memory.proofs.Same.{Same}
use Rattle.fields.specs.Psw.{psw_prs}
use Rattle.fields.specs.Syscon.{syscon_proten}
use Rattle.areas.specs.Place.{placed_at}
use Rattle.registers.specs.Registers.{psw, syscon, with_pc, guards}
use Rattle.registers.specs.declared.Registers.{Registers}
use Rattle.protection.specs.Range.{permitted}
use Rattle.protection.specs.declared.range.Range.{Range}
use Rattle.protection.specs.declared.range.Right.TheVariants as right
use Rattle.protection.proofs.Checks.{passes_permitted}
use Rattle.operations.specs.declared.Operation.{Operation}
use Rattle.operations.specs.declared.Operation.TheVariants as operation
use Rattle.operations.specs.declared.Load.{Load}
use Rattle.operations.specs.declared.Load.TheVariants.{LdB, LdBu, LdH, LdHu, LdW, LdA}
use Rattle.operations.specs.declared.Store.{Store}
use Rattle.image.specs.declared.fetch.Instruction.{Instruction}
use Rattle.acts.specs.Acts.{Ends, Sets}
use Rattle.accesses.specs.Reach.{reach_of}
use Rattle.accesses.specs.Load.{extend_byte, size_of, alignment_of, loads_address, read_of, put_of, load_by, load_of, address_in}
use Rattle.accesses.specs.Store.{store_of}
use Rattle.accesses.proofs.Reaches.{reach_passes, reach_found}
use Rattle.execute.specs.Decision.{act_decides}
use Rattle.execute.specs.Execute.{act_by, act_of}
use Rattle.decisions.specs.Beginning as beginning
use Rattle.decisions.specs.Beginning.{Beginning, beginning_of}
use Rattle.decisions.specs.Decision.{decided_by, decision_of}
use Rattle.decisions.proofs.Levels.{User}
use Rattle.std.specs.Prelude.{Err, Ok, Result, Some}
use Rattle.events.specs.declared.trap.Trap.{Trap}

-- the bytes that a permitted load reaches are the same
pub record Shows (same : ℕ → Type 0) (w : Windows) (len : ℕ) (rs : List Range) (set : ℕ) : Type 0 where
  pub reads : (address : Address) (size at : ℕ) → size ≤ 4 → placed_at w len size address ≡ Some at → permitted rs set right.Read address ≡ true → (k : ℕ) → at ≤ k → k < at + size → same k

-- the task: User-0 with protection on, in the set
pub record Task (set : ℕ) (r : Registers) : Type 0 where
  pub user : User r
  pub on : syscon_proten (syscon r) ≡ true
  pub in_set : psw_prs (psw r) ≡ set

read_same : (op : Load) (s t : List ℕ) (at : ℕ) → ((k : ℕ) → at ≤ k → k < at + size_of op → get_or t k 0 ≡ get_or s k 0) → read_of op t at ≡ read_of op s at
unfolding read_of half_at
read_same LdB s t at f = ap extend_byte (f at (omega arith) (omega arith))
read_same LdBu s t at f = f at (omega arith) (omega arith)
read_same LdH s t at f = rw (f at (omega arith) (omega arith), f (at + 1) (omega arith) (omega arith))
read_same LdHu s t at f = rw (f at (omega arith) (omega arith), f (at + 1) (omega arith) (omega arith))
read_same LdW s t at f = word_at_same s t at f
read_same LdA s t at f = word_at_same s t at f

size_most : (op : Load) → size_of op ≤ 4
size_most LdB = omega arith
size_most LdBu = omega arith
size_most LdH = omega arith
size_most LdHu = omega arith
size_most LdW = omega arith
size_most LdA = omega arith

module _ {same : ℕ → Type 0} (w : Windows) (s t : List ℕ) (h : Same same s t) (rs : List Range) (set : ℕ) (shows : Shows same w (length s) rs set) (r : Registers) (task : Task set r) where
  abbrev m : Memory
  m = memory w s

  abbrev n : Memory
  n = memory w t

  -- only a load reads memory
  pub load_same : (op : Load) (i : Instruction) → load_of op i r rs n ≡ load_of op i r rs m
  unfolding load_of
  load_same op i =
      rw h.size
      (by (reach_of w (length s) r.core rs right.Read (loads_address op && guards (psw r) i.c) (size_of op) (alignment_of op) (address_in i r.a)) refl)
    where
      by : (p : Result ℕ Trap) → reach_of w (length s) r.core rs right.Read (loads_address op && guards (psw r) i.c) (size_of op) (alignment_of op) (address_in i r.a) ≡ p → load_by op i r n p ≡ load_by op i r m p
      by (Err x) e = refl
      by (Ok at) e =
          let a = address_in i r.a in
          let p = passes_permitted r.core rs right.Read a task.user task.on (reach_passes _ _ _ _ _ _ _ _ _ at e) in
          let q : permitted rs set right.Read a ≡ true = ap (λ (x : ℕ). permitted rs x right.Read a) (sym task.in_set) ∙ p in
          let f = reach_found _ _ _ _ _ _ _ _ _ at e in
          ap (λ (v : ℕ). Sets (with_pc i.next (put_of op i.c v r))) (read_same op s t at (λ k x y. h.each k (shows.reads a (size_of op) at (size_most op) f q k x y)))

  pub store_same : (op : Store) (i : Instruction) → store_of op i r rs n ≡ store_of op i r rs m
  unfolding store_of
  store_same op i = rw h.size

  by_same : (op : Operation) (i : Instruction) → act_by op i r rs n ≡ act_by op i r rs m
  by_same operation.Nop i = refl
  by_same (operation.Integer op) i = refl
  by_same (operation.Move op) i = refl
  by_same (operation.Load op) i = ap Ends (load_same op i)
  by_same (operation.Store op) i = store_same op i
  by_same (operation.Jump op) i = refl
  by_same (operation.Context op) i = refl
  by_same (operation.System op) i = refl

  begun_same : (b : Beginning) → decided_by r rs n b ≡ decided_by r rs m b
  unfolding act_of
  begun_same (beginning.Interrupts x) = refl
  begun_same (beginning.Traps x) = refl
  begun_same (beginning.Executes i) = ap (act_decides i.next r) (by_same i.op i)

  pub decision_same : (img xs : List ℕ) → decision_of img r xs rs n ≡ decision_of img r xs rs m
  unfolding decision_of
  decision_same img xs = begun_same (beginning_of img r.core xs rs)
