-- What is decided is sound.
-- Assumes nothing.
use Prim.Native.Nat.{ℕ, ◌+◌, ◌%◌, ◌≤◌, ◌<◌, ◌^◌}
use native.Mathlib.Omega.{arith}
use mathlib.Core.Path.{◌≡◌}
use mathlib.Core.Bool.{false}
use mathlib.Core.List.{List}
use lib.ListN.{get_or, length}
use lib.Dec.{eqb}
use Rattle.memory.specs.Address.{as_address}
use Rattle.memory.specs.Memory.{Memory}
use Rattle.registers.specs.Registers.{pc, pcxi, icr}
use Rattle.registers.specs.declared.Registers.{Registers}
use Rattle.protection.specs.Access.{check_of}
use Rattle.protection.specs.declared.range.Range.{Range}
use Rattle.protection.specs.declared.range.Right.TheVariants as right
use Rattle.interrupts.specs.Sources.{best_of, takes}
use Rattle.interrupts.proofs.Sources.{level_byte}
use Rattle.image.specs.Rest.{rest_of}
use Rattle.image.specs.Fetch.{instruction_at, fetch_of}
use Rattle.image.proofs.Addresses.{length_says}
use Rattle.acts.specs.Acts as acts
use Rattle.acts.specs.Acts.{Act, Effect}
use Rattle.accesses.specs.Store.{size_of}
use Rattle.execute.specs.Decision.{Decision, Keep, Write, Save, Return, effect_decides, act_decides}
use Rattle.execute.specs.Execute.{act_of}
use Rattle.decisions.specs.Valid.{Valid, Bytes}
use Rattle.decisions.specs.Beginning.{Beginning, Interrupts, Traps, Executes, fetch_begins, check_begins, fetching_at, beginning_of}
use Rattle.decisions.specs.Heads.{heads_written, step_heads}
use Rattle.decisions.specs.Decision.{decided_by, decision_of}
use Rattle.decisions.proofs.Values.{Word, either_has, word_word}
use Rattle.decisions.proofs.Levels.{EventLevel}
use Rattle.decisions.proofs.Sound.{Sound, TrapBytes, EndsSound}
use Rattle.decisions.proofs.Families.{Decoded, small, CheckBytes, check_bytes}
use Rattle.decisions.proofs.Thens.{Then, ReturnThen, trap_then, interrupt_then}
use Rattle.decisions.proofs.Acts.{HasPrevious, ActSound, act_sound}
use Rattle.std.specs.Prelude.{Err, None, Ok, Option, Result, Some, ⊤}
use Rattle.image.specs.declared.fetch.Instruction.{Instruction}
use Rattle.events.specs.declared.trap.Trap.{Trap}

abbrev pub DecisionSound : Type 0 → Registers → Memory → Decision → Type 0
DecisionSound quiet r m (Keep q) = Sound quiet r q
DecisionSound quiet r m (Write op at v q) = Sound quiet r q × Word v × (at + size_of op ≤ length m.bytes)
DecisionSound quiet r m (Save e half saved-pc then) = Word saved-pc × Then then × EventLevel e then
DecisionSound quiet r m (Return half then) = ReturnThen then × HasPrevious half (pcxi r)

-- an instruction by its act
module _ (next : ℕ) (r : Registers) (m : Memory) (p : Word (pc r)) (n : Word next) where
  effect_sound : (quiet : Type 0) (e : Effect) → EndsSound quiet r e → DecisionSound quiet r m (effect_decides (pc r) next e)
  effect_sound quiet (acts.Sets q) s = s
  effect_sound quiet (acts.Traps t) s = (omega arith, trap_then t (pc r) s p, tt)
  effect_sound quiet (acts.TrapsAfter t) s = (omega arith, trap_then t next s n, tt)

  act_decided : (quiet : Type 0) (a : Act) → ActSound quiet r m a → DecisionSound quiet r m (act_decides next r a)
  act_decided quiet (acts.Ends e) s = effect_sound quiet e s
  act_decided quiet (acts.Write op at v q) s = s
  act_decided quiet (acts.Save half saved-pc then) s = s
  act_decided quiet (acts.Return half then) s = s

-- ---- a step's beginning
-- a priority number and a trap are bytes; an instruction has words for its immediate and its next address
abbrev pub Known : Beginning → Type 0
Known (Interrupts b) = b.level < 2 ^ 8
Known (Traps t) = TrapBytes t
Known (Executes i) = Decoded i

module _ {img : List ℕ} (b : Bytes img) (pc : ℕ) (e : pc % 2 ≡ 0) where
  decoded_at : (at : ℕ) → Decoded (instruction_at img at pc)
  unfolding instruction_at
  decoded_at at = record { imm = word_word b (at + 4); next = omega arith; even = let l = (length_says (get_or img at 0)).even in omega arith }

  fetch_known : Known (fetch_begins (fetch_of img pc))
  unfolding fetch_of
  fetch_known = either_has (λ (f : Option Instruction). Known (fetch_begins f)) (eqb (rest_of img pc).records 0) {x = None} {y = Some (instruction_at img (rest_of img pc).at pc)} (small (omega arith) (omega arith)) (decoded_at _)

  pub fetching_known : (core : List ℕ) (rs : List Range) → Known (fetching_at img core rs pc)
  unfolding fetching_at
  fetching_known core rs = by (check_of core rs right.Execute (as_address pc)) (check_bytes core rs right.Execute (as_address pc))
    where
      by : (c : Result ⊤ Trap) → CheckBytes c → Known (check_begins c (fetch_of img pc))
      by (Err t) h = h
      by (Ok _) h = fetch_known

module _ {img : List ℕ} (bi : Bytes img) {r : Registers} (w : Valid r) (xs : List ℕ) (rs : List Range) where
  beginning_known : Known (beginning_of img r.core xs rs)
  unfolding beginning_of
  beginning_known = either_has Known (takes (icr r) (best_of xs).level) (level_byte xs) (fetching_known bi (pc r) w.even r.core rs)

  module _ (m : Memory) (b : Bytes m.bytes) where
    begun_sound : (s : Beginning) → Known s → DecisionSound (heads_written r s ≡ false) r m (decided_by r rs m s)
    begun_sound (Interrupts x) h = (omega arith, interrupt_then x.level h, tt)
    begun_sound (Traps t) h = (omega arith, trap_then t (pc r) h (w.core.each 0), tt)
    begun_sound (Executes i) h = act_decided i.next r m (w.core.each 0) h.next _ (act_of i r rs m) (act_sound w i h rs m b)

    pub decision_sound : DecisionSound (step_heads img r xs rs ≡ false) r m (decision_of img r xs rs m)
    unfolding step_heads decision_of
    decision_sound = begun_sound (beginning_of img r.core xs rs) beginning_known
