-- The act of every instruction is sound.
-- Assumes nothing.
use Prim.Native.Nat.{ℕ, ◌+◌, ◌≤◌}
use native.Mathlib.Omega.{arith}
use mathlib.Core.Path.{◌≡◌, refl, sym}
use mathlib.Core.Bool.{Bool, true, false, not}
use mathlib.Core.List.{List}
use lib.ListN.{length}
use lib.Dec.{eqb}
use borrow.Author.Tests.{eqb-false}
use Rattle.memory.specs.Memory.{Memory}
use Rattle.fields.specs.Psw.{is_supervisor}
use Rattle.fields.specs.Pcxi.{pcxi_ul}
use Rattle.fields.specs.Depth.{overflows_up, underflows_down, nested}
use Rattle.operations.specs.declared.Operation.{Operation}
use Rattle.operations.specs.declared.Operation.TheVariants as operation
use Rattle.operations.specs.declared.Store.{Store}
use Rattle.operations.specs.declared.Store.TheVariants.{StB, StH, StW, StA}
use Rattle.operations.specs.declared.Context.{Context}
use Rattle.operations.specs.declared.Context.TheVariants.{Call, Calli, Ret, Rfe, Svlcx, Rslcx, Bisr, Syscall}
use Rattle.image.specs.declared.fetch.Instruction.{Instruction}
use Rattle.registers.specs.Registers.{A, pc, psw, pcxi, plus_of, new_pc}
use Rattle.registers.specs.declared.Registers.{Registers}
use Rattle.protection.specs.declared.range.Range.{Range}
use Rattle.protection.specs.declared.range.Right.TheVariants as right
use Rattle.fields.specs.Link.{link_of}
use Rattle.contexts.specs.Context.{ul_of}
use Rattle.contexts.specs.declared.context.Half.{Half}
use Rattle.contexts.specs.declared.context.Half.TheVariants.{Upper, Lower}
use Rattle.acts.specs.Acts.{Act, Ends, Write, Save, Return}
use Rattle.accesses.specs.Load.{address_in}
use Rattle.accesses.specs.Reach.{reach_of}
use Rattle.accesses.specs.Store.{size_of, alignment_of, value_of, store_by, store_of}
use Rattle.accesses.proofs.Reaches.{reach_inside}
use Rattle.calls.specs.Saves.{call_of, svlcx_of, bisr_of}
use Rattle.calls.specs.Returns.{is_of, previous_of, if_there, ret_of, rfe_of, rslcx_of}
use Rattle.calls.specs.Instructions.{context_op}
use Rattle.execute.specs.Execute.{act_by, act_of}
use Rattle.decisions.specs.Valid.{Valid, Bytes}
use Rattle.decisions.specs.Heads.{writes_head}
use Rattle.decisions.proofs.Setters.{even_word, even_even}
use Rattle.decisions.proofs.Values.{Word, either_has, either_knows, plus_word}
use Rattle.decisions.proofs.Levels.{ThenLevel}
use Rattle.decisions.proofs.Sound.{Sound, EndsSound, TrapBytes, sound_start}
use Rattle.decisions.proofs.Families.{Decoded, small, onward, integer_sound, move_sound, jump_sound, load_sound, ReachBytes, reach_bytes}
use Rattle.decisions.proofs.Systems.{system_sound}
use Rattle.decisions.proofs.Thens.{Then, ReturnThen, called_then_lem, pc_then, bisr_then_lem, called_level, pc_level, bisr_level, return_pc, return_rfe}
use Rattle.std.specs.Prelude.{Err, Ok, Result, ⊤}
use Rattle.events.specs.declared.trap.Trap.{Trap}

-- an area is there to return to, of that half
pub record HasPrevious (half : Half) (word : ℕ) : Type 0 where
  pub linked : (link_of word).0 ≡ 0 → ⊥
  pub is_of_lem : pcxi_ul word ≡ ul_of half

abbrev pub ActSound : Type 0 → Registers → Memory → Act → Type 0
ActSound quiet r m (Ends e) = EndsSound quiet r e
ActSound quiet r m (Write op at v q) = Sound quiet r q × Word v × (at + size_of op ≤ length m.bytes)
ActSound quiet r m (Save half saved-pc then) = Word saved-pc × Then then × ThenLevel then
ActSound quiet r m (Return half then) = ReturnThen then × HasPrevious half (pcxi r)

module _ (quiet : Type 0) {r : Registers} (w : Valid r) (i : Instruction) (o : Decoded i) (m : Memory) where
  -- stores
  value_word : (op : Store) → Word (value_of op i.c r.d r.a)
  value_word StB = w.d.each i.c
  value_word StH = w.d.each i.c
  value_word StW = w.d.each i.c
  value_word StA = w.a.each i.c

  reached_sound : (rs : List Range) (op : Store) (p : Result ℕ Trap) → reach_of m.windows (length m.bytes) r.core rs right.Write false (size_of op) (alignment_of op) (address_in i r.a) ≡ p → ReachBytes p → ActSound quiet r m (store_by op i r p)
  reached_sound rs op (Err t) e h = h
  reached_sound rs op (Ok at) e h = (onward quiet w {i = i} o (sound_start w), value_word op, (reach_inside _ _ _ _ _ _ _ _ _ at e).inside)

  pub store_sound : (rs : List Range) (op : Store) → ActSound quiet r m (store_of op i r rs m)
  unfolding store_of
  store_sound rs op = reached_sound rs op _ refl (reach_bytes m.windows (length m.bytes) r.core rs right.Write false (size_of op) (alignment_of op) (address_in i r.a))

  -- saves
  call_sound : (to : ℕ) → Word to → ActSound quiet r m (call_of to i.next r)
  unfolding call_of
  call_sound to h =
      either_has (ActSound quiet r m) (overflows_up (psw r)) (small (omega arith) (omega arith)) (omega arith, called_then_lem to i.next h o.next, called_level to i.next)

  bisr_sound : ActSound quiet r m (bisr_of i.imm i.next r)
  unfolding bisr_of
  bisr_sound =
      either_has (ActSound quiet r m) (is_supervisor (psw r)) (o.next, bisr_then_lem i.imm i.next o.next o.even, bisr_level i.imm i.next) (small (omega arith) (omega arith))

  -- returns
  abbrev PreviousSays : Half → Result ⊤ Trap → Type 0
  PreviousSays half (Ok _) = HasPrevious half (pcxi r)
  PreviousSays half (Err t) = TrapBytes t

  half_is : (half : Half) → is_of half (pcxi r) ≡ true → pcxi_ul (pcxi r) ≡ ul_of half
  half_is Upper e = e
  half_is Lower e = by (pcxi_ul (pcxi r)) e
    where
      by : (b : Bool) → not b ≡ true → b ≡ false
      by true e = sym e
      by false e = refl

  previous_says : (half : Half) → PreviousSays half (previous_of half (pcxi r))
  unfolding previous_of
  previous_says half =
      either_knows (PreviousSays half) (eqb (link_of (pcxi r)).0 0) (λ e. small (omega arith) (omega arith))
      (λ e. either_knows (PreviousSays half) (is_of half (pcxi r)) (λ f. record { linked = eqb-false (link_of (pcxi r)).0 0 e; is_of_lem = half_is half f }) (λ f. small (omega arith) (omega arith)))

  there_sound : (half : Half) (act : Act) → (HasPrevious half (pcxi r) → ActSound quiet r m act) → (p : Result ⊤ Trap) → PreviousSays half p → ActSound quiet r m (if_there act p)
  there_sound half act k (Err t) h = h
  there_sound half act k (Ok _) h = k h

  to_word : Word (new_pc (A r 11))
  to_word = even_word (A r 11) (w.a.each 11)

  ret_sound : ActSound quiet r m (ret_of r)
  unfolding ret_of
  ret_sound =
      either_has (ActSound quiet r m) (underflows_down (psw r)) (small (omega arith) (omega arith))
      (there_sound Upper _ (λ h. (return_pc (new_pc (A r 11)) to_word (even_even (A r 11)), h)) (previous_of Upper (pcxi r)) (previous_says Upper))

  rfe_sound : ActSound quiet r m (rfe_of r)
  unfolding rfe_of
  rfe_sound =
      there_sound Upper _
      (λ h. either_has (ActSound quiet r m) (nested (psw r)) (small (omega arith) (omega arith)) (return_rfe r w, h))
      (previous_of Upper (pcxi r)) (previous_says Upper)

  rslcx_sound : ActSound quiet r m (rslcx_of i.next r)
  unfolding rslcx_of
  rslcx_sound = there_sound Lower _ (λ h. (return_pc i.next o.next o.even, h)) (previous_of Lower (pcxi r)) (previous_says Lower)

  pub context_sound : (op : Context) → ActSound quiet r m (context_op op i r)
  unfolding context_op svlcx_of
  context_sound Call = call_sound (plus_of (pc r) i.imm) (plus_word (pc r) i.imm)
  context_sound Calli = call_sound (A r i.a) (w.a.each i.a)
  context_sound Ret = ret_sound
  context_sound Rfe = rfe_sound
  context_sound Svlcx = (o.next, pc_then i.next o.next o.even, pc_level i.next)
  context_sound Rslcx = rslcx_sound
  context_sound Bisr = bisr_sound
  context_sound Syscall = small (omega arith) (omega arith)

module _ {r : Registers} (w : Valid r) (i : Instruction) (o : Decoded i) (rs : List Range) (m : Memory) (b : Bytes m.bytes) where
  by_sound : (op : Operation) → ActSound (writes_head op i r ≡ false) r m (act_by op i r rs m)
  by_sound operation.Nop = onward _ w {i = i} o (sound_start w)
  by_sound (operation.Integer op) = integer_sound _ w i o op
  by_sound (operation.Move op) = move_sound _ w i o op
  by_sound (operation.Load op) = load_sound _ w i o m b rs op
  by_sound (operation.Store op) = store_sound _ w i o m rs op
  by_sound (operation.Jump op) = jump_sound _ w i o op
  by_sound (operation.Context op) = context_sound _ w i o m op
  by_sound (operation.System op) = system_sound w i o op

  pub act_sound : ActSound (writes_head i.op i r ≡ false) r m (act_of i r rs m)
  unfolding act_of
  act_sound = by_sound i.op
