-- The instructions that neither store, save nor return, family by family.
-- Assumes nothing.
use Prim.Native.Nat.{ℕ, ◌%◌, ◌^◌, ◌<◌}
use native.Mathlib.Omega.{arith}
use mathlib.Core.Path.{◌≡◌, refl}
use mathlib.Core.Bool.{Bool, not, ◌&&◌, ◌||◌}
use mathlib.Core.List.{List}
use lib.ListN.{length, get_or}
use lib.Dec.{eqb}
use Rattle.memory.specs.Memory.{Windows, Memory}
use Rattle.memory.specs.declared.address.Address.{Address}
use Rattle.fields.specs.Psw.{psw_prs, is_user0}
use Rattle.fields.specs.Syscon.{syscon_proten}
use Rattle.fields.proofs.RangeSets.{level, level_flagged, level_overflowed}
use Rattle.bounds.proofs.Results.{compute_word, compute_psw}
use Rattle.compare.specs.Compare.{equals}
use Rattle.integer.specs.Integer.{compute_of}
use Rattle.integer.specs.declared.Integer.{Integer}
use Rattle.integer.proofs.Status.{psw_of}
use Rattle.operations.specs.declared.Move.{Move}
use Rattle.operations.specs.declared.Move.TheVariants.{MovA, MovD, MovAa, AddA, SubA}
use Rattle.operations.specs.declared.Jump.{Jump}
use Rattle.operations.specs.declared.Jump.TheVariants.{J, Jl, Ji, Jeq, Jne, Jlt, JltU, Jge, JgeU, Loop}
use Rattle.operations.specs.declared.Load.{Load}
use Rattle.operations.specs.declared.Load.TheVariants.{LdB, LdBu, LdH, LdHu, LdW, LdA}
use Rattle.image.specs.declared.fetch.Instruction.{Instruction}
use Rattle.registers.specs.Registers.{D, A, pc, psw, with_pc, second_of, plus_of, guards}
use Rattle.registers.specs.declared.Registers.{Registers}
use Rattle.events.specs.Traps.{MPP}
use Rattle.protection.specs.Range.{permitted}
use Rattle.protection.specs.Access.{denied_of, check_of, peripheral}
use Rattle.protection.specs.declared.range.Range.{Range}
use Rattle.protection.specs.declared.range.Right.{Right}
use Rattle.protection.specs.declared.range.Right.TheVariants as right
use Rattle.areas.specs.Place.{placed_at}
use Rattle.moves.specs.Moves.{integer_of, address_write, move_of}
use Rattle.jumps.specs.Jumps.{target_of, branch_of, holds, compare_of, loop_of, jump_of}
use Rattle.accesses.specs.Reach.{placed_reach, aligned_reach, checked_reach, reach_of}
use Rattle.accesses.specs.Load.{address_in, loads_address, read_of, put_of, load_by, load_of, size_of, alignment_of}
use Rattle.decisions.specs.Valid.{Valid, Bytes}
use Rattle.decisions.proofs.Setters.{even_word, even_even}
use Rattle.decisions.proofs.Values.{Word, either_has, second_word, plus_word, minus_word, read_word}
use Rattle.decisions.proofs.Sound.{Sound, EndsSound, TrapBytes, sound_start, sound_d, sound_a, sound_psw, sound_pc}
use Rattle.std.specs.Prelude.{Err, None, Ok, Option, Result, Some, ⊤}
use Rattle.events.specs.declared.trap.Trap.{Trap}

-- the immediate is a word, and the next instruction's address one that is even
pub record Decoded (i : Instruction) : Type 0 where
  pub imm : Word i.imm
  pub next : Word i.next
  pub even : i.next % 2 ≡ 0

pub small : {class tin : ℕ} → class < 2 ^ 8 → tin < 2 ^ 8 → TrapBytes (record { class = class; tin = tin })
small h g = record { class = h; tin = g }

-- a new PC
abbrev Target : ℕ → Type 0
Target v = Word v × (v % 2 ≡ 0)

module _ (quiet : Type 0) {r : Registers} (w : Valid r) where
  -- done, with nothing but PC written after q
  pub onward : {i : Instruction} {q : Registers} → Decoded i → Sound quiet r q → Sound quiet r (with_pc i.next q)
  onward {i = i} o s = sound_pc s i.next o.next o.even

  module _ (i : Instruction) (o : Decoded i) where
    pub integer_sound : (op : Integer) → Sound quiet r (integer_of op i r)
    unfolding integer_of
    integer_sound op =
        let v = compute_of op (D r i.a) (second_of r.d i.b i.imm) (psw r) in
        onward {i = i} o
        (sound_psw (sound_d (sound_start w) i.c v.word (compute_word op _ _ _ (w.d.each i.a) (second_word i.b i.imm w.d o.imm)))
        v.psw (compute_psw op _ _ _ (w.core.each 1)) (psw_of (λ (p : ℕ). level p ≡ level (psw r)) (psw r) refl (level_overflowed (psw r)) (level_flagged (psw r)) op _ _))

    address_sound : (c value : ℕ) → Word value → EndsSound quiet r (address_write c value i.next r)
    unfolding address_write
    address_sound c value h =
        either_has (EndsSound quiet r) (guards (psw r) c) (small (omega arith) (omega arith)) (onward {i = i} o (sound_a (sound_start w) c value h))

    pub move_sound : (op : Move) → EndsSound quiet r (move_of op i r)
    unfolding move_of
    move_sound MovA = address_sound i.c _ (second_word i.b i.imm w.d o.imm)
    move_sound MovD = onward {i = i} o (sound_d (sound_start w) i.c _ (w.a.each i.a))
    move_sound MovAa = address_sound i.c _ (w.a.each i.a)
    move_sound AddA = address_sound i.c _ (plus_word (A r i.a) (second_of r.a i.b i.imm))
    move_sound SubA = address_sound i.c _ (minus_word (A r i.a) (second_of r.a i.b i.imm))

    target_even : Target (target_of (pc r) i.imm)
    unfolding target_of
    target_even = (even_word _ (plus_word (pc r) i.imm), even_even (plus_of (pc r) i.imm))

    branch_even : (b : Bool) → Target (branch_of b (pc r) i.imm i.next)
    unfolding branch_of
    branch_even b = either_has Target b target_even (o.next, o.even)

    to : {q : Registers} {v : ℕ} → Sound quiet r q → Target v → Sound quiet r (with_pc v q)
    to {v = v} s t = sound_pc s v t.0 t.1

    compare_sound : (op : Jump) → EndsSound quiet r (compare_of op i r)
    unfolding compare_of
    compare_sound op = to (sound_start w) (branch_even (holds op (D r i.a) (D r i.b)))

    loop_sound : EndsSound quiet r (loop_of i r)
    unfolding loop_of
    loop_sound =
        either_has (EndsSound quiet r) (guards (psw r) i.a) (small (omega arith) (omega arith))
        (to (sound_a (sound_start w) i.a _ (minus_word (A r i.a) 1)) (branch_even (not (equals (A r i.a) 0))))

    pub jump_sound : (op : Jump) → EndsSound quiet r (jump_of op i r)
    unfolding jump_of
    jump_sound J = to (sound_start w) target_even
    jump_sound Jl = to (sound_a (sound_start w) 11 i.next o.next) target_even
    jump_sound Ji = to (sound_start w) (even_word _ (w.a.each i.a), even_even (A r i.a))
    jump_sound Jeq = compare_sound Jeq
    jump_sound Jne = compare_sound Jne
    jump_sound Jlt = compare_sound Jlt
    jump_sound JltU = compare_sound JltU
    jump_sound Jge = compare_sound Jge
    jump_sound JgeU = compare_sound JgeU
    jump_sound Loop = loop_sound

-- what protection says is a trap of bytes
abbrev pub CheckBytes : Result ⊤ Trap → Type 0
CheckBytes (Ok _) = Unit {0}
CheckBytes (Err t) = TrapBytes t

denied_bytes : (right : Right) → TrapBytes (denied_of right)
denied_bytes right.Read = small (omega arith) (omega arith)
denied_bytes right.Write = small (omega arith) (omega arith)
denied_bytes right.Execute = small (omega arith) (omega arith)

peripheral_bytes : TrapBytes MPP
peripheral_bytes = small (omega arith) (omega arith)

pub check_bytes : (core : List ℕ) (rs : List Range) (right : Right) (address : Address) → CheckBytes (check_of core rs right address)
unfolding check_of
check_bytes core rs right address =
    either_has CheckBytes (peripheral address) (either_has CheckBytes (is_user0 (get_or core 1 0)) peripheral_bytes tt) (either_has CheckBytes (not (syscon_proten (get_or core 9 0)) || permitted rs (psw_prs (get_or core 1 0)) right address) tt (denied_bytes right))

-- and so are those of an access to data
abbrev pub ReachBytes : Result ℕ Trap → Type 0
ReachBytes (Ok at) = Unit {0}
ReachBytes (Err t) = TrapBytes t

module _ (w : Windows) (len : ℕ) (core : List ℕ) (rs : List Range) (right : Right) (guarded : Bool) (size alignment : ℕ) (address : Address) where
  placed_bytes : (p : Option ℕ) → ReachBytes (placed_reach p)
  placed_bytes None = small (omega arith) (omega arith)
  placed_bytes (Some at) = tt

  aligned_bytes : ReachBytes (aligned_reach w len guarded size alignment address)
  unfolding aligned_reach
  aligned_bytes =
      either_has ReachBytes guarded (small (omega arith) (omega arith))
      (either_has ReachBytes (eqb (address.0 % alignment) 0) (placed_bytes (placed_at w len size address)) (small (omega arith) (omega arith)))

  checked_bytes : (c : Result ⊤ Trap) → CheckBytes c → ReachBytes (checked_reach c (aligned_reach w len guarded size alignment address))
  checked_bytes (Err t) h = h
  checked_bytes (Ok _) h = aligned_bytes

  pub reach_bytes : ReachBytes (reach_of w len core rs right guarded size alignment address)
  unfolding reach_of
  reach_bytes = checked_bytes (check_of core rs right address) (check_bytes core rs right address)

module _ (quiet : Type 0) {r : Registers} (w : Valid r) (i : Instruction) (o : Decoded i) (m : Memory) (b : Bytes m.bytes) where
  put_sound : (op : Load) (v : ℕ) → Word v → Sound quiet r (put_of op i.c v r)
  put_sound LdB v h = sound_d (sound_start w) i.c v h
  put_sound LdBu v h = sound_d (sound_start w) i.c v h
  put_sound LdH v h = sound_d (sound_start w) i.c v h
  put_sound LdHu v h = sound_d (sound_start w) i.c v h
  put_sound LdW v h = sound_d (sound_start w) i.c v h
  put_sound LdA v h = sound_a (sound_start w) i.c v h

  reached_sound : (op : Load) (p : Result ℕ Trap) → ReachBytes p → EndsSound quiet r (load_by op i r m p)
  reached_sound op (Err t) h = h
  reached_sound op (Ok at) h = onward quiet w {i = i} o (put_sound op (read_of op m.bytes at) (read_word b op at))

  pub load_sound : (rs : List Range) (op : Load) → EndsSound quiet r (load_of op i r rs m)
  unfolding load_of
  load_sound rs op =
      let g = loads_address op && guards (psw r) i.c in
      let at = address_in i r.a in
      reached_sound op (reach_of m.windows (length m.bytes) r.core rs right.Read g (size_of op) (alignment_of op) at)
      (reach_bytes m.windows (length m.bytes) r.core rs right.Read g (size_of op) (alignment_of op) at)
