-- An instruction by its operation, and by how its act ended.
-- Assumes nothing.
use Prim.Native.Nat.{ℕ}
use mathlib.Core.Path.{◌≡◌, refl, sym, ap, subst, ◌∙◌}
use mathlib.Core.Bool.{Bool, true, false}
use mathlib.Core.List.{List}
use Rattle.fields.specs.Link.{link_of}
use Rattle.fields.specs.Psw.{psw_prs}
use Rattle.fields.proofs.RangeSets.{prs_flagged, prs_overflowed}
use Rattle.integer.specs.declared.Integer.{Integer}
use Rattle.integer.proofs.Status.{psw_of}
use Rattle.memory.specs.Memory.{Memory}
use Rattle.registers.specs.Registers.{psw, fcx}
use Rattle.registers.specs.declared.Registers.{Registers}
use Rattle.events.specs.declared.trap.Trap.{Trap}
use Rattle.events.specs.declared.event.Event.TheVariants as event
use Rattle.protection.specs.declared.range.Range.{Range}
use Rattle.operations.specs.declared.Operation.{Operation}
use Rattle.image.specs.declared.fetch.Instruction.{Instruction}
use Rattle.contexts.specs.Context.{upper_of, context_of}
use Rattle.contexts.specs.Save.{room_of, save_of}
use Rattle.contexts.specs.Restore.{return_of}
use Rattle.contexts.specs.declared.context.Half.TheVariants.{Upper}
use Rattle.entries.specs.Entry.{MadeOf, fcd_by, fcd_of, entering, trap_entry, enter_of}
use Rattle.entries.specs.declared.entry.Cause.TheVariants as cause
use Rattle.acts.specs.Acts as acts
use Rattle.acts.specs.Acts.{Act, Ended, ended, keeping, Did, did, control_of, is_same, done_by, done_of, perform_of, save_did, return_did}
use Rattle.acts.specs.declared.How.{How}
use Rattle.acts.specs.declared.How.TheVariants as how
use Rattle.acts.proofs.Steadiness.{Steady, steady_flags}
use Rattle.moves.specs.Moves.{integer_of}
use Rattle.execute.specs.Decision.{act_decides, returning_by, performed_of}
use Rattle.execute.specs.Execute.{act_by, act_of, finish_of, execute_of}
use Rattle.execute.specs.Executed.{stays_steady}
use Rattle.std.specs.Prelude.{Err, Ok, Result, ⊤}
use Rattle.contexts.specs.declared.save.Saved.{Saved}
use Rattle.events.specs.declared.event.Stop.{Stop}
use Rattle.contexts.specs.declared.save.Saved.TheVariants.{Depleted, Done}

pub performs : {o : Operation} {v : Did} (i : Instruction) (r : Registers) (rs : List Range) (m : Memory) → i.op ≡ o → v ≡ perform_of (act_by o i r rs m) r m → v ≡ perform_of (act_of i r rs m) r m
unfolding act_of
performs {v = v} i r rs m e h = subst (λ (o : Operation). v ≡ perform_of (act_by o i r rs m) r m) (sym e) h

-- an instruction that leaves memory alone
pub keeps_memory : {h : How} {q : Registers} {e : Ended} (m : Memory) → ended h q ≡ e → did h q m ≡ keeping e m
keeps_memory m is = ap (λ (v : Ended). keeping v m) is

pub steady_integer : (i : Instruction) (r : Registers) (op : Integer) → Steady r (integer_of op i r)
unfolding integer_of
steady_integer i r op = steady_flags _ _ _ _ r (psw_of (λ (p : ℕ). psw_prs p ≡ psw_prs (psw r)) (psw r) refl (prs_overflowed (psw r)) (prs_flagged (psw r)) op _ _)

-- ---- performing an act and then the entry is executing it
abbrev finish_did : ℕ → Did → MadeOf
finish_did next v = finish_of next v.how v.registers v.memory

module _ (next : ℕ) (r : Registers) (m : Memory) where
  -- done either way
  done_by_lem : (q : Registers) (n : Memory) (same : Bool) → finish_of next (done_by same) q n ≡ finish_of next how.Done q n
  unfolding finish_of
  done_by_lem q n true = refl
  done_by_lem q n false = refl

  done_finish : (q : Registers) (n : Memory) → finish_of next (done_of r q) q n ≡ finish_of next how.Done q n
  unfolding done_of
  done_finish q n = done_by_lem q n (is_same (control_of r.core) (control_of q.core))

  save_is : (then : Registers → Registers) (s : Result Saved Stop) (core : List ℕ) (n : Memory) → finish_did next (save_did then r s core n) ≡ entering event.Instruction then r s core n
  unfolding finish_of
  save_is then (Err x) core n = refl
  save_is then (Ok Done) core n = done_finish _ n
  save_is then (Ok Depleted) core n = refl

  return_is : (then : Registers → Registers) (s : Result ⊤ Stop) (q : Registers) (n : Memory) → finish_did next (return_did then r s q n) ≡ returning_by then s q n
  unfolding finish_of
  return_is then (Err x) q n = refl
  return_is then (Ok _) q n = done_finish _ n

  act_is : (a : Act) → finish_did next (perform_of a r m) ≡ performed_of (act_decides next r a) r m
  unfolding finish_of enter_of
  act_is (acts.Ends (acts.Sets q)) = done_finish q m
  act_is (acts.Ends (acts.Traps t)) = refl
  act_is (acts.Ends (acts.TrapsAfter t)) = refl
  act_is (acts.Write op at v q) = done_finish q _
  act_is (acts.Save half saved-pc then) = let v = save_of half (context_of half saved-pc r) r.core m in save_is then v.saved v.core v.memory
  act_is (acts.Return half then) = let v = return_of half r m in return_is then v.returned v.registers v.memory

-- ---- an act that is done says whether ICR, SYSCON and PSW.PRS are as they were
abbrev Told : Registers → How → Registers → Type 0
Told r how.Done q = is_same (control_of r.core) (control_of q.core) ≡ true
Told r how.Switched q = is_same (control_of r.core) (control_of q.core) ≡ false
Told r how.Depleted q = Unit {0}
Told r (how.Trap t) q = Unit {0}
Told r (how.TrapAfter t) q = Unit {0}
Told r (how.Stopped s) q = Unit {0}

abbrev ToldDid : Registers → Did → Type 0
ToldDid r v = Told r v.how v.registers

module _ (r : Registers) where
  done_told : (q : Registers) → Told r (done_of r q) q
  unfolding done_of
  done_told q = by (is_same (control_of r.core) (control_of q.core)) refl
    where
      by : (same : Bool) → is_same (control_of r.core) (control_of q.core) ≡ same → Told r (done_by same) q
      by true e = e
      by false e = e

  save_told : (then : Registers → Registers) (s : Result Saved Stop) (core : List ℕ) (n : Memory) → ToldDid r (save_did then r s core n)
  save_told then (Err x) core n = tt
  save_told then (Ok Done) core n = done_told _
  save_told then (Ok Depleted) core n = tt

  return_told : (then : Registers → Registers) (s : Result ⊤ Stop) (q : Registers) (n : Memory) → ToldDid r (return_did then r s q n)
  return_told then (Err x) q n = tt
  return_told then (Ok _) q n = done_told _

  act_told : (m : Memory) (a : Act) → ToldDid r (perform_of a r m)
  act_told m (acts.Ends (acts.Sets q)) = done_told q
  act_told m (acts.Ends (acts.Traps t)) = tt
  act_told m (acts.Ends (acts.TrapsAfter t)) = tt
  act_told m (acts.Write op at v q) = done_told q
  act_told m (acts.Save half saved-pc then) = let v = save_of half (context_of half saved-pc r) r.core m in save_told then v.saved v.core v.memory
  act_told m (acts.Return half then) = let v = return_of half r m in return_told then v.returned v.registers v.memory

  -- an entry is never steady
  abbrev Entered : MadeOf → Type 0
  Entered x = stays_steady x.ending r x.registers ≡ false

  fcd_entered : (q : Registers) (m : Memory) → Entered (fcd_of q m)
  unfolding fcd_of
  fcd_entered q m = by (room_of m (link_of (fcx q)))
    where
      by : (s : Result ℕ Stop) → Entered (fcd_by q m s)
      by (Err s) = refl
      by (Ok at) = refl

  trap_entered : (t : Trap) (back : ℕ) (q : Registers) (m : Memory) → Entered (enter_of (cause.Trap t back) q m)
  unfolding enter_of
  trap_entered t back q m = let v = save_of Upper (upper_of q) q.core m in by v.saved v.core v.memory
    where
      by : (s : Result Saved Stop) (core : List ℕ) (n : Memory) → Entered (entering (event.Trap t) (trap_entry t back) q s core n)
      by (Err s) core n = refl
      by (Ok Done) core n = refl
      by (Ok Depleted) core n = fcd_entered _ n

  finish_told : (next : ℕ) (h : How) (q : Registers) (m : Memory) → Told r h q → (h ≡ how.Done → ⊥) → Entered (finish_of next h q m)
  unfolding finish_of
  finish_told next how.Done q m t e = absurd (e refl)
  finish_told next how.Switched q m t e = t
  finish_told next how.Depleted q m t e = fcd_entered q m
  finish_told next (how.Trap x) q m t e = trap_entered x _ q m
  finish_told next (how.TrapAfter x) q m t e = trap_entered x _ q m
  finish_told next (how.Stopped s) q m t e = refl

-- ---- what is known of an instruction once its act is performed
module _ (i : Instruction) (r : Registers) (rs : List Range) (m : Memory) {h : How} {q : Registers} {n : Memory} (is : did h q n ≡ perform_of (act_of i r rs m) r m) where
  pub executed_as : finish_of i.next h q n ≡ execute_of i r rs m
  unfolding execute_of
  executed_as = ap (finish_did i.next) is ∙ act_is i.next r m (act_of i r rs m)

  pub told : Told r h q
  told = subst (ToldDid r) (sym is) (act_told r m (act_of i r rs m))

  pub entered : {x : MadeOf} → x ≡ finish_of i.next h q n → (h ≡ how.Done → ⊥) → false ≡ stays_steady x.ending r x.registers
  entered e f = sym (subst (Entered r) (sym e) (finish_told r i.next h q n told f))
