-- The series meets the two conditions: no MTCR is in it, and its one store goes to the area that is not listed.
-- Assumes nothing.
use native.Mathlib.Omega.{arith}
use Prim.Native.Nat.{ℕ, ◌+◌, ◌≤◌}
use mathlib.Core.Logic.{⊎_elim}
use mathlib.Core.Path.{◌≡◌, refl, subst}
use mathlib.Core.Bool.{false}
use mathlib.Core.List.{List, [], ◌∷◌}
use Rattle.words.specs.Bits.{bit}
use Rattle.fields.specs.Field.{is_set}
use Rattle.fields.specs.Depth.{counter_bits, counts, overflows_up, underflows_down, nested, called_of}
use Rattle.fields.specs.Icr.{icr_of}
use Rattle.fields.specs.Pcxi.{pcxi_of}
use Rattle.fields.specs.Request.{requests, cleared_of}
use Rattle.memory.specs.Memory.{Memory}
use Rattle.memory.specs.Word.{word_at, words_at, put_word, put_words}
use Rattle.registers.specs.Registers.{plus_of}
use Rattle.fields.specs.declared.link.Link.{Link}
use Rattle.areas.specs.Place.{placed_at, spot_at, placed_in, place_of}
use Rattle.lists.specs.Lists.{count}
use Rattle.lists.proofs.Counts.{same?, one_other}
use Rattle.contexts.specs.Context.{upper_of, lower_of}
use Rattle.contexts.specs.Save.{room_at, take_of, foreseen_of, save_at_of, save_of}
use Rattle.contexts.specs.Restore.{loaded_of, return_of}
use Rattle.entries.specs.Entry.{stack_of, entered_of, trap_entry, interrupt_entry, fcd_of}
use Rattle.protection.specs.Range.{enables, permits, first_of, any_from}
use Rattle.protection.specs.Access.{check_of}
use Rattle.interrupts.specs.Sources.{better_of, best_below, takes, cleared_at}
use Rattle.operations.specs.declared.Store.TheVariants.{StW}
use Rattle.operations.specs.Operations.{operation_of}
use Rattle.operations.specs.Forms.{operation_number}
use Rattle.image.specs.Lengths.{length_of, address_after}
use Rattle.image.specs.Table.{entry_at, entry_fits, entries_from, table_of}
use Rattle.image.specs.Records.{record_holds, records_from, image_of}
use Rattle.image.specs.Rest.{body_walk, rest_from, rest_of}
use Rattle.image.specs.Fetch.{instruction_at, fetch_of}
use Rattle.inputs.specs.Checks.{window_holds, second_holds, apart_holds, windows_verdict, step_verdict}
use Rattle.accesses.specs.Reach.{aligned_reach, reach_of}
use Rattle.accesses.specs.Store.{store_of}
use Rattle.calls.specs.Saves.{called_then, call_of, svlcx_of, bisr_then, bisr_of}
use Rattle.calls.specs.Returns.{previous_of, ret_of, rfe_of, rslcx_of}
use Rattle.calls.specs.Instructions.{context_op}
use Rattle.execute.specs.Execute.{act_of}
use Rattle.decisions.specs.Decision.{decision_of, one_of, requests_of}
use Rattle.decisions.specs.Heads.{step_heads}
use Rattle.decisions.specs.Beginning.{fetching_at, beginning_of}
use Rattle.machine.specs.Step.{step_of}
use Rattle.machine.specs.Run.{run_from, run_of}
use Rattle.series.specs.Conditions.{decision_at, Apart, StoreApart, Quiet, AllQuiet}
use Rattle.series.specs.Claim.{listed}
use Rattle.series.specs.Calls.{Args, run_args, all_args}
use Rattle.series.proofs.Invariant.{same_place}
use Rattle.witness.specs.Start.{start}
use Rattle.witness.specs.Series.{calls}
use Rattle.witness.specs.Lists.{begun}
use Rattle.std.specs.Prelude.{Some}

-- the areas of the links end at byte e
abbrev pub Before : Memory → ℕ → List Link → Type 0
Before m e [] = Unit {0}
Before m e (k ∷ ks) = ((at : ℕ) × (place_of m k ≡ Some at) × (at + 64 ≤ e)) × Before m e ks

pub before : (m : Memory) (e : ℕ) (ks : List Link) → Before m e ks → (l : Link) → 1 ≤ count l ks → (area : ℕ) → place_of m l ≡ Some area → area + 64 ≤ e
before m e [] h l c area p = absurd (omega (arith, c))
before m e (k ∷ ks) h l c area p =
    ⊎_elim
    (λ s. (let q : place_of m k ≡ Some area = subst (λ (j : Link). place_of m j ≡ Some area) s p in
    let t = same_place m k area h.0.0 q h.0.1 in
    omega (arith, h.0.2, t)))
    (λ d. before m e ks h.1 l (omega (arith, c, one_other l k d)) area p)
    (same? l k)

-- its one store: ST.W at byte 320, of four bytes
away : Apart (listed begun) start.memory StW 320
unfolding placed_at spot_at placed_in
away l c area p k a b d e =
    let t = before start.memory 320 (listed begun) ((0, refl, omega arith), ((192, refl, omega arith), ((64, refl, omega arith), ((256, refl, omega arith), ((128, refl, omega arith), tt))))) l c area p in
    omega (arith, t, a, e)

still : {L : List Link} {a : Args} → StoreApart L a.memory (decision_at a) → step_heads a.image.bytes a.registers a.requests a.ranges ≡ false → Quiet L a
still s h = record { stores = s; heads = h }

-- the fifth step is refused
pub quiet : AllQuiet (listed begun) (all_args calls start)
unfolding bit is_set counter_bits counts overflows_up underflows_down nested called_of icr_of pcxi_of requests cleared_of word_at words_at put_word put_words plus_of placed_at spot_at placed_in upper_of lower_of room_at take_of foreseen_of save_at_of save_of loaded_of return_of stack_of entered_of trap_entry interrupt_entry fcd_of better_of best_below takes cleared_at enables permits first_of any_from check_of operation_of entry_at address_after length_of operation_number entry_fits entries_from table_of record_holds records_from image_of body_walk rest_from rest_of instruction_at fetch_of window_holds second_holds apart_holds windows_verdict step_verdict called_then call_of svlcx_of bisr_then bisr_of previous_of ret_of rfe_of rslcx_of context_op aligned_reach reach_of store_of act_of fetching_at beginning_of one_of requests_of step_of run_from run_of run_args step_heads decision_of
quiet =
    (still tt refl, (still tt refl, (still away refl, (still tt refl, (tt, (still tt refl, (still tt refl, (still tt refl, (still tt refl, (still tt refl, (still tt refl, (still tt refl, tt))))))))))))
