-- The series, by computation.
-- Assumes nothing.
use mathlib.Core.Path.{◌≡◌, refl}
use mathlib.Core.List.{[], ◌∷◌, ◌++◌}
use Rattle.words.specs.Bits.{bit}
use Rattle.fields.specs.Field.{is_set}
use Rattle.fields.specs.Depth.{counter_bits, counts, overflows_up, underflows_down, nested, called_of}
use Rattle.fields.specs.Icr.{icr_of}
use Rattle.fields.specs.Pcxi.{pcxi_of}
use Rattle.fields.specs.Request.{requests, cleared_of}
use Rattle.memory.specs.Word.{word_at, words_at, put_word, put_words}
use Rattle.registers.specs.Registers.{plus_of, pc, fcx, pcxi}
use Rattle.areas.specs.Place.{placed_at, spot_at, placed_in}
use Rattle.areas.specs.declared.link.Spot.TheVariants.{First, Second}
use Rattle.lists.specs.Walk.{list_walk, lists_of}
use Rattle.contexts.specs.Context.{upper_of, lower_of}
use Rattle.contexts.specs.Save.{room_at, take_of, foreseen_of, save_at_of, save_of}
use Rattle.contexts.specs.Restore.{loaded_of, return_of}
use Rattle.entries.specs.Entry.{stack_of, entered_of, trap_entry, interrupt_entry, fcd_of}
use Rattle.protection.specs.Range.{enables, permits, first_of, any_from}
use Rattle.protection.specs.Access.{check_of}
use Rattle.interrupts.specs.Sources.{better_of, best_below, takes, cleared_at}
use Rattle.operations.specs.Operations.{operation_of}
use Rattle.operations.specs.Forms.{operation_number}
use Rattle.image.specs.Lengths.{length_of, address_after}
use Rattle.image.specs.Table.{entry_at, entry_fits, entries_from, table_of}
use Rattle.image.specs.Records.{record_holds, records_from, image_of}
use Rattle.image.specs.Rest.{body_walk, rest_from, rest_of}
use Rattle.image.specs.Fetch.{instruction_at, fetch_of}
use Rattle.inputs.specs.Checks.{window_holds, second_holds, apart_holds, windows_verdict, step_verdict, start_verdict}
use Rattle.accesses.specs.Reach.{aligned_reach, reach_of}
use Rattle.accesses.specs.Store.{store_of}
use Rattle.calls.specs.Saves.{called_then, call_of, svlcx_of, bisr_then, bisr_of}
use Rattle.calls.specs.Returns.{previous_of, ret_of, rfe_of, rslcx_of}
use Rattle.calls.specs.Instructions.{context_op}
use Rattle.execute.specs.Execute.{act_of}
use Rattle.decisions.specs.Beginning.{fetching_at, beginning_of}
use Rattle.decisions.specs.Decision.{decision_of, one_of, requests_of}
use Rattle.machine.specs.Step.{step_of}
use Rattle.machine.specs.Run.{run_from, run_of}
use Rattle.series.specs.Calls.{after_all, run_args, all_args}
use Rattle.series.specs.Abstract.{upper_registers, lower_registers, moved}
use Rattle.series.specs.Conditions.{moved_at, moved_all}
use Rattle.series.specs.Claim.{listed}
use Rattle.witness.specs.Start.{start}
use Rattle.witness.specs.Series.{interrupted, saving_calls, returning_calls, calls}
use Rattle.witness.specs.Lists.{begun, depleted, all_free, ended}
use Rattle.witness.specs.Witness.{spots, outcomes, happening, loaded}
use Rattle.std.specs.Prelude.{Ok}

pub accepted : start_verdict start.memory interrupted.bytes (pc start.registers) (fcx start.registers) (pcxi start.registers) ≡ (Ok tt)
unfolding word_at placed_at spot_at placed_in list_walk lists_of entry_at address_after length_of operation_number entry_fits entries_from table_of record_holds records_from image_of window_holds second_holds apart_holds windows_verdict step_verdict start_verdict
accepted = refl

pub crossing : spots start.memory (listed begun) ≡ First 0 ∷ Second 0 ∷ First 64 ∷ Second 64 ∷ First 128 ∷ []
unfolding spot_at placed_in
crossing = refl

pub happened : outcomes (all_args calls start) ≡ happening
unfolding bit is_set counter_bits counts overflows_up underflows_down nested called_of icr_of pcxi_of requests cleared_of word_at words_at put_word put_words plus_of placed_at spot_at placed_in upper_of lower_of room_at take_of foreseen_of save_at_of save_of loaded_of return_of stack_of entered_of trap_entry interrupt_entry fcd_of better_of best_below takes cleared_at enables permits first_of any_from check_of operation_of entry_at address_after length_of operation_number entry_fits entries_from table_of record_holds records_from image_of body_walk rest_from rest_of instruction_at fetch_of window_holds second_holds apart_holds windows_verdict step_verdict called_then call_of svlcx_of bisr_then bisr_of previous_of ret_of rfe_of rslcx_of context_op aligned_reach reach_of store_of act_of fetching_at beginning_of decision_of one_of requests_of step_of run_from run_of run_args
happened = refl

pub no_area_left : moved_all (all_args saving_calls start) begun ≡ depleted
unfolding bit is_set counter_bits counts overflows_up underflows_down nested called_of icr_of pcxi_of requests cleared_of word_at words_at put_word put_words plus_of placed_at spot_at placed_in upper_of lower_of room_at take_of foreseen_of save_at_of save_of loaded_of return_of stack_of entered_of trap_entry interrupt_entry fcd_of better_of best_below takes cleared_at enables permits first_of any_from check_of operation_of entry_at address_after length_of operation_number entry_fits entries_from table_of record_holds records_from image_of body_walk rest_from rest_of instruction_at fetch_of window_holds second_holds apart_holds windows_verdict step_verdict called_then call_of svlcx_of bisr_then bisr_of previous_of ret_of rfe_of rslcx_of context_op aligned_reach reach_of store_of act_of fetching_at beginning_of one_of requests_of step_of run_from run_of run_args decision_of upper_registers lower_registers moved moved_at
no_area_left = refl

pub no_area_used : moved_all (all_args (saving_calls ++ returning_calls) start) begun ≡ all_free
unfolding bit is_set counter_bits counts overflows_up underflows_down nested called_of icr_of pcxi_of requests cleared_of word_at words_at put_word put_words plus_of placed_at spot_at placed_in upper_of lower_of room_at take_of foreseen_of save_at_of save_of loaded_of return_of stack_of entered_of trap_entry interrupt_entry fcd_of better_of best_below takes cleared_at enables permits first_of any_from check_of operation_of entry_at address_after length_of operation_number entry_fits entries_from table_of record_holds records_from image_of body_walk rest_from rest_of instruction_at fetch_of window_holds second_holds apart_holds windows_verdict step_verdict called_then call_of svlcx_of bisr_then bisr_of previous_of ret_of rfe_of rslcx_of context_op aligned_reach reach_of store_of act_of fetching_at beginning_of one_of requests_of step_of run_from run_of run_args decision_of upper_registers lower_registers moved moved_at
no_area_used = refl

pub after : moved_all (all_args calls start) begun ≡ ended
unfolding bit is_set counter_bits counts overflows_up underflows_down nested called_of icr_of pcxi_of requests cleared_of word_at words_at put_word put_words plus_of placed_at spot_at placed_in upper_of lower_of room_at take_of foreseen_of save_at_of save_of loaded_of return_of stack_of entered_of trap_entry interrupt_entry fcd_of better_of best_below takes cleared_at enables permits first_of any_from check_of operation_of entry_at address_after length_of operation_number entry_fits entries_from table_of record_holds records_from image_of body_walk rest_from rest_of instruction_at fetch_of window_holds second_holds apart_holds windows_verdict step_verdict called_then call_of svlcx_of bisr_then bisr_of previous_of ret_of rfe_of rslcx_of context_op aligned_reach reach_of store_of act_of fetching_at beginning_of one_of requests_of step_of run_from run_of run_args decision_of upper_registers lower_registers moved moved_at
after = refl

pub restored : (after_all (saving_calls ++ returning_calls) start).registers ≡ loaded
unfolding bit is_set counter_bits counts overflows_up underflows_down nested called_of icr_of pcxi_of requests cleared_of word_at words_at put_word put_words plus_of placed_at spot_at placed_in upper_of lower_of room_at take_of foreseen_of save_at_of save_of loaded_of return_of stack_of entered_of trap_entry interrupt_entry fcd_of better_of best_below takes cleared_at enables permits first_of any_from check_of operation_of entry_at address_after length_of operation_number entry_fits entries_from table_of record_holds records_from image_of body_walk rest_from rest_of instruction_at fetch_of window_holds second_holds apart_holds windows_verdict step_verdict called_then call_of svlcx_of bisr_then bisr_of previous_of ret_of rfe_of rslcx_of context_op aligned_reach reach_of store_of act_of fetching_at beginning_of decision_of one_of requests_of step_of run_from run_of run_args
restored = refl

pub stored : word_at (after_all calls start).memory.bytes 320 ≡ 1
unfolding bit is_set counter_bits counts overflows_up underflows_down nested called_of icr_of pcxi_of requests cleared_of word_at words_at put_word put_words plus_of placed_at spot_at placed_in upper_of lower_of room_at take_of foreseen_of save_at_of save_of loaded_of return_of stack_of entered_of trap_entry interrupt_entry fcd_of better_of best_below takes cleared_at enables permits first_of any_from check_of operation_of entry_at address_after length_of operation_number entry_fits entries_from table_of record_holds records_from image_of body_walk rest_from rest_of instruction_at fetch_of window_holds second_holds apart_holds windows_verdict step_verdict called_then call_of svlcx_of bisr_then bisr_of previous_of ret_of rfe_of rslcx_of context_op aligned_reach reach_of store_of act_of fetching_at beginning_of decision_of one_of requests_of step_of run_from run_of run_args
stored = refl
