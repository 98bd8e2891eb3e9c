-- The examples are accepted, by computation.
-- Assumes nothing.
use mathlib.Core.Path.{refl}
use Rattle.memory.specs.Word.{word_at}
use Rattle.areas.specs.Place.{placed_at, spot_at, placed_in}
use Rattle.lists.specs.Walk.{list_walk, lists_of}
use Rattle.operations.specs.Forms.{operation_number}
use Rattle.image.specs.Lengths.{length_of, address_after}
use Rattle.image.specs.Table.{entry_at, entry_fits, entries_from, table_of}
use Rattle.image.specs.Records.{record_holds, records_from, image_of}
use Rattle.inputs.specs.Checks.{window_holds, second_holds, apart_holds, windows_verdict, step_verdict, start_verdict}
use Rattle.bench.specs.Accepted.{PoolAccepted}

pub pool_accepted : PoolAccepted
unfolding word_at placed_at spot_at placed_in list_walk lists_of entry_at address_after length_of operation_number entry_fits entries_from table_of record_holds records_from image_of window_holds second_holds apart_holds windows_verdict step_verdict start_verdict
pool_accepted = refl
