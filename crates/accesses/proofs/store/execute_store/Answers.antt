use Rattle.accesses.proofs.Stores.{stored}
use Rattle.accesses.proofs.store.execute_store.Goals.{in-StB, in-StH, in-StW, in-StA}
use Rattle.accesses.proofs.store.execute_store.Goals as goal

pub returns : goal.returns
returns c =
    elim c.match-op.branch [
      | in-StB w ↦ stored (record { value = rw (w.in-StB.is, w.written-is, ← c.data_address-target.ensures) w.write-written.ensures.value; written = rw (w.in-StB.is, w.window-is, w.window2-is, ← c.data_address-target.ensures) w.write-written.ensures.written; kept = rw w.window-is w.write-written.ensures.length_kept }) c.end_store.ensures
      | in-StH w ↦ stored (record { value = rw (w.in-StH.is, w.written-is, ← c.data_address-target.ensures) w.write-written-in-StH.ensures.value; written = rw (w.in-StH.is, w.window-is, w.window2-is, ← c.data_address-target.ensures) w.write-written-in-StH.ensures.written; kept = rw w.window-is w.write-written-in-StH.ensures.length_kept }) c.end_store.ensures
      | in-StW w ↦ stored (record { value = rw (w.in-StW.is, w.written-is, ← c.data_address-target.ensures) w.write-written-in-StW.ensures.value; written = rw (w.in-StW.is, w.window-is, w.window2-is, ← c.data_address-target.ensures) w.write-written-in-StW.ensures.written; kept = rw w.window-is w.write-written-in-StW.ensures.length_kept }) c.end_store.ensures
      | in-StA w ↦ stored (record { value = rw (w.in-StA.is, w.written-is, ← c.data_address-target.ensures) w.write-written-in-StA.ensures.value; written = rw (w.in-StA.is, w.window-is, w.window2-is, ← c.data_address-target.ensures) w.write-written-in-StA.ensures.written; kept = rw w.window-is w.write-written-in-StA.ensures.length_kept }) c.end_store.ensures
    ]
