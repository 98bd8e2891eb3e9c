use lib.ListN.{get_or}
use Rattle.memory.specs.Word.{half_at}
use Rattle.memory.specs.Memory.{lent}
use Rattle.operations.specs.declared.Load.TheVariants.{LdB, LdBu, LdH, LdHu, LdW, LdA}
use Rattle.accesses.specs.Load.{extend_byte, extend_half, read_of, load_of}
use Rattle.accesses.proofs.Loads.{loaded, extended}
use Rattle.accesses.proofs.load.execute_load.Goals.{in-LdB, in-LdBu, in-LdH, in-LdHu, in-LdW}
use Rattle.accesses.proofs.load.execute_load.Goals as goal

pub returns-in-LdA : goal.returns-in-LdA
unfolding load_of read_of
returns-in-LdA c =
    let e = rw c.read-word.ensures.value at c.put_address.ensures in
    rw (c.in-LdA.is, ← c.data_address-source.ensures, ← c.guarded-guard.ensures) (loaded LdA c.args.i c.args.registers.now (lent c.args.base c.args.window.now c.args.base2 c.args.window2.now) _ e)

pub returns : goal.returns
unfolding load_of read_of
returns c =
    let m = lent c.args.base c.args.window.now c.args.base2 c.args.window2.now in
    elim c.match-op.branch [
      | in-LdB w ↦ rw (w.in-LdB.is, ← c.data_address-source.ensures) (loaded LdB c.args.i c.args.registers.now m _ (rw (w.loaded-is, extended extend_byte (λ s k. get_or s k 0) m.bytes _ _ _ w.read-byte.ensures.value w.map-loaded.ensures.cases) at c.put_data.ensures))
      | in-LdBu w ↦ rw (w.in-LdBu.is, ← c.data_address-source.ensures) (loaded LdBu c.args.i c.args.registers.now m _ (rw (w.loaded-is, w.read-loaded.ensures.value) at c.put_data.ensures))
      | in-LdH w ↦ rw (w.in-LdH.is, ← c.data_address-source.ensures) (loaded LdH c.args.i c.args.registers.now m _ (rw (w.loaded-is, extended extend_half half_at m.bytes _ _ _ w.read-half.ensures.value w.map-loaded-in-LdH.ensures.cases) at c.put_data.ensures))
      | in-LdHu w ↦ rw (w.in-LdHu.is, ← c.data_address-source.ensures) (loaded LdHu c.args.i c.args.registers.now m _ (rw (w.loaded-is, w.read-loaded-in-LdHu.ensures.value) at c.put_data.ensures))
      | in-LdW w ↦ rw (w.in-LdW.is, ← c.data_address-source.ensures) (loaded LdW c.args.i c.args.registers.now m _ (rw (w.loaded-is, w.read-loaded-in-LdW.ensures.value) at c.put_data.ensures))
    ]
