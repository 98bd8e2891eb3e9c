use Rattle.std.proofs.Common.{arith}
use Rattle.fields.proofs.Counters.{room}
use Rattle.fields.proofs.depth.called.Goals as goal

pub overflow_add-result-3 : goal.overflow_add-result-3
overflow_add-result-3 c = omega (arith, room c.args.psw _ c.counting.ensures)
