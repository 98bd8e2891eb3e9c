use Rattle.std.proofs.Common.{arith}
use Rattle.image.specs.Fetch.{Bounded, FetchSays}
use Rattle.inputs_export.proofs.Covers.{covers_few, distance_is}
use Rattle.inputs_export.proofs.fetched.Goals as goal
use Rattle.std.specs.Prelude.{Some}

pub overflow_add-result-in-Some-3 : goal.overflow_add-result-in-Some-3
overflow_add-result-in-Some-3 c =
    let r = c.in-Some.i in
    let b : Bounded (Some r) = rw c.in-Some.is at c.fetch.ensures.1 in
    let s : FetchSays c.args.image.now c.args.pc (Some r) = rw c.in-Some.is at c.fetch.ensures.2 in
    let d = distance_is c.args.pc r.next c.wrapping_sub_u32.result (omega arith) (omega arith) (omega arith) c.wrapping_sub_u32.ensures.value in
    omega (arith, d, covers_few c.args.image.now c.args.pc r s (omega arith))
