use Rattle.std.proofs.Common.{arith, ◌≡◌, ◌*◌, ◌^◌, ◌%◌, refl}
use Rattle.fields.specs.Depth.{counter_bits}
use Rattle.fields.proofs.Counters.{highest}
use Rattle.fields.proofs.depth.counter_of.Goals as goal

pub returns : goal.returns
returns c =
    let n = c.ilog2-above.result in
    let l = c.ilog2-above.ensures.power_le in
    let g = c.ilog2-above.ensures.next_power_gt in
    let e : counter_bits 7 c.args.cdc ≡ n = highest 7 n c.args.cdc (omega arith) (omega arith) in
    let s : 1 * 2 ^ n % 2 ^ 32 ≡ 2 ^ n = omega arith in
    rw (e, s) (refl, refl, omega arith)
