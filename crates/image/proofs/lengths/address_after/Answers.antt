use Rattle.std.proofs.Common.{◌+◌, ◌*◌, get_or, sym, arith}
use Rattle.image.proofs.Addresses.{length_says, after_none, after_high, after_plus}
use Rattle.image.proofs.lengths.address_after.Goals as goal

pub loop-k-init : goal.loop-k-init
loop-k-init c = sym (after_none _ _ _)

pub overflow_add-here : goal.overflow_add-here
overflow_add-here c = omega (arith, c.loop-k.invariant, after_high c.loop-k.k c.args.image.now c.args.at c.args.from, c.length_of.ensures, (length_says (get_or c.args.image.now (c.args.at + 8 * c.loop-k.k) 0)).high)

pub loop-k-preserved : goal.loop-k-preserved
loop-k-preserved c = rw (c.loop-k.invariant, c.length_of.ensures) (sym (after_plus _ _ _ _))
