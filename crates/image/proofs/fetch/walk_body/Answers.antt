use Rattle.std.proofs.Common.{◌+◌, sym, ◌∙◌, arith}
use Rattle.image.proofs.Addresses.{after_none, after_less, after_plus}
use Rattle.image.proofs.Walks.{walk_before, walk_start, turn_found, turn_on, turn_end}
use Rattle.image.proofs.fetch.walk_body.Goals as goal

pub loop-k-init : goal.loop-k-init
loop-k-init c = (sym (after_none _ _ _), walk_start _ _ _ _ _)

pub returns-then-pc-here : goal.returns-then-pc-here
returns-then-pc-here c = sym (walk_before _ _ _ _ _ c.if-pc-here.true) ∙ c.loop-k.invariant.1

pub returns-then-pc-here-2 : goal.returns-then-pc-here-2
returns-then-pc-here-2 c = turn_found _ _ _ _ _ _ c.loop-k-test.true (sym c.if-pc-here-2.true) ∙ c.loop-k.invariant.1

pub overflow_add-here : goal.overflow_add-here
overflow_add-here c = omega (arith, c.loop-k.invariant.0, after_plus c.loop-k.k c.args.image.now c.args.at c.args.from, after_less (c.loop-k.k + 1) c.args.n c.args.image.now c.args.at c.args.from (omega arith), c.length_of-here.ensures, c.requires.2)

pub loop-k-preserved : goal.loop-k-preserved
loop-k-preserved c = (rw (c.loop-k.invariant.0, c.length_of-here.ensures) (sym (after_plus _ _ _ _)), rw c.length_of-here.ensures (turn_on _ _ _ _ _ _ c.loop-k-test.true (λ e. c.if-pc-here-2.false (sym e))) ∙ c.loop-k.invariant.1)

pub returns : goal.returns
returns c = turn_end _ _ _ _ _ _ (omega arith) ∙ c.loop-k.invariant.1
