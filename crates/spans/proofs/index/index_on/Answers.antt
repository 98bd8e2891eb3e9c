use Rattle.std.proofs.Common.{sym, ◌∙◌, arith}
use Rattle.spans.proofs.Spans.{lies, here_below, here_up, index_end, index_past, index_here, index_up, index_tells}
use Rattle.spans.proofs.index.index_on.Goals as goal

pub returns-then-a-pc : goal.returns-then-a-pc
returns-then-a-pc c = let l = c.loop-j.invariant in index_tells _ _ _ _ (omega (arith, c.requires.1)) _ (index_here _ _ _ _ l.0.within (sym l.0.at ∙ c.if-a-pc.true) ∙ l.1)

pub returns-else-a-pc : goal.returns-else-a-pc
returns-else-a-pc c = let l = c.loop-j.invariant in index_tells _ _ _ _ (omega (arith, c.requires.1)) _ (index_past _ _ _ _ (omega (arith, l.0.at, c.if-pc-a.true, c.if-a-pc.false)) ∙ l.1)

pub bounds-image-at : goal.bounds-image-at
bounds-image-at c = omega (arith, (lies c.requires.0).inside)

pub overflow_add-a : goal.overflow_add-a
overflow_add-a c =
    let l = c.loop-j in
    let u = here_up _ _ (lies c.requires.0) _ _ _ l.invariant.0 c.loop-j-test.true c.length_of-a.ensures in
    omega (arith, here_below _ _ (lies c.requires.0) _ _ u)

pub loop-j-preserved : goal.loop-j-preserved
loop-j-preserved c =
    let l = c.loop-j in
    (here_up _ _ (lies c.requires.0) _ _ _ l.invariant.0 c.loop-j-test.true c.length_of-a.ensures, index_up _ _ _ _ c.loop-j-test.true (λ e. omega (arith, l.invariant.0.at, c.if-pc-a.false)) ∙ l.invariant.1)

pub returns : goal.returns
returns c = index_tells _ _ _ _ (omega (arith, c.requires.1)) _ (index_end _ _ _ _ c.loop-j-test.false ∙ c.loop-j.invariant.1)
