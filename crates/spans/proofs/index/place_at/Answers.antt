use Rattle.std.proofs.Common.{arith}
use Rattle.spans.proofs.Spans.{lies, place_long, place_follows, place_marked}
use Rattle.spans.proofs.index.place_at.Goals as goal

pub returns-then-guide : goal.returns-then-guide
returns-then-guide c = place_long _ _ _ _ _ _ _ c.if-guide.true

pub overflow_add-result : goal.overflow_add-result
overflow_add-result c =
    let p = c.requires in
    let r = p.1 c.if-guide.false in
    omega (arith, r.1, r.2, (lies p.0).inside, c.well_formed.0.0)

pub returns-then-pc-next : goal.returns-then-pc-next
returns-then-pc-next c = place_follows _ _ _ _ _ _ _ c.if-guide.false c.if-pc-next.true

pub overflow_add-result-2 : goal.overflow_add-result-2
overflow_add-result-2 c = omega (arith, (lies c.requires.0).inside, c.well_formed.0.0)

pub returns : goal.returns
returns c = rw c.index_marked.ensures (place_marked _ _ _ _ _ _ _ c.if-guide.false c.if-pc-next.false)
