use Rattle.std.proofs.Common.{sym, ◌∙◌, arith}
use Rattle.protection.proofs.Searches.{below_upper}
use Rattle.spans.proofs.Spans.{fetch_all, fetch_by_lem, fetch_least, range_below}
use Rattle.spans.proofs.fetchable.Goals as goal

pub returns-then-not-protection : goal.returns-then-not-protection
returns-then-not-protection c = fetch_all _ _ _ _ (sym c.protection.ensures ∙ c.if-not-protection.true)

pub offset_bounds-ranges-k : goal.offset_bounds-ranges-k
offset_bounds-ranges-k c = let h = range_below c.args.ranges.now c.args.core.now _ _ (rw (c.protection_set.ensures.0, c.as_address.ensures) at (rw c.in-Some.is at c.search.ensures.1.says)).one in omega arith

pub bounds-ranges-k : goal.bounds-ranges-k
bounds-ranges-k c = let h = range_below c.args.ranges.now c.args.core.now _ _ (rw (c.protection_set.ensures.0, c.as_address.ensures) at (rw c.in-Some.is at c.search.ensures.1.says)).one in omega arith

pub records_below-below-requires : goal.records_below-below-requires
records_below-below-requires c = below_upper c.args.ranges.now _ _ _ _ (rw (c.protection_set.ensures.0, c.as_address.ensures) at (rw c.in-Some.is at c.search.ensures.1.says)).one

pub returns-in-Some : goal.returns-in-Some
returns-in-Some c =
    let a = c.args in
    let named = rw (c.protection_set.ensures.0, c.as_address.ensures) at c.search.ensures.0 in
    fetch_least a.ranges.now a.core.now a.pc a.records c.in-Some.k c.records_below-below.result (sym c.protection.ensures ∙ c.if-not-protection.false) (sym c.in-Some.is ∙ named) c.records_below-below.ensures _ c.min.ensures

pub returns-in-None : goal.returns-in-None
returns-in-None c = fetch_by_lem _ _ _ _ _ (sym c.protection.ensures ∙ c.if-not-protection.false) (sym c.in-None.is ∙ (rw (c.protection_set.ensures.0, c.as_address.ensures) at c.search.ensures.0))
