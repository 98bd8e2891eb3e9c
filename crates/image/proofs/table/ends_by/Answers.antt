use Rattle.std.proofs.Common.{◌≤◌, sym, ◌∙◌, arith, le-leb}
use Rattle.image.specs.Table.{range_end}
use Rattle.image.proofs.Addresses.{after_high}
use Rattle.image.proofs.table.ends_by.Goals as goal

pub returns-then-e-limit : goal.returns-then-e-limit
returns-then-e-limit c =
    let a = c.args in
    let img = a.image.now in
    let l : range_end img a.e ≤ a.limit = let h = after_high a.e.records img a.e.offset a.e.load in omega arith in
    le-leb _ _ c.if-e-limit.true ∙ sym (le-leb (range_end img a.e) a.limit l)
