use Rattle.std.proofs.Common.{arith}
use Rattle.image.proofs.Images.{image_right}
use Rattle.spans.proofs.Spans.{in_body, rest_ends}
use Rattle.spans.proofs.span_of.Goals as goal

pub overflow_add-result : goal.overflow_add-result
overflow_add-result c =
    let p = c.requires in
    omega (arith, rest_ends c.args.image.now (image_right c.args.image.now p.0) c.args.long c.args.pc c.args.found p.1 p.2, p.3, c.well_formed.0.0)

pub returns-then-long : goal.returns-then-long
returns-then-long c = rw (c.requires.1, c.if-long.true)

pub read_entry-e-requires : goal.read_entry-e-requires
read_entry-e-requires c =
    let p = c.requires in
    let img = c.args.image.now in
    let g = image_right img p.0 in
    let b = in_body img g c.args.long c.args.pc c.args.found p.1 p.2 c.if-long.false in
    omega (arith, g.table.counted.whole, b.0.0)

pub overflow_add-result-2 : goal.overflow_add-result-2
overflow_add-result-2 c =
    let p = c.requires in
    omega (arith, rest_ends c.args.image.now (image_right c.args.image.now p.0) c.args.long c.args.pc c.args.found p.1 p.2, p.3, c.well_formed.0.0)

pub overflow_add-result-3 : goal.overflow_add-result-3
overflow_add-result-3 c =
    let p = c.requires in
    let img = c.args.image.now in
    let g = image_right img p.0 in
    let b = in_body img g c.args.long c.args.pc c.args.found p.1 p.2 c.if-long.false in
    omega (arith, g.table.counted.most, b.0.0)

pub overflow_sub-result : goal.overflow_sub-result
overflow_sub-result c =
    let p = c.requires in
    let img = c.args.image.now in
    let g = image_right img p.0 in
    let b = in_body img g c.args.long c.args.pc c.args.found p.1 p.2 c.if-long.false in
    rw c.read_entry-e.ensures b.2

pub returns : goal.returns
returns c = rw (c.bias_of.ensures, c.read_entry-e.ensures, c.requires.1, c.if-long.false)
