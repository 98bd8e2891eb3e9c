use Rattle.std.proofs.Common.{◌<◌, sym, ap, ◌∙◌, subst, arith}
use Rattle.image.specs.Rest.{rest_of}
use Rattle.image.specs.Fetch.{FetchSays}
use Rattle.image.proofs.Images.{image_right}
use Rattle.image.proofs.Marking.{no_marks}
use Rattle.image.proofs.Fetches.{rest_bounds, first_fields, fetch_none, fetch_first, fetch_says}
use Rattle.image.proofs.fetch.fetch.Goals as goal
use Rattle.std.specs.Prelude.{Some}

pub rest_at-records-requires : goal.rest_at-records-requires
rest_at-records-requires c = (c.requires, no_marks _ 0)

pub returns-then-records-eq0 : goal.returns-then-records-eq0
returns-then-records-eq0 c =
    let img = c.args.image.now in
    let pc = c.args.pc in
    let e = fetch_none img pc (rw c.rest_at-records.ensures.0 at c.if-records-eq0.true) in
    (e, tt, subst (FetchSays img pc) (sym e) (fetch_says img pc))

pub next_after-requires : goal.next_after-requires
next_after-requires c =
    let img = c.args.image.now in
    let pc = c.args.pc in
    let e = c.rest_at-records.ensures.0 in
    let n : 0 < (rest_of img pc).records = rw e at (let l : 0 < c.rest_at-records.result.rest.records = omega (arith, c.if-records-eq0.false) in l) in
    rw e (let b = rest_bounds img (image_right img c.requires) pc n in omega (arith, b.inside))

pub read_record-requires : goal.read_record-requires
read_record-requires c =
    let img = c.args.image.now in
    let pc = c.args.pc in
    let e = c.rest_at-records.ensures.0 in
    let n : 0 < (rest_of img pc).records = rw e at (let l : 0 < c.rest_at-records.result.rest.records = omega (arith, c.if-records-eq0.false) in l) in
    rw e (let b = rest_bounds img (image_right img c.requires) pc n in omega (arith, b.inside))

pub returns : goal.returns
returns c =
    let img = c.args.image.now in
    let pc = c.args.pc in
    let e = c.rest_at-records.ensures.0 in
    let n : 0 < (rest_of img pc).records = rw e at (let l : 0 < c.rest_at-records.result.rest.records = omega (arith, c.if-records-eq0.false) in l) in
    let f = rw e at (c.read_record.ensures pc c.next_after.ensures) in
    let is = ap Some f ∙ fetch_first img pc n in
    (is, rw f (first_fields img (image_right img c.requires) pc n pc), subst (FetchSays img pc) (sym is) (fetch_says img pc))
