use Rattle.std.proofs.Common.{true, false, length, sym, refl, ◌∙◌, arith}
use native.Mathlib.Nat.{sub-zero}
use Rattle.image.specs.Table.{range_end}
use Rattle.image.proofs.Addresses.{after_none}
use Rattle.image.proofs.Tests.{fits, holds_by}
use Rattle.image.proofs.Tables.{turn_on, turn_fault, turn_end, turn_over}
use Rattle.image.proofs.table.check_entries.Goals as goal

pub loop-i-init : goal.loop-i-init
loop-i-init c = (c.requires.1, omega arith, omega arith, rw (sub-zero, after_none c.args.image.now 0 0))

pub returns-then-not-entry_fits : goal.returns-then-not-entry_fits
returns-then-not-entry_fits c =
    let l = c.loop-i in
    turn_fault c.args.n c.args.image.now l.i l.start (range_end c.args.image.now l.last) c.read_entry-e.result c.read_entry-e.ensures c.loop-i-test.true
    (holds_by c.args.image.now c.read_entry-e.result l.start (range_end c.args.image.now l.last) false _ _ (sym c.entry_fits.ensures ∙ c.if-not-entry_fits.true) refl refl)
    ∙ l.invariant.3

pub ends_by-requires : goal.ends_by-requires
ends_by-requires c = (c.loop-i.invariant.1, c.loop-i.invariant.2)

pub returns-then-not-ends_by : goal.returns-then-not-ends_by
returns-then-not-ends_by c =
    let l = c.loop-i in
    let img = c.args.image.now in
    turn_fault c.args.n img l.i l.start (range_end img l.last) c.read_entry-e.result c.read_entry-e.ensures c.loop-i-test.true
    (holds_by img c.read_entry-e.result l.start (range_end img l.last) true false _ (sym c.entry_fits.ensures ∙ c.if-not-entry_fits.false) (sym c.ends_by.ensures ∙ c.if-not-ends_by.true) refl)
    ∙ l.invariant.3

pub ends_by-requires-in-loop-i : goal.ends_by-requires-in-loop-i
ends_by-requires-in-loop-i c = let f = fits c.read_entry-e.result c.loop-i.start (length c.args.image.now) (sym c.entry_fits.ensures ∙ c.if-not-entry_fits.false) in (f.ends, f.most)

pub returns-then-not-ends_by-2 : goal.returns-then-not-ends_by-2
returns-then-not-ends_by-2 c =
    let l = c.loop-i in
    let img = c.args.image.now in
    turn_fault c.args.n img l.i l.start (range_end img l.last) c.read_entry-e.result c.read_entry-e.ensures c.loop-i-test.true
    (holds_by img c.read_entry-e.result l.start (range_end img l.last) true true false (sym c.entry_fits.ensures ∙ c.if-not-entry_fits.false) (sym c.ends_by.ensures ∙ c.if-not-ends_by.false) (sym c.ends_by-in-loop-i.ensures ∙ c.if-not-ends_by-2.true))
    ∙ l.invariant.3

pub overflow_add-start-in-loop-i : goal.overflow_add-start-in-loop-i
overflow_add-start-in-loop-i c = let f = fits c.read_entry-e.result c.loop-i.start (length c.args.image.now) (sym c.entry_fits.ensures ∙ c.if-not-entry_fits.false) in omega (arith, f.most)

pub loop-i-preserved : goal.loop-i-preserved
loop-i-preserved c =
    let l = c.loop-i in
    let img = c.args.image.now in
    let e = c.read_entry-e.result in
    let w = sym c.entry_fits.ensures ∙ c.if-not-entry_fits.false in
    let f = fits e l.start (length img) w in (
      omega (arith, f.begins, f.ends),
      f.ends,
      f.most,
      turn_on c.args.n img l.i l.start (range_end img l.last) e c.read_entry-e.ensures c.loop-i-test.true
          (holds_by img e l.start (range_end img l.last) true true true w (sym c.ends_by.ensures ∙ c.if-not-ends_by.false) (sym c.ends_by-in-loop-i.ensures ∙ c.if-not-ends_by-2.false))
          ∙ l.invariant.3,
    )

pub returns-then-start-len : goal.returns-then-start-len
returns-then-start-len c =
    let l = c.loop-i in
    turn_end c.args.n c.args.image.now l.i l.start (range_end c.args.image.now l.last) (omega arith) c.loop-i-test.false c.if-start-len.true ∙ l.invariant.3

pub returns : goal.returns
returns c =
    let l = c.loop-i in
    turn_over c.args.n c.args.image.now l.i l.start (range_end c.args.image.now l.last) (omega arith) c.loop-i-test.false c.if-start-len.false ∙ l.invariant.3
