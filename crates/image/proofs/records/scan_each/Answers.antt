use Rattle.std.proofs.Common.{◌≡◌, ◌+◌, ◌*◌, ◌<◌, ◌≤◌, eqb, sym, refl, ap, ◌∙◌, arith}
use Rattle.std.specs.Prelude.{not}
use Rattle.memory.specs.Word.{word_at}
use Rattle.image.specs.Table.{bodies_of}
use Rattle.image.specs.Records.{total_of}
use Rattle.image.proofs.Tests.{word_record}
use Rattle.image.proofs.Images.{right_of, sized}
use Rattle.image.proofs.Scanning.{scanned_first, scanned_end, scanned_fault, scanned_word}
use Rattle.image.proofs.records.scan_each.Goals as goal

pub word_at-n-requires : goal.word_at-n-requires
word_at-n-requires c = let s = right_of c.args.image.now c.requires in omega (arith, s.counted.word)

pub overflow_sub-count : goal.overflow_sub-count
overflow_sub-count c = let s = sized c.args.image.now c.requires in let w = c.word_at-n.ensures in omega arith

pub loop-k-init : goal.loop-k-init
loop-k-init c = (scanned_first _, omega arith)

pub overflow_cast-result : goal.overflow_cast-result
overflow_cast-result c = let s = sized c.args.image.now c.requires in let n = c.word_at-n.ensures in omega (arith, s.small)

pub returns-then-not-word_fits : goal.returns-then-not-word_fits
returns-then-not-word_fits c =
    let img = c.args.image.now in
    let s = sized img c.requires in
    let l = c.loop-k in
    let k : l.k < total_of img = let n = c.word_at-n.ensures in omega arith in
    let at = bodies_of img + 8 * l.k in
    let w : c.word_at-w.result ≡ word_at img at = rw (← c.word_at-n.ensures) c.word_at-w.ensures in
    let h = c.word_fits.ensures ∙ word_record img at c.word_at-w.result (λ j. (c.shared_slice_known-1.given j).fits) w in
    (scanned_fault img l.k (eqb l.short 0) l.invariant.0 k (sym h ∙ c.if-not-word_fits.true), tt)

pub overflow_add-short : goal.overflow_add-short
overflow_add-short c = let s = sized c.args.image.now c.requires in let n = c.word_at-n.ensures in omega (arith, s.small, c.loop-k.invariant.1)

pub loop-k-preserved : goal.loop-k-preserved
loop-k-preserved c =
    let img = c.args.image.now in
    let s = sized img c.requires in
    let l = c.loop-k in
    let k : l.k < total_of img = let n = c.word_at-n.ensures in omega arith in
    let w : c.word_at-w.result ≡ word_at img (bodies_of img + 8 * l.k) = rw (← c.word_at-n.ensures) c.word_at-w.ensures in
    (scanned_word img l.k (eqb l.short 0) l.invariant.0 l.short refl k _ (λ j. (c.shared_slice_known-1.given j).fits) w _ c.word_fits.ensures (ap not c.if-not-word_fits.false), omega (arith, l.invariant.1))

pub returns : goal.returns
returns c =
    let img = c.args.image.now in
    let s = sized img c.requires in
    let k : total_of img ≤ c.loop-k.k = let n = c.word_at-n.ensures in omega arith in
    scanned_end img c.loop-k.k (eqb c.loop-k.short 0) c.loop-k.invariant.0 k
