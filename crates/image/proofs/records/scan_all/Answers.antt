use Rattle.std.proofs.Common.{◌≡◌, ℕ, ◌+◌, ◌*◌, ◌<◌, ◌≤◌, true, get_or, sym, refl, ◌∙◌, arith}
use Rattle.memory.specs.Word.{word_at}
use Rattle.image.specs.Table.{bodies_of}
use Rattle.image.specs.Records.{total_of}
use Rattle.image.proofs.Tests.{word_record, word_short}
use Rattle.image.proofs.Images.{right_of, sized}
use Rattle.image.proofs.Long.{pass_first, pass_on, pass_end}
use Rattle.image.proofs.Scanning.{held_first, held_on, held_end}
use Rattle.image.proofs.records.scan_all.Goals as goal

pub word_at-n-requires : goal.word_at-n-requires
word_at-n-requires c = let s = right_of c.args.image.now c.requires in omega (arith, s.counted.word)

pub overflow_sub-count : goal.overflow_sub-count
overflow_sub-count c = let s = sized c.args.image.now c.requires in let w = c.word_at-n.ensures in omega arith

pub loop-k-init : goal.loop-k-init
loop-k-init c = (held_first c.args.image.now true refl, pass_first c.args.image.now true refl)

pub loop-k-preserved : goal.loop-k-preserved
loop-k-preserved c =
    let img = c.args.image.now in
    let s = sized img c.requires in
    let l = c.loop-k in
    let k : l.k < total_of img = let t = c.loop-k-test.true in let n = c.word_at-n.ensures in omega arith in
    let at = bodies_of img + 8 * l.k in
    let w : c.word_at-w.result ≡ word_at img at = rw (← c.word_at-n.ensures) c.word_at-w.ensures in
    let known : (j : ℕ) → get_or img j 0 < 256 = λ j. (c.shared_slice_known-1.given j).fits in (
      rw (c.word_holds-hold.ensures, word_record img at c.word_at-w.result known w) (held_on img l.hold l.k k) ∙ l.invariant.0,
      rw (c.word_long-long.ensures, word_short img at c.word_at-w.result known w) (pass_on img l.long l.k k) ∙ l.invariant.1,
    )

pub returns : goal.returns
returns c =
    let img = c.args.image.now in
    let l = c.loop-k in
    let k : total_of img ≤ l.k = let t = c.loop-k-test.false in let n = c.word_at-n.ensures in omega arith in
    (sym (held_end img l.hold l.k k) ∙ l.invariant.0, sym (pass_end img l.long l.k k) ∙ l.invariant.1)
