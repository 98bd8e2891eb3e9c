use Rattle.std.proofs.Common.{sym, ◌∙◌, arith}
use Rattle.image.proofs.Images.{image_right}
use Rattle.image.proofs.Marking.{mark_holds, put_marked, put_here, put_had, put_beyond}
use Rattle.image.proofs.marks.put_mark.Goals.{else-slot-lt4096-via-then-slot-lt4096+else-mark_entry-i, else-slot-lt4096-via-else-slot-lt4096}
use Rattle.image.proofs.marks.put_mark.Goals as goal

pub overflow_add-i : goal.overflow_add-i
overflow_add-i c =
    let p = c.requires in
    let g = image_right c.args.image.now p.0 in
    omega (arith, g.table.counted.most, p.1.0)

pub mark-requires : goal.mark-requires
mark-requires c =
    let p = c.requires in
    let g = image_right c.args.image.now p.0 in
    (omega (arith, g.table.counted.most, p.1.0), omega (arith, (g.table.entries _ p.1.0).most, p.1.1))

pub returns-then-mark_entry-i : goal.returns-then-mark_entry-i
returns-then-mark_entry-i c =
    let p = c.requires in
    let e = c.mark.ensures in
    record { marked = put_marked _ _ _ _ p.2 (mark_holds _ _ _ _ _ e.0 e.1 e.2 p.1); written = rw e.3 (put_here _ _ _ _ _ c.if-slot-lt4096.true (λ x. c.if-mark_entry-i.true (c.mark_entry.ensures ∙ x))) }

pub returns-else-slot-lt4096-clause-written : goal.returns-else-slot-lt4096-clause-written
returns-else-slot-lt4096-clause-written c = elim c.else-slot-lt4096.branch [
  | else-slot-lt4096-via-then-slot-lt4096+else-mark_entry-i w ↦ put_had _ _ _ _ _ w.if-slot-lt4096.true (sym w.mark_entry.ensures ∙ w.if-mark_entry-i.false)
  | else-slot-lt4096-via-else-slot-lt4096 w ↦ put_beyond _ _ _ _ _ w.if-slot-lt4096.false
]
