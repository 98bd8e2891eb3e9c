use Rattle.std.proofs.Common.{sym, ◌∙◌, arith}
use Rattle.image.proofs.Images.{image_right}
use Rattle.image.proofs.Marking.{first_begins, start_marked, start_past, start_other, start_unmarked}
use Rattle.image.proofs.fetch.start_of.Goals.{else-mark_entry-i-via-then-mark_entry-i+else-mark_address-pc, else-mark_entry-i-via-else-mark_entry-i}
use Rattle.image.proofs.fetch.start_of.Goals as goal

pub overflow_add-i : goal.overflow_add-i
overflow_add-i c =
    let p = c.requires in
    omega (arith, (image_right c.args.image.now p.0).table.counted.most, p.2)

pub overflow_add-i-then-slot-marks : goal.overflow_add-i-then-slot-marks
overflow_add-i-then-slot-marks c =
    let p = c.requires in
    omega (arith, (image_right c.args.image.now p.0).table.counted.most, p.2)

pub returns-then-mark_address-pc : goal.returns-then-mark_address-pc
returns-then-mark_address-pc c =
    let p = c.requires in
    let m = p.1.each _ c.if-slot-marks.true _ (sym c.mark_entry.ensures ∙ c.if-mark_entry-i.true) in
    (rw (c.mark_address-then-mark_address-pc.ensures, c.mark_index.ensures) (start_marked _ _ _ _ _ _ (rw c.bias_of.ensures at c.slot_of-slot.ensures) (sym c.mark_entry.ensures ∙ c.if-mark_entry-i.true) (rw (← c.mark_address.ensures) c.if-mark_address-pc.true)), rw (c.mark_address-then-mark_address-pc.ensures, c.mark_index.ensures) m, rw (c.mark_address-then-mark_address-pc.ensures, ← c.mark_address.ensures) c.if-mark_address-pc.true)

pub returns-else-mark_entry-i : goal.returns-else-mark_entry-i
returns-else-mark_entry-i c =
    let p = c.requires in
    let s = rw c.bias_of.ensures at c.slot_of-slot.ensures in (
      elim c.else-mark_entry-i.branch [
        | else-mark_entry-i-via-then-mark_entry-i+else-mark_address-pc w ↦ start_past _ _ _ _ _ _ s (rw (← w.mark_address.ensures) w.if-mark_address-pc.false)
        | else-mark_entry-i-via-else-mark_entry-i w ↦ start_other _ _ _ _ _ _ s (λ f. w.if-mark_entry-i.false (c.mark_entry.ensures ∙ f))
      ],
      first_begins _ (image_right c.args.image.now p.0) _ p.2 _ p.3,
      p.4,
    )

pub returns-else-slot-marks : goal.returns-else-slot-marks
returns-else-slot-marks c =
    let p = c.requires in
    (start_unmarked _ _ _ _ _ _ (rw c.bias_of.ensures at c.slot_of-slot.ensures) c.if-slot-marks.false, first_begins _ (image_right c.args.image.now p.0) _ p.2 _ p.3, p.4)
