use Rattle.std.proofs.Common.{sym, ◌∙◌, arith}
use Rattle.spans.proofs.Spans.{lies, by_mark, marked_none, marked_other, marked_outside, marked_inside}
use Rattle.spans.proofs.index.index_marked.Goals as goal

pub returns-then-marks-slot : goal.returns-then-marks-slot
returns-then-marks-slot c = let b = (lies c.requires.0).body c.requires.1 in marked_none _ _ _ _ _ _ c.slot_of-slot.ensures b.entry b.is c.if-marks-slot.true

pub returns-then-mark_entry-s : goal.returns-then-mark_entry-s
returns-then-mark_entry-s c = marked_other _ _ _ _ _ _ c.slot_of-slot.ensures (λ e. c.if-mark_entry-s.true (c.mark_entry.ensures ∙ e))

pub returns-then-s-k : goal.returns-then-s-k
returns-then-s-k c = let p = c.requires in marked_outside _ _ _ _ _ _ c.slot_of-slot.ensures _ (omega arith) ((lies p.0).body p.1).few (lies p.0).most (c.wrapping_sub_u32-k.ensures.value ∙ c.mark_index.ensures) c.if-s-k.true

pub index_on-requires : goal.index_on-requires
index_on-requires c =
    let a = c.args in
    let p = c.requires in
    let b = (lies p.0).body p.1 in
    let m = p.2.each _ c.if-marks-slot.false b.entry (sym c.mark_entry.ensures ∙ c.if-mark_entry-s.false ∙ b.is) in
    (p.0, c.if-s-k.false, c.mark_address.ensures ∙ by_mark a.image.now a.s (lies p.0) b _ _ _ m (c.wrapping_sub_u32-k.ensures.value ∙ c.mark_index.ensures) c.if-s-k.false)

pub returns : goal.returns
returns c = let p = c.requires in c.index_on.ensures.0 ∙ marked_inside _ _ _ _ _ _ c.slot_of-slot.ensures _ (omega arith) ((lies p.0).body p.1).few (lies p.0).most (c.wrapping_sub_u32-k.ensures.value ∙ c.mark_index.ensures) (sym c.mark_entry.ensures ∙ c.if-mark_entry-s.false) c.if-s-k.false
