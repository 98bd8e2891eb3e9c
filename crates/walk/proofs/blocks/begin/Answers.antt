use mathlib.Core.Path.{sym, ◌∙◌}
use Rattle.walk.proofs.Promises.{begun_long, begun_refused, begun_accepted}
use Rattle.walk.proofs.blocks.begin.Goals as goal

pub returns-then-image-gt65536 : goal.returns-then-image-gt65536
returns-then-image-gt65536 c = let t = begun_long _ _ _ c.start_window-window.ensures c.start_registers-registers.ensures c.if-image-gt65536.true c.put_long-long.ensures in record { placed = t.0; part = t.1 }

pub returns-in-Err : goal.returns-in-Err
returns-in-Err c = let t = begun_refused _ _ _ c.start_window-window.ensures c.start_registers-registers.ensures c.if-image-gt65536.false _ (sym c.try_alone.ensures ∙ c.in-Err.is) c.put_refused-refused.ensures in record { placed = t.0; part = t.1 }

pub returns : goal.returns
returns c =
    let g = sym c.try_alone.ensures ∙ c.in_default.is in
    let f = c.start_window-window.ensures in
    let e = c.start_registers-registers.ensures in
    let t = begun_accepted _ _ _ f e c.if-image-gt65536.false g c.put_header-header.ensures in
    record { placed = t.0; part = t.1 }
