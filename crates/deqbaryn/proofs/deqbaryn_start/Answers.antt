use mathlib.Core.Path.{refl, sym, ◌∙◌}
use Rattle.memory.specs.Address.{as_address}
use Rattle.memory.specs.Memory.{lent}
use Rattle.decisions.proofs.Known.{valid_of, bytes_of, joined_bytes}
use Rattle.series.specs.Calls.{state}
use Rattle.series.proofs.Starts.{start_even}
use Rattle.deqbaryn.proofs.Hosts.{start_wrong, start_right}
use Rattle.deqbaryn.proofs.Series.{host_follows}
use Rattle.deqbaryn.proofs.deqbaryn_start.Goals as goal

pub returns-then-core-ne616 : goal.returns-then-core-ne616
returns-then-core-ne616 c = let w = start_wrong c.args.core.now (lent (as_address c.args.base) c.args.window.now (as_address c.args.base2) c.args.window2.now) c.args.image.now c.if-core-ne616.true c.wrong_length.ensures in record { answer = w.0; start_tells = w.1.0; accepted_follows = w.1.1; unchanged = (refl, refl, refl, refl) }

pub returns : goal.returns
returns c =
    let a = c.args in
    let m = lent (as_address a.base) a.window.now (as_address a.base2) a.window2.now in
    let s = state c.read_registers-r.result m in
    let told = rw (c.as_address-first.ensures, c.as_address-second.ensures) at c.start.ensures in
    let said = told.verdict.0 in
    let w = start_right a.core.now m a.image.now c.if-core-ne616.false c.read_registers-r.ensures said told.verdict.1 (λ e. host_follows s (valid_of c.read_registers-r.type_inv (start_even s a.image.now (sym said ∙ e))) (joined_bytes a.window.now a.window2.now (bytes_of c.shared_slice_known-2-1.given) (bytes_of c.shared_slice_known-3-1.given)) (told.follows e)) c.verdict_answer.ensures in
    record { answer = w.0; start_tells = w.1.0; accepted_follows = w.1.1; unchanged = (refl, refl, refl, refl) }
