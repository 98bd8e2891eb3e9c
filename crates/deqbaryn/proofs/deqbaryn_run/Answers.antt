use Rattle.decisions.proofs.Known.{words_of}
use Rattle.deqbaryn.proofs.Hosts.{run_wrong, run_right, run_kept}
use Rattle.deqbaryn.proofs.deqbaryn_run.Goals as goal

pub store_run-requires : goal.store_run-requires
store_run-requires c = c.if-core-ne616.false

pub returns-then-core-ne616 : goal.returns-then-core-ne616
returns-then-core-ne616 c = let w = run_wrong _ _ _ c.if-core-ne616.true c.wrong_length.ensures _ in record { called = w.0; run_tells = w.1; run_holds = w.2; unmade_keeps = run_kept _ _ _ (λ j. (c.slice_known-1.given j).fits) _ w.0 }

pub returns : goal.returns
returns c = let w = run_right _ _ _ c.if-core-ne616.false c.read_registers-r.ensures c.read_requests-xs.ensures c.read_ranges-rs.ensures _ _ (rw (c.as_address-first.ensures, c.as_address-second.ensures) at c.run-v.ensures.ran) (words_of c.run-v.type_inv.1.1.0) (rw (c.as_address-first.ensures, c.as_address-second.ensures) at c.run-v.ensures.refused_keeps) (rw (c.as_address-first.ensures, c.as_address-second.ensures) at c.run-v.ensures.exactly) c.store_run.ensures c.outcome_answer.ensures in record { called = w.0; run_tells = w.1; run_holds = w.2; unmade_keeps = run_kept _ _ _ (λ j. (c.slice_known-1.given j).fits) _ w.0 }
