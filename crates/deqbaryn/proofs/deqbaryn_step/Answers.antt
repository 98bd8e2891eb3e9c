use Rattle.decisions.proofs.Known.{words_of}
use Rattle.deqbaryn.proofs.Hosts.{step_wrong, step_right}
use Rattle.deqbaryn.proofs.deqbaryn_step.Goals as goal

pub store_step-requires : goal.store_step-requires
store_step-requires c = c.if-core-ne616.false

pub returns-then-core-ne616 : goal.returns-then-core-ne616
returns-then-core-ne616 c = let w = step_wrong _ _ _ c.if-core-ne616.true c.wrong_length.ensures in record { called = w.0; step_tells = w.1.0; step_holds = w.1.1 }

pub returns : goal.returns
returns c = let w = step_right _ _ _ c.if-core-ne616.false c.read_registers-r.ensures c.read_requests-xs.ensures c.read_ranges-rs.ensures (rw (c.as_address-first.ensures, c.as_address-second.ensures) at c.step-s.ensures.stepped) c.store_step.ensures (words_of c.step-s.type_inv.1.1.0) (rw (c.as_address-first.ensures, c.as_address-second.ensures) at c.step-s.ensures.exactly) (rw (← c.permits.ensures) c.outcome_answer.ensures) in record { called = w.0; step_tells = w.1.0; step_holds = w.1.1 }
