use Rattle.std.proofs.Common.{sym, ap, ◌∙◌}
use Rattle.decisions.proofs.Known.{valid_of, bytes_of, joined_bytes}
use Rattle.machine.proofs.Turns.{accepted_even}
use Rattle.image.specs.Records.{without_long}
use Rattle.machine.proofs.Singles.{run_refused, run_accepted, refused_keeps_lem, not_refused, ending_verdict}
use Rattle.machine.proofs.steps.run.Goals as goal

pub run_guided-w-requires : goal.run_guided-w-requires
run_guided-w-requires c =
    let e = sym c.scan_step.ensures.verdict.0 ∙ ap without_long c.in-Ok.is in record {
      ready = record {
        accepted = e;
        image = bytes_of c.shared_slice_known-1.given;
        valid = valid_of c.well_formed.1.1.1.1.1.0 (accepted_even _ _ _ e);
        bytes = joined_bytes c.args.window.now c.args.window2.now (bytes_of c.slice_known-1.given) (bytes_of c.slice_known-2-1.given);
      };
      all_long = λ h. sym (rw c.in-Ok.is at c.scan_step.ensures.verdict.2) ∙ h;
    }

pub returns-in-Err : goal.returns-in-Err
returns-in-Err c = record { ran = sym (run_refused _ _ _ _ _ _ (sym c.scan_step.ensures.verdict.0 ∙ ap without_long c.in-Err.is) _); refused_keeps = refused_keeps_lem _ _ _ _; exactly = rw c.in-Err.is at c.scan_step.ensures.verdict.1 }

pub returns-in-Ok : goal.returns-in-Ok
returns-in-Ok c = record { ran = rw c.outcome_of.ensures (c.run_guided-w.ensures ∙ sym (run_accepted _ _ _ _ _ _ (sym c.scan_step.ensures.verdict.0 ∙ ap without_long c.in-Ok.is))); refused_keeps = λ x p. absurd (not_refused c.run_guided-w.result.ending c.outcome_of.ensures x p); exactly = rw (ending_verdict c.run_guided-w.result.ending c.outcome_of.ensures) (rw c.in-Ok.is at c.scan_step.ensures.verdict.1) }
