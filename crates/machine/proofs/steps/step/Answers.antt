use Rattle.std.proofs.Common.{sym, ap, ◌∙◌}
use Rattle.decisions.proofs.Known.{valid_of, bytes_of, joined_bytes}
use Rattle.machine.proofs.Turns.{accepted_even}
use Rattle.image.specs.Records.{without_long}
use Rattle.machine.proofs.Singles.{step_refused, step_told}
use Rattle.machine.proofs.steps.step.Goals as goal

pub step_accepted-requires : goal.step_accepted-requires
step_accepted-requires c =
    let e = sym c.scan_step.ensures.verdict.0 ∙ ap without_long c.in-Ok.is in record {
      ready = record {
        accepted = e;
        image = bytes_of c.shared_slice_known-1.given;
        valid = valid_of c.well_formed.1.1.1.1.1.0 (accepted_even _ _ _ e);
        bytes = joined_bytes c.args.window.now c.args.window2.now (bytes_of c.slice_known-1.given) (bytes_of c.slice_known-2-1.given);
      };
      all_long = λ h. sym (rw c.in-Ok.is at c.scan_step.ensures.verdict.2) ∙ h;
    }

pub returns-in-Err : goal.returns-in-Err
returns-in-Err c = let s = sym (step_refused _ _ _ _ _ _ (sym c.scan_step.ensures.verdict.0 ∙ ap without_long c.in-Err.is)) in record { stepped = s; exactly = step_told _ _ _ _ _ s }

pub returns-in-Ok : goal.returns-in-Ok
returns-in-Ok c = let e = c.step_accepted.ensures in record { stepped = e; exactly = step_told _ _ _ _ _ e }
