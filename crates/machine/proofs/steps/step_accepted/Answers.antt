use Rattle.machine.proofs.Turns.{image_holds}
use Rattle.machine.proofs.Guides.{unmarked}
use Rattle.machine.proofs.Singles.{accepted_one}
use Rattle.machine.proofs.steps.step_accepted.Goals as goal

pub permits_of-permits-requires : goal.permits_of-permits-requires
permits_of-permits-requires c = (image_holds _ _ _ c.requires.ready.accepted, c.requires.all_long)

pub run_steps-w-requires : goal.run_steps-w-requires
run_steps-w-requires c = record { ready = c.requires.ready; guides = unmarked _ _ c.requires.all_long }

pub returns : goal.returns
returns c =
    let y = c.requires.ready in
    let s = accepted_one _ _ _ _ _ y.accepted c.run_steps-w.ensures c.permits_of-permits.ensures.permits in
    rw c.outcome_of.ensures s
