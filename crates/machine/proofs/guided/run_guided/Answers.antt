use Rattle.machine.proofs.Guides.{unmarked}
use Rattle.machine.proofs.guided.run_guided.Goals as goal

pub run_steps-requires : goal.run_steps-requires
run_steps-requires c = record { ready = c.requires.ready; guides = unmarked _ _ c.requires.all_long }
