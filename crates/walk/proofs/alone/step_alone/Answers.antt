use Rattle.walk.proofs.Single.{single_step}
use Rattle.walk.proofs.alone.step_alone.Goals as goal

pub returns : goal.returns
returns c =
    let s = c.step in
    let a = c.args in
    single_step _ _ s.auto.window2 a.image.now a.registers a.requests a.ranges a.window.now s.ensures.stepped
