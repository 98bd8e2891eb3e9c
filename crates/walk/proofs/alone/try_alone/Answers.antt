use mathlib.Core.List.{append-nil}
use Rattle.walk.proofs.alone.try_alone.Goals as goal

pub returns : goal.returns
returns c = rw (append-nil c.args.window.now) at c.try_start.ensures.verdict.0
