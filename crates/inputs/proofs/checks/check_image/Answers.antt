use Rattle.std.proofs.Common.{rules}
use Rattle.inputs.proofs.Single.{contents_exactly}
use Rattle.inputs.proofs.checks.check_image.Goals as goal

pub returns-in_err-check_image-clause-verdict : goal.returns-in_err-check_image-clause-verdict
returns-in_err-check_image-clause-verdict c = contents_exactly _ _ (rw (← c.check_image.ensures.0, c.in_err-check_image.was) (search rules))
