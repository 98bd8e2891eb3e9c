use mathlib.Core.Path.{refl}
use Rattle.memory.specs.Memory.{lent}
use Rattle.memory.proofs.Joined.{first_length_lem, second_length_lem}
use Rattle.inputs.proofs.Single.{windows_exactly}
use Rattle.inputs.proofs.checks.check_windows.Goals as goal

pub returns : goal.returns
returns c =
    let a = c.args in
    let b = a.base in
    let s = a.window.now in
    let b2 = a.base2 in
    let t = a.window2.now in
    record { verdict = windows_exactly (lent b s b2 t) _ (rw (first_length_lem s t b b2, second_length_lem s t b b2) c.try_windows.ensures); unchanged = (refl, refl) }
