use Rattle.acts.proofs.Steadiness.{steady_next, done_ended}
use Rattle.jumps.specs.Jumps.{jump_of}
use Rattle.jumps.proofs.execute_jump.Goals as goal

pub compare_and_jump-requires : goal.compare_and_jump-requires
compare_and_jump-requires c = let h = c.requires in (h.0.1, h.1 (rw c.in-Jeq.is))

pub compare_and_jump-requires-in-Jne : goal.compare_and_jump-requires-in-Jne
compare_and_jump-requires-in-Jne c = let h = c.requires in (h.0.1, h.1 (rw c.in-Jne.is))

pub compare_and_jump-requires-in-Jlt : goal.compare_and_jump-requires-in-Jlt
compare_and_jump-requires-in-Jlt c = let h = c.requires in (h.0.1, h.1 (rw c.in-Jlt.is))

pub compare_and_jump-requires-in-JltU : goal.compare_and_jump-requires-in-JltU
compare_and_jump-requires-in-JltU c = let h = c.requires in (h.0.1, h.1 (rw c.in-JltU.is))

pub compare_and_jump-requires-in-Jge : goal.compare_and_jump-requires-in-Jge
compare_and_jump-requires-in-Jge c = let h = c.requires in (h.0.1, h.1 (rw c.in-Jge.is))

pub compare_and_jump-requires-in-JgeU : goal.compare_and_jump-requires-in-JgeU
compare_and_jump-requires-in-JgeU c = let h = c.requires in (h.0.1, h.1 (rw c.in-JgeU.is))

pub returns-in-J : goal.returns-in-J
unfolding jump_of
returns-in-J c = rw (c.in-J.is, c.destination.ensures) (done_ended (steady_next _ _ _ _))

pub returns-in-Jl : goal.returns-in-Jl
unfolding jump_of
returns-in-Jl c = rw (c.in-Jl.is, c.destination-in-Jl.ensures) (done_ended (steady_next _ _ _ _))

pub returns-in-Ji : goal.returns-in-Ji
unfolding jump_of
returns-in-Ji c = rw (c.in-Ji.is, c.new_pc.ensures) (done_ended (steady_next _ _ _ _))

pub returns-in-Jeq : goal.returns-in-Jeq
unfolding jump_of
returns-in-Jeq c = rw c.in-Jeq.is (rw c.in-Jeq.is at c.compare_and_jump.ensures)

pub returns-in-Jne : goal.returns-in-Jne
unfolding jump_of
returns-in-Jne c = rw c.in-Jne.is (rw c.in-Jne.is at c.compare_and_jump-in-Jne.ensures)

pub returns-in-Jlt : goal.returns-in-Jlt
unfolding jump_of
returns-in-Jlt c = rw c.in-Jlt.is (rw c.in-Jlt.is at c.compare_and_jump-in-Jlt.ensures)

pub returns-in-JltU : goal.returns-in-JltU
unfolding jump_of
returns-in-JltU c = rw c.in-JltU.is (rw c.in-JltU.is at c.compare_and_jump-in-JltU.ensures)

pub returns-in-Jge : goal.returns-in-Jge
unfolding jump_of
returns-in-Jge c = rw c.in-Jge.is (rw c.in-Jge.is at c.compare_and_jump-in-Jge.ensures)

pub returns-in-JgeU : goal.returns-in-JgeU
unfolding jump_of
returns-in-JgeU c = rw c.in-JgeU.is (rw c.in-JgeU.is at c.compare_and_jump-in-JgeU.ensures)

pub returns-in-Loop : goal.returns-in-Loop
unfolding jump_of
returns-in-Loop c = rw c.in-Loop.is c.execute_loop.ensures
