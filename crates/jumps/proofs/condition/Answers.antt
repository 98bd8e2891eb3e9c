use Rattle.jumps.proofs.condition.Goals as goal

pub returns-in-Jeq : goal.returns-in-Jeq
returns-in-Jeq c = rw c.in-Jeq.is c.equal.ensures

pub returns-in-Jne : goal.returns-in-Jne
returns-in-Jne c = rw (c.in-Jne.is, c.equal-in-Jne.ensures)

pub returns-in-Jlt : goal.returns-in-Jlt
returns-in-Jlt c = rw c.in-Jlt.is c.less.ensures

pub returns-in-JltU : goal.returns-in-JltU
returns-in-JltU c = rw c.in-JltU.is c.less_u.ensures

pub returns-in-Jge : goal.returns-in-Jge
returns-in-Jge c = rw (c.in-Jge.is, c.less-in-Jge.ensures)

pub returns-in-JgeU : goal.returns-in-JgeU
returns-in-JgeU c = rw (c.in-JgeU.is, c.less_u-in-JgeU.ensures)
