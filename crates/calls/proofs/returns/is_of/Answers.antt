use Rattle.calls.proofs.returns.is_of.Goals as goal

pub returns-in-Upper : goal.returns-in-Upper
returns-in-Upper c = rw c.in-Upper.is c.upper.ensures

pub returns-in-Lower : goal.returns-in-Lower
returns-in-Lower c = rw (c.in-Lower.is, c.upper-in-Lower.ensures)
