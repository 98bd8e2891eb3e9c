use borrow.Author.Tests.{ne_eqb}
use lib.Dec.{lit≤}
use Rattle.system.specs.CoreRegisters.{named_of}
use Rattle.system.proofs.core_registers.named_at.Goals as goal

pub returns-in-65024 : goal.returns-in-65024
unfolding named_of
returns-in-65024 c = (rw c.in-65024.is, lit≤ tt)

pub returns-in-65028 : goal.returns-in-65028
unfolding named_of
returns-in-65028 c = (rw c.in-65028.is, lit≤ tt)

pub returns-in-65032 : goal.returns-in-65032
unfolding named_of
returns-in-65032 c = (rw c.in-65032.is, tt)

pub returns-in-65044 : goal.returns-in-65044
unfolding named_of
returns-in-65044 c = (rw c.in-65044.is, lit≤ tt)

pub returns-in-65056 : goal.returns-in-65056
unfolding named_of
returns-in-65056 c = (rw c.in-65056.is, lit≤ tt)

pub returns-in-65060 : goal.returns-in-65060
unfolding named_of
returns-in-65060 c = (rw c.in-65060.is, lit≤ tt)

pub returns-in-65064 : goal.returns-in-65064
unfolding named_of
returns-in-65064 c = (rw c.in-65064.is, lit≤ tt)

pub returns-in-65068 : goal.returns-in-65068
unfolding named_of
returns-in-65068 c = (rw c.in-65068.is, lit≤ tt)

pub returns-in-65080 : goal.returns-in-65080
unfolding named_of
returns-in-65080 c = (rw c.in-65080.is, lit≤ tt)

pub returns-in-65084 : goal.returns-in-65084
unfolding named_of
returns-in-65084 c = (rw c.in-65084.is, lit≤ tt)

pub returns-in_default : goal.returns-in_default
unfolding named_of
returns-in_default c = let k = c.in_default.in_default-own.rest in (rw (ne_eqb _ _ k.0.0.0.0.0.0.0.0.0.1, ne_eqb _ _ k.0.0.0.0.0.0.0.0.1, ne_eqb _ _ k.0.0.0.0.0.0.0.1, ne_eqb _ _ k.0.0.0.0.0.0.1, ne_eqb _ _ k.0.0.0.0.0.1, ne_eqb _ _ k.0.0.0.0.1, ne_eqb _ _ k.0.0.0.1, ne_eqb _ _ k.0.0.1, ne_eqb _ _ k.0.1, ne_eqb _ _ k.1), tt)
