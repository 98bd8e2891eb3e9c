use Rattle.protection.proofs.access.denied.Goals as goal

pub returns-in-Read : goal.returns-in-Read
returns-in-Read c = rw c.in-Read.is

pub returns-in-Write : goal.returns-in-Write
returns-in-Write c = rw c.in-Write.is

pub returns-in-Execute : goal.returns-in-Execute
returns-in-Execute c = rw c.in-Execute.is
