use Rattle.areas.proofs.link.spot_of.Goals as goal

pub returns : goal.returns
returns c = rw c.area_address.ensures at c.spot_at.ensures
