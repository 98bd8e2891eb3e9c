use Rattle.areas.proofs.link.locate.Goals as goal

pub returns : goal.returns
returns c = rw c.area_address.ensures at c.place_at.ensures
