use Rattle.std.proofs.Common.{refl, arith}
use Rattle.image.specs.Rest.{index_of}
use Rattle.image.proofs.Indices.{index_in}
use Rattle.image.proofs.fetch.index_from.Goals as goal

pub returns : goal.returns
unfolding index_of
returns c = (refl, λ n m b s. index_in c.args.from c.args.pc n (omega arith) (omega arith) m b s)
