use native.Mathlib.Omega.{arith}
use Rattle.memory.specs.Memory.{lent}
use Rattle.fields.specs.Link.{link_of}
use Rattle.registers.specs.Registers.{pcxi}
use Rattle.contexts.specs.Restore.{loaded_of}
use Rattle.contexts.proofs.Returns.{read_area, read_64}
use Rattle.contexts.proofs.restore.load.Goals as goal

pub read_half-requires : goal.read_half-requires
read_half-requires c = read_64 (lent c.args.base c.args.window.now c.args.base2 c.args.window2.now) (link_of (pcxi c.args.registers.now)) _ _ _ c.area-bytes.ensures c.link_of-l.ensures c.requires.found

pub word_at-requires : goal.word_at-requires
word_at-requires c = omega (arith, read_64 (lent c.args.base c.args.window.now c.args.base2 c.args.window2.now) (link_of (pcxi c.args.registers.now)) _ _ _ c.area-bytes.ensures c.link_of-l.ensures c.requires.found)

pub returns-clause-loaded : goal.returns-clause-loaded
unfolding loaded_of
returns-clause-loaded c = rw (c.read_half.ensures, c.word_at.ensures, read_area (lent c.args.base c.args.window.now c.args.base2 c.args.window2.now) (link_of (pcxi c.args.registers.now)) _ _ _ c.area-bytes.ensures c.link_of-l.ensures c.requires.found, c.link_of-l.ensures, c.write_link.ensures.written)
