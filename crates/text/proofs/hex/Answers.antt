use Rattle.text.specs.Hex.{hex_of}
use Rattle.text.proofs.hex.Goals as goal

pub returns : goal.returns
unfolding hex_of
returns c = rw (c.glyph.ensures, c.glyph-2.ensures, c.glyph-3.ensures, c.glyph-4.ensures, c.glyph-5.ensures, c.glyph-6.ensures, c.glyph-7.ensures, c.glyph-8.ensures)
