use Rattle.std.proofs.Common.{le-ltb, lt-ltb}
use Rattle.image.specs.Table.{table_of}
use Rattle.image.proofs.Tables.{table_exactly}
use Rattle.image.proofs.table.check_table.Goals.{then-n-lt1-via-then-n-lt1, then-n-lt1-via-else-n-lt1+then-n-gt16, then-n-lt1-via-else-n-lt1+else-n-gt16+then-len-n}
use Rattle.image.proofs.table.check_table.Goals as goal

pub returns-then-len-lt4 : goal.returns-then-len-lt4
unfolding table_of
returns-then-len-lt4 c = table_exactly _ _ (rw (lt-ltb _ _ c.if-len-lt4.true))

pub returns-then-n-lt1 : goal.returns-then-n-lt1
unfolding table_of
returns-then-n-lt1 c = elim c.then-n-lt1.branch [
  | then-n-lt1-via-then-n-lt1 w ↦ table_exactly _ _ (rw (le-ltb _ _ c.if-len-lt4.false, ← c.word_at-n.ensures, lt-ltb _ _ w.if-n-lt1.true))
  | then-n-lt1-via-else-n-lt1+then-n-gt16 w ↦ table_exactly _ _ (rw (le-ltb _ _ c.if-len-lt4.false, ← c.word_at-n.ensures, le-ltb _ _ w.if-n-lt1.false, lt-ltb _ _ w.if-n-gt16.true))
  | then-n-lt1-via-else-n-lt1+else-n-gt16+then-len-n w ↦ table_exactly _ _ (rw (le-ltb _ _ c.if-len-lt4.false, ← c.word_at-n.ensures, le-ltb _ _ w.if-n-lt1.false, le-ltb _ _ w.if-n-gt16.false, lt-ltb _ _ w.if-len-n.true))
]

pub returns : goal.returns
unfolding table_of
returns c = table_exactly _ _ (rw (le-ltb _ _ c.if-len-lt4.false, ← c.word_at-n.ensures, le-ltb _ _ c.if-n-lt1.false, le-ltb _ _ c.if-n-gt16.false, le-ltb _ _ c.if-len-n.false) c.check_entries.ensures)
