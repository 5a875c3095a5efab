use Rattle.hunk_scatter.proofs.SoFarLaws.{part_so_far, position_so_far, read_so_far, store_so_far}
use Rattle.hunk_scatter.proofs.laws.so_far.Goals as goal

pub returns-clause-position : goal.returns-clause-position
returns-clause-position c = position_so_far

pub returns-clause-hunk : goal.returns-clause-hunk
returns-clause-hunk c = part_so_far

pub returns-clause-reads : goal.returns-clause-reads
returns-clause-reads c = read_so_far

pub returns-clause-memory : goal.returns-clause-memory
returns-clause-memory c = store_so_far
