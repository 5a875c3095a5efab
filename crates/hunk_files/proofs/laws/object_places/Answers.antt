use Rattle.hunk_files.proofs.object_walk.ObjectPlaces.{after_is, end_tells, free_passes, run_is}
use Rattle.hunk_files.proofs.laws.object_places.Goals as goal

pub returns-clause-end : goal.returns-clause-end
returns-clause-end c = end_tells

pub returns-clause-run : goal.returns-clause-run
returns-clause-run c o done more is = run_is o is done more

pub returns-clause-free : goal.returns-clause-free
returns-clause-free c = free_passes

pub returns-clause-after : goal.returns-clause-after
returns-clause-after c = after_is
