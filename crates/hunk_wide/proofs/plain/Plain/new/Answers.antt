use Rattle.hunk_wide.specs.Held.{left_of}
use Rattle.hunk_wide.specs.Plain.{plain}
use Rattle.hunk_wide.proofs.{Ends.wide_in_file, Supplies.map_all}
use Rattle.hunk_wide.proofs.plain.Plain.new.Goals as goal

pub returns-clause-left : goal.returns-clause-left
returns-clause-left g c = λ input e. map_all (left_of c.new.result) plain _ input c.new.ensures.left e

pub returns-clause-file : goal.returns-clause-file
returns-clause-file g c = λ v bytes rest is wide e. wide_in_file c.new.result _ v bytes rest c.new.ensures.left c.new.ensures.spot is wide e
