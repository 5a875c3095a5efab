use Rattle.hunk_files.specs.ObjectPassing.{no_stride}
use Rattle.hunk_files.proofs.object.passing.pass_over.Goals as goal

pub returns-in_default : goal.returns-in_default
returns-in_default c = no_stride
