use Rattle.hunk_files.proofs.object_walk.ObjectOutcome.{word_goes_on}
use Rattle.hunk_files.proofs.object_walk.OneObjectFault.{one_fault, no_object, no_object_goes_on, not_truncated}
use Rattle.hunk_files.proofs.laws.object_fault.Goals as goal

pub returns-clause-one : goal.returns-clause-one
returns-clause-one c = one_fault

pub returns-clause-none : goal.returns-clause-none
returns-clause-none c = no_object

pub returns-clause-complete : goal.returns-clause-complete
returns-clause-complete c = word_goes_on

pub returns-clause-refused : goal.returns-clause-refused
returns-clause-refused c = no_object_goes_on

pub returns-clause-not_truncated : goal.returns-clause-not_truncated
returns-clause-not_truncated c = not_truncated
