use Rattle.hunk_wide.proofs.SpelledObjects.{one_kind, one_object}
use Rattle.hunk_wide.proofs.laws.one_object_spelling.Goals as goal

pub returns-clause-value : goal.returns-clause-value
returns-clause-value c = one_object

pub returns-clause-kind : goal.returns-clause-kind
returns-clause-kind c = one_kind
