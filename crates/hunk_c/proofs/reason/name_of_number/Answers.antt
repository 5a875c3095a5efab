use Rattle.hunk_c.specs.Names.{OfReason}
use Rattle.hunk_c.proofs.reason.name_of_number.Goals as goal

pub returns-in-Some : goal.returns-in-Some
returns-in-Some c = OfReason c.in-Some.reason c.in-Some.ensures.value c.name.ensures
