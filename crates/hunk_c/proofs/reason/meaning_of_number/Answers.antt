use Rattle.hunk_c.specs.Names.{MeansReason}
use Rattle.hunk_c.proofs.reason.meaning_of_number.Goals as goal

pub returns-in-Some : goal.returns-in-Some
returns-in-Some c = MeansReason c.in-Some.reason c.in-Some.ensures.value c.meaning.ensures
