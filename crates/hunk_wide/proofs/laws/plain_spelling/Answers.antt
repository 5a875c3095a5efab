use Rattle.hunk_wide.proofs.{Along.plain_stays, Spelled.wide_plain, SpelledObjects.{object_stays, object_wide}}
use Rattle.hunk_wide.proofs.laws.plain_spelling.Goals as goal

pub returns-clause-stays : goal.returns-clause-stays
returns-clause-stays c = plain_stays

pub returns-clause-wide : goal.returns-clause-wide
returns-clause-wide c = wide_plain

pub returns-clause-object_stays : goal.returns-clause-object_stays
returns-clause-object_stays c = object_stays

pub returns-clause-object_wide : goal.returns-clause-object_wide
returns-clause-object_wide c = object_wide
