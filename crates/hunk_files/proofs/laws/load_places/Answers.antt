use Rattle.hunk_files.proofs.walk.LoadPlaces.{after_tells, between_tells, done_tells}
use Rattle.hunk_files.proofs.laws.load_places.Goals as goal

pub returns-clause-end : goal.returns-clause-end
returns-clause-end c v ws more is = done_tells v is ws more

pub returns-clause-header : goal.returns-clause-header
returns-clause-header c v ws more is = after_tells v is ws more

pub returns-clause-hunks : goal.returns-clause-hunks
returns-clause-hunks c v ws more is = between_tells v is ws more
