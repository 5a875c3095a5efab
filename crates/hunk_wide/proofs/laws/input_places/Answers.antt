use Rattle.hunk_wide.proofs.Places.{place_behind, place_grows, place_inside, place_same}
use Rattle.hunk_wide.proofs.laws.input_places.Goals as goal

pub returns-clause-inside : goal.returns-clause-inside
returns-clause-inside c = place_inside

pub returns-clause-behind : goal.returns-clause-behind
returns-clause-behind c = place_behind

pub returns-clause-order : goal.returns-clause-order
returns-clause-order c = place_grows

pub returns-clause-same : goal.returns-clause-same
returns-clause-same c = place_same
