use Rattle.hunk_parts.proofs.laws.room_for_built.Goals as goal
use Rattle.hunk_parts.proofs.spelled.RoomForBuilt.{room_for_built}

pub returns : goal.returns
returns c = room_for_built
