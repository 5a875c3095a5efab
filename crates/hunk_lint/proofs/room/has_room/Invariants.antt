use Rattle.std.proofs.Common.{length}
use Rattle.hunk_lint.proofs.RoomLaws.{LookedAt}
use Rattle.hunk_lint.proofs.room.has_room.Given as goal

abbrev pub invariant-looking : goal.invariant-looking
invariant-looking l = LookedAt l.offsets l.file l.hunks.value

abbrev pub decreases-looking : goal.decreases-looking
decreases-looking l = length l.hunks.value
