use Rattle.std.proofs.Common.{◌∙◌, arith}
use Rattle.hunk_c.specs.Loads.{HasNoRoom}
use Rattle.hunk_c.proofs.Loaded.{no_header, same_answer}
use Rattle.hunk_c.proofs.load.fitting_header.Goals as goal

pub returns-in-Err-clause-not_loaded : goal.returns-in-Err-clause-not_loaded
returns-in-Err-clause-not_loaded c = λ base. no_header base _ _ _ c.in-Err.none.fault c.in-Err.ensures.refusal c.in-Err.ensures.accepts c.refused.ensures

pub returns-then-size-room-clause-not_loaded : goal.returns-then-size-room-clause-not_loaded
returns-then-size-room-clause-not_loaded c =
    let s = c.in-Ok.ensures.size in
    λ base. HasNoRoom s.table s.header (omega (arith, s.declared_are, c.if-size-room.true)) (c.no_room.ensures ∙ same_answer _ _ _ _ _ _ _ s.hunks_are s.bytes_are s.declared_are)
