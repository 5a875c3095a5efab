-- Where a reader of an object file stands, in numbers alone: what the next longword is for, and what it leads to.
use Rattle.std.specs.Prelude.{ℕ, zero, suc, Bool, true, false, ◌==◌, if◌then◌else◌, Option, Some, None}
use Rattle.hunk_words.specs.declared.reason.Reason.{Reason}
use Rattle.hunk_words.specs.declared.reason.Reason.TheVariants as reasons
use Rattle.hunk_words.specs.Bits.{kind}
use Rattle.hunk_grammar.specs.declared.phase.Phase.{Phase}
use Rattle.hunk_grammar.specs.PhaseSteps as inside
use Rattle.hunk_grammar.specs.PhaseSteps.{part_at, longest_run}
use Rattle.hunk_grammar.specs.Standings.{BlockStanding, Ending, refuse_standing, standing_of_kind}
use Rattle.hunk_grammar.specs.declared.object_position.ObjectPosition.{ObjectPosition}
use Rattle.hunk_grammar.specs.declared.object_position.ObjectPosition.TheVariants as positions
use Rattle.hunk_words.specs.Bits.{unit_word}
use Rattle.hunk_grammar.specs.declared.object_position.WordPlace.{WordPlace}
use Rattle.hunk_grammar.specs.declared.object_position.WordPlace.TheVariants.{BeforeUnits, BetweenHunks}
use Rattle.hunk_grammar.specs.ObjectRoles.{ObjectRole, WordAt, UnitCount, UnitName, Within, has_content, after_block}

-- The test of the place of a block that is no unit.
abbrev pub refuse_place : WordPlace → BlockStanding → Option Reason
refuse_place BeforeUnits s = Some reasons.Misplaced
refuse_place place s = refuse_standing (has_content place) s

-- the place after a block that stands here
abbrev pub place_next : WordPlace → BlockStanding → WordPlace
place_next place Ending = BetweenHunks
place_next place s = after_block place s

-- The role of the next longword.
abbrev pub role_at : ObjectPosition → ObjectRole
role_at (positions.Word place) = WordAt place
role_at positions.UnitCount = UnitCount
role_at (positions.UnitName owed) = UnitName
role_at (positions.Block next phase) = Within (part_at phase)

-- in a block, or after it
abbrev pub within : WordPlace → Option Phase → ObjectPosition
within next (Some phase) = positions.Block next phase
within next None = positions.Word next

-- this number of longwords of a name is owed
abbrev pub owe_name : ℕ → ObjectPosition
owe_name zero = positions.Word BetweenHunks
owe_name (suc owed) = positions.UnitName owed

-- After a longword that is not refused.
abbrev pub step : ObjectPosition → ℕ → ObjectPosition
step (positions.Word place) w = if w == unit_word then positions.UnitCount else within (place_next place (standing_of_kind (kind w))) (inside.begin (kind w))
step positions.UnitCount w = owe_name w
step (positions.UnitName owed) w = owe_name owed
step (positions.Block next phase) w = within next (inside.step phase w)

-- The file may end here.
abbrev pub may_end : ObjectPosition → Bool
may_end (positions.Word BetweenHunks) = true
may_end _ = false

-- The number of longwords that come at least and that no test looks at.
abbrev pub run : ObjectPosition → ℕ
run (positions.UnitName owed) = suc owed
run (positions.Block next phase) = longest_run phase
run _ = 0

-- after all of them
abbrev pub pass_run : ObjectPosition → ObjectPosition
pass_run (positions.UnitName owed) = positions.Word BetweenHunks
pass_run (positions.Block next phase) = within next (inside.pass_longest_run phase)
pass_run position = position
