-- Where a reader of a load file stands, in numbers alone: what the next longword is for, and what it leads to.
use Rattle.std.specs.Prelude.{ℕ, zero, suc, ◌+◌, ◌*◌, ◌≤◌, Bool, true, false, if◌then◌else◌, Option, Some, None}
use Rattle.hunk_words.specs.declared.block_word.Kind.{Kind}
use Rattle.hunk_words.specs.Bits.{has_both_bits}
use Rattle.hunk_grammar.specs.declared.position.OpenHunk.{OpenHunk}
use Rattle.hunk_grammar.specs.declared.phase.Phase.{Phase}
use Rattle.hunk_grammar.specs.declared.phase.Phase.TheVariants as phases
use Rattle.hunk_grammar.specs.declared.position.Position.{Position}
use Rattle.hunk_grammar.specs.declared.position.Position.TheVariants as positions
use Rattle.hunk_grammar.specs.PhaseSteps as inside
pub use Rattle.hunk_grammar.specs.PhaseSteps.{part_at}
use Rattle.hunk_grammar.specs.Roles.{Place, Role, Role as roles, InBlock}

-- ---- roles

abbrev pub place : ℕ → OpenHunk → Place
place longs o = record { hunks = o.hunks; longs = longs; has_content = o.has_content }

-- The role of the next longword, where the open hunk declares this number of longs. After the end nothing is refused.
abbrev pub role_at : ℕ → Position → Role
role_at longs positions.FirstLong = roles.FirstLong
role_at longs positions.ResidentName = roles.ResidentName
role_at longs positions.TableSize = roles.TableSize
role_at longs (positions.FirstHunk hunks) = roles.FirstHunk
role_at longs (positions.LastHunk hunks) = roles.LastHunk hunks
role_at longs (positions.SizeWord hunks owed) = roles.SizeWord
role_at longs (positions.Attributes hunks word owed) = roles.Attributes
role_at longs (positions.Body o phase) = InBlock (place longs o) (part_at phase)
role_at longs positions.Done = roles.SizeWord

-- ---- steps

abbrev pub at : OpenHunk → Phase → Position
at o phase = positions.Body o phase

abbrev pub with_content : OpenHunk → OpenHunk
with_content o = record { hunks = o.hunks; ahead = o.ahead; has_content = true }

-- this number of hunks is left
abbrev pub open_next : ℕ → ℕ → Position
open_next hunks zero = positions.Done
open_next hunks (suc ahead) = positions.Body (record { hunks = hunks; ahead = ahead; has_content = false }) phases.FirstBlock

-- this number of entries of the table is owed
abbrev pub owe_entries : ℕ → ℕ → Position
owe_entries hunks zero = open_next hunks hunks
owe_entries hunks (suc owed) = positions.SizeWord hunks owed

-- After a longword of a block: inside it, or here where it is whole.
abbrev pub onward : OpenHunk → Position → Option Phase → Position
onward o here (Some phase) = at o phase
onward o here None = here

-- After the END of the hunk.
abbrev pub close : OpenHunk → Position
close o = open_next o.hunks o.ahead

-- After a block whose last longword stands at this phase.
abbrev pub after : OpenHunk → Phase → Position
after o phases.FirstBlock = close o
after o phases.BlockWord = close o
after o phases.ContentSize = at (with_content o) phases.BlockWord
after o phases.BssSize = at (with_content o) phases.BlockWord
after o (phases.Content longs owed) = at (with_content o) phases.BlockWord
after o phase = at o phases.BlockWord

-- after a block word
abbrev pub begin : OpenHunk → Kind → Position
begin o k = onward o (close o) (inside.begin k)

-- this number of longwords of the kind is owed
abbrev pub owe_content : OpenHunk → ℕ → ℕ → Position
owe_content o longs owed = onward o (at (with_content o) phases.BlockWord) (inside.owe_content longs owed)

abbrev pub owe_payload : OpenHunk → ℕ → Position
owe_payload o owed = onward o (at o phases.BlockWord) (inside.owe_payload owed)

abbrev pub owe_offsets : OpenHunk → ℕ → ℕ → Position
owe_offsets o target owed = onward o (at o phases.BlockWord) (inside.owe_offsets target owed)

abbrev pub owe_symbol : OpenHunk → ℕ → Position
owe_symbol o owed = onward o (at o phases.BlockWord) (inside.owe_symbol owed)

abbrev pub step_in : OpenHunk → Phase → ℕ → Position
step_in o phase w = onward o (after o phase) (inside.step phase w)

-- After a longword that is not refused.
abbrev pub step : Position → ℕ → Position
step positions.FirstLong w = positions.ResidentName
step positions.ResidentName w = positions.TableSize
step positions.TableSize w = positions.FirstHunk w
step (positions.FirstHunk hunks) w = positions.LastHunk hunks
step (positions.LastHunk hunks) w = owe_entries hunks hunks
step (positions.SizeWord hunks owed) w = if has_both_bits w then positions.Attributes hunks w owed else owe_entries hunks owed
step (positions.Attributes hunks word owed) w = owe_entries hunks owed
step (positions.Body o phase) w = step_in o phase w
step positions.Done w = positions.Done

-- the file is whole
abbrev pub is_done : Position → Bool
is_done positions.Done = true
is_done _ = false

-- the header is whole
abbrev pub is_after_header : Position → Bool
is_after_header (positions.Body o phase) = true
is_after_header positions.Done = true
is_after_header _ = false

-- No hunk is open any more: the next opens here, or the file is whole.
abbrev pub is_between_hunks : Position → Bool
is_between_hunks (positions.Body o phases.FirstBlock) = true
is_between_hunks positions.Done = true
is_between_hunks _ = false

-- ---- runs

-- the number of longwords that come at least and that no test looks at
abbrev pub run_in : Phase → ℕ
run_in phase = inside.run phase

abbrev pub run : Position → ℕ
run (positions.Body o phase) = run_in phase
run _ = 0

-- after one longword of a run and this number of further ones
abbrev pub pass_in : OpenHunk → Phase → ℕ → Position
pass_in o phase n = onward o (after o phase) (inside.pass phase n)

abbrev pub pass : Position → ℕ → Position
pass p zero = p
pass (positions.Body o phase) (suc n) = pass_in o phase n
pass p (suc n) = p

-- ---- offsets

-- a long at the offset ends within this number of bytes
abbrev pub EndsWithin : ℕ → ℕ → Type 0
EndsWithin limit offset = offset + 4 ≤ limit

-- ---- the least number of longwords

-- up to the END of the hunk
abbrev pub end_least : Bool → ℕ
end_least true = 1
end_least false = 3

abbrev pub least_in : OpenHunk → Phase → ℕ
least_in o phases.FirstBlock = end_least o.has_content + 3 * o.ahead
least_in o phases.BlockWord = end_least o.has_content + 3 * o.ahead
least_in o phases.NameCount = 1 + end_least o.has_content + 3 * o.ahead
least_in o phases.LongCount = 1 + end_least o.has_content + 3 * o.ahead
least_in o phases.ContentSize = 2 + 3 * o.ahead
least_in o phases.BssSize = 2 + 3 * o.ahead
least_in o (phases.Content longs owed) = owed + 2 + 3 * o.ahead
least_in o (phases.Payload owed) = owed + 1 + end_least o.has_content + 3 * o.ahead
least_in o phases.GroupCount = 1 + end_least o.has_content + 3 * o.ahead
least_in o (phases.Target owed) = owed + 3 + end_least o.has_content + 3 * o.ahead
least_in o (phases.Offset target owed) = owed + 2 + end_least o.has_content + 3 * o.ahead
least_in o phases.EntryWord = 1 + end_least o.has_content + 3 * o.ahead
least_in o (phases.Symbol owed) = owed + 2 + end_least o.has_content + 3 * o.ahead
least_in o phases.ExtWord = 1 + end_least o.has_content + 3 * o.ahead
least_in o (phases.ExtFront owed) = owed + 3 + end_least o.has_content + 3 * o.ahead
least_in o phases.ExtCount = 2 + end_least o.has_content + 3 * o.ahead
least_in o (phases.ExtRest owed) = owed + 2 + end_least o.has_content + 3 * o.ahead

-- Up to the end of the header, or after it up to the end of the file.
abbrev pub least_longs : Position → ℕ
least_longs positions.FirstLong = 6
least_longs positions.ResidentName = 5
least_longs positions.TableSize = 4
least_longs (positions.FirstHunk hunks) = hunks + 2
least_longs (positions.LastHunk hunks) = hunks + 1
least_longs (positions.SizeWord hunks owed) = owed + 1
least_longs (positions.Attributes hunks word owed) = owed + 1
least_longs (positions.Body o phase) = least_in o phase
least_longs positions.Done = 0
