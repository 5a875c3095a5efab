-- What was read of a load file, in numbers alone: the position of its reader.
use Rattle.std.specs.Prelude.{◌≡◌, ℕ, ◌+◌, ◌-◌, true, List, [], ◌∷◌, ◌++◌, length}
use Rattle.hunk_words.specs.Bits.{size_longs}
use Rattle.hunk_blocks.specs.Values.{BlockValue}
use Rattle.hunk_blocks.specs.ReaderPhase.{phase_of}
use Rattle.hunk_grammar.specs.declared.position.OpenHunk as numbers
use Rattle.hunk_grammar.specs.declared.phase.Phase.{Phase}
use Rattle.hunk_grammar.specs.declared.phase.Phase.TheVariants as phases
use Rattle.hunk_grammar.specs.declared.position.Position.{Position}
use Rattle.hunk_grammar.specs.declared.position.Position.TheVariants as positions
use Rattle.hunk_grammar.specs.Positions.{is_after_header}
use Rattle.hunk_files.specs.LoadFile.{TableEntry}
use Rattle.hunk_files.specs.LoadText.{table}
use Rattle.hunk_files.specs.declared.part.Part.{Part}
use Rattle.hunk_files.specs.declared.part.Part.TheVariants as parts
use Rattle.hunk_files.specs.FileSteps.{HunkSoFar, Progress, AtFirst, AtResident, AtTableSize, AtFirstHunk, AtLastHunk, AtSizeWord, AtAttributes, AtBlock, InBody, Next, More, Finished}

abbrev pub open_of : HunkSoFar → numbers.OpenHunk
open_of o = record { hunks = o.hunks; ahead = length o.ahead; has_content = o.has_content }

-- after these blocks of a hunk
abbrev pub block_phase : List BlockValue → Phase
block_phase [] = phases.FirstBlock
block_phase (b ∷ blocks) = phases.BlockWord

-- The position after what was read.
abbrev pub position_of : Next → Position
position_of (More AtFirst) = positions.FirstLong
position_of (More AtResident) = positions.ResidentName
position_of (More AtTableSize) = positions.TableSize
position_of (More (AtFirstHunk hunks)) = positions.FirstHunk hunks
position_of (More (AtLastHunk hunks)) = positions.LastHunk hunks
position_of (More (AtSizeWord hunks done owed)) = positions.SizeWord hunks owed
position_of (More (AtAttributes hunks done word owed)) = positions.Attributes hunks word owed
position_of (More (AtBlock o)) = positions.Body (open_of o) (block_phase o.blocks)
position_of (More (InBody o word x)) = positions.Body (open_of o) (phase_of x)
position_of (Finished v) = positions.Done

-- the longs that the open hunk declares
abbrev pub open_longs : Progress → ℕ
open_longs (AtBlock o) = size_longs o.entry.word
open_longs (InBody o word x) = size_longs o.entry.word
open_longs _ = 0

-- the entries of the hunks that were opened
abbrev pub opened : Progress → List TableEntry
opened (AtBlock o) = table o.finished ++ o.entry ∷ []
opened (InBody o word x) = table o.finished ++ o.entry ∷ []
opened _ = []

abbrev pub open_table : HunkSoFar → List TableEntry
open_table o = table o.finished ++ o.entry ∷ o.ahead

-- the table, as far as it was read
abbrev pub table_of : Next → List TableEntry
table_of (More (AtSizeWord hunks done owed)) = done
table_of (More (AtAttributes hunks done word owed)) = done
table_of (More (AtBlock o)) = open_table o
table_of (More (InBody o word x)) = open_table o
table_of (Finished v) = table v
table_of _ = []

-- the header was read
abbrev pub IsAfterHeader : Next → Type 0
IsAfterHeader n = is_after_header (position_of n) ≡ true

-- The part that the next longword is of: the header, or the open hunk.
abbrev pub part_in : Position → Part
part_in (positions.Body o phase) = parts.Hunk (o.hunks - (o.ahead + 1))
part_in p = parts.Header
