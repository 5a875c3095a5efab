-- The entry of the open hunk, in numbers.
use Rattle.std.specs.Prelude.{ℕ, ◌+◌, List, slice_index, if◌then◌else◌}
use Rattle.hunk_words.specs.Bits.{size_longs, entry_longs}
use Rattle.hunk_grammar.specs.declared.position.Position.{Position}
use Rattle.hunk_grammar.specs.Positions.{is_between_hunks}
use Rattle.hunk_files.specs.declared.load.walk.DeclaredHunk.{DeclaredHunk}

-- by its size word, which stands at this longword
abbrev pub entry_after : ℕ → ℕ → DeclaredHunk
entry_after word at = record { longs = size_longs word; next = at + entry_longs word }

-- Where a hunk opens, its entry is the next of the table.
abbrev pub entry_at : List ℕ → Position → DeclaredHunk → DeclaredHunk
entry_at ws p e = if is_between_hunks p then entry_after (slice_index ws e.next) e.next else e
