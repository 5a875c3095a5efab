-- What the loader of a body keeps of what was read.
use Rattle.std.specs.Prelude.{ℕ, ◌*◌, List, [], length, map}
use Rattle.std.specs.List.{sum_by}
use Rattle.hunk_words.specs.Bits.{size_longs}
use Rattle.hunk_files.specs.LoadFile.{TableEntry, HunkValue}
use Rattle.hunk_files.specs.FileSteps.{AtBlock, InBody, Next, More, Finished}
use Rattle.hunk_files.specs.ReaderPosition.{position_of}
use Rattle.hunk_grammar.specs.declared.position.Position.{Position}
use Rattle.hunk_grammar.specs.declared.position.Position.TheVariants as positions
use Rattle.hunk_scatter.specs.declared.store.BodyState.{BodyState}

abbrev pub sizes_of : List TableEntry → List ℕ
sizes_of table = map (λ e. e.word) table

-- the declared bytes of whole hunks
abbrev pub before : List HunkValue → ℕ
before finished = sum_by (λ h. 4 * size_longs h.entry.word) finished

-- after these hunks
abbrev pub state_at : List HunkValue → Position → BodyState
state_at finished position = record { hunk = length finished; start = before finished; position = position }

abbrev pub state_of : Next → BodyState
state_of (More (AtBlock o)) = state_at o.finished (position_of (More (AtBlock o)))
state_of (More (InBody o word x)) = state_at o.finished (position_of (More (InBody o word x)))
state_of (Finished v) = state_at v positions.Done
state_of n = state_at [] (position_of n)
