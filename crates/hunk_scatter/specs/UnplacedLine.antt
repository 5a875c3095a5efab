-- What a table that could not be placed is shown as.
use Rattle.std.specs.Prelude.{ℕ, List, length}
use Rattle.hunk_words.specs.FaultLines.{refusal_line}
use Rattle.hunk_scatter.specs.HeaderBytes.{header_bytes}
use Rattle.hunk_scatter.specs.declared.declared.Unplaced.{Unplaced}

abbrev pub unplaced_line : Unplaced → List ℕ
unplaced_line unplaced =
    refusal_line (record { place = length (header_bytes unplaced.declared.table); reason = unplaced.reason })
