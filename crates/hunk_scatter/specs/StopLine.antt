-- What the stop of a stream is shown as.
use Rattle.std.specs.Prelude.{ℕ, List, codes}
use Rattle.hunk_words.specs.FaultLines.{refusal_line}
use Rattle.hunk_scatter.specs.declared.stream.Stop.{Stop}
use Rattle.hunk_scatter.specs.declared.stream.Stop.TheVariants as stops

abbrev pub stop_line : Stop → List ℕ
stop_line (stops.Refused f) = refusal_line f
stop_line stops.Strange = codes "the numbers are those of no loader"
