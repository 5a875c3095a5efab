-- The END that is left out at the end of the input.
use Rattle.std.specs.Prelude.{◌==◌, Bool, false, ◌&&◌, ℕ, List, [], if◌then◌else◌}
use Rattle.std.specs.Int.{to_be_bytes, w32}
use Rattle.hunk_words.specs.Bits.{end_word}
use Rattle.hunk_grammar.specs.declared.phase.Phase.TheVariants as phases
use Rattle.hunk_grammar.specs.declared.position.Position.TheVariants as positions
use Rattle.hunk_wide.specs.declared.position.FilePosition.{FilePosition}
use Rattle.hunk_wide.specs.declared.position.FilePosition.TheVariants as files
use Rattle.hunk_wide.specs.declared.spot.Spot.{Spot}
use Rattle.hunk_wide.specs.declared.spot.Spot.TheVariants.{Long}

-- Only the END of the last hunk of a load file is to come.
abbrev pub ends : FilePosition → Bool
ends (files.Load (positions.Body o phases.FirstBlock)) = o.has_content && (o.ahead == 0)
ends (files.Load (positions.Body o phases.BlockWord)) = o.has_content && (o.ahead == 0)
ends _ = false

-- It may be left out.
abbrev pub ending : FilePosition → List ℕ
ending p = if ends p then to_be_bytes w32 end_word else []

abbrev pub is_last : Spot → Bool
is_last (Long p) = ends p
is_last _ = false
