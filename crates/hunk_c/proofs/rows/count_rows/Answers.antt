use Rattle.std.proofs.Common.{ap, ◌∙◌, arith}
use Rattle.hunk_words.specs.Carriers.{saturated}
use Rattle.hunk_c.proofs.rows.count_rows.Goals as goal

pub returns : goal.returns
returns g c = c.list_file.ensures 0 (omega arith) ∙ ap saturated (omega arith)
