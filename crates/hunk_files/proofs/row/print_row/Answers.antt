use Rattle.std.proofs.Common.{◌∙◌, sym}
use Rattle.hunk_files.proofs.cuts.TextParts.{row_two, printed_two}
use Rattle.hunk_files.proofs.row.print_row.Goals as goal

pub returns-then-has_extra : goal.returns-then-has_extra
returns-then-has_extra g c = (
  c.print_long-then-has_extra.ensures.prints.0 ∙ c.print_long.ensures.prints.0,
  printed_two _ _ _ _ _ _ c.print_long.ensures.prints.1 c.print_long-then-has_extra.ensures.prints.1 (row_two c.args.row.now (sym c.has_extra.ensures ∙ c.if-has_extra.true)),
)
