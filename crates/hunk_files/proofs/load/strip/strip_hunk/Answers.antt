use Rattle.std.proofs.Common.{List, ap, rules}
use Rattle.std.proofs.lemmas.Fn.{filter_same}
use Rattle.hunk_blocks.specs.Values.{BlockValue}
use Rattle.hunk_files.specs.{Strip.is_kept, Tables.row_entry, FileSteps.hunk}
use Rattle.hunk_files.proofs.load.strip.strip_hunk.Goals as goal

pub returns : goal.returns
returns c = ap (λ (bs : List BlockValue). hunk (row_entry c.args.hunk.now.row) bs) (filter_same _ (λ b. is_kept b.body) _ (λ x b f' k. search rules) _ _ c.retain.ensures.filtered)
