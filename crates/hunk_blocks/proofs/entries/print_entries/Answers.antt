use Rattle.std.proofs.Common.{rules, ◌∙◌, arith}
use Rattle.hunk_blocks.specs.{Values.IsExtEntry, Parts.ext_text, Views.entry_of}
use Rattle.hunk_blocks.proofs.ListWriting.{all_at, list_shown}
use Rattle.hunk_blocks.proofs.entries.print_entries.Goals as goal

pub print_entry-requires : goal.print_entry-requires
print_entry-requires g c = (search rules, all_at IsExtEntry entry_of c.args.entries.now c.entries.entry-index c.entry-item.result c.requires c.entries-test.true c.entry-item.is)

pub returns : goal.returns
returns g c = (
  c.print_long.ensures.prints.0 ∙ c.entries.invariant.0,
  list_shown entry_of ext_text c.args.entries.now c.entries.entry-index _ _ _ (omega (arith, c.entries-test.false)) c.entries.invariant.1 c.print_long.ensures.prints.1,
)
