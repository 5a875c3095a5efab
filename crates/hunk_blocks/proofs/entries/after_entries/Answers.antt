use Rattle.std.proofs.Common.{refl}
use Rattle.hunk_blocks.specs.Views.{entry_of}
use Rattle.hunk_blocks.proofs.{CutLaws.entries_are_cut, ListReading.{item_first, item_passed, list_passed}}
use Rattle.hunk_blocks.proofs.entries.after_entries.Goals as goal

pub passing-preserved : goal.passing-preserved
passing-preserved c =
    item_passed entries_are_cut c.args.reader c.passing.reader c.read_entry.new.reader c.peek.result _ (entry_of c.read_entry.result) c.passing.invariant c.peek.ensures c.passing-test.true c.read_entry.ensures

pub returns : goal.returns
returns c =
    list_passed entries_are_cut c.args.reader c.passing.reader c.long.new.self c.peek.result _ c.passing.invariant c.peek.ensures c.passing-test.false c.long.result c.long.ensures c.args.reader refl

pub passing-smaller : goal.passing-smaller
passing-smaller c =
    (item_first entries_are_cut c.passing.reader c.peek.result _ c.passing.invariant.left c.peek.ensures c.passing-test.true c.read_entry.new.reader (entry_of c.read_entry.result) c.read_entry.ensures).fewer
