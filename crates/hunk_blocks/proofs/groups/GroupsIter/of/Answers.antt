use Rattle.hunk_blocks.specs.Views.{group_of}
use Rattle.hunk_blocks.proofs.{CutLaws.groups_are_cut, ListReading.{item_passed, list_passed}}
use Rattle.hunk_blocks.proofs.groups.GroupsIter.of.Goals as goal

pub passing-preserved : goal.passing-preserved
passing-preserved c =
    item_passed groups_are_cut c.args.reader.now c.passing.reader c.read_group.new.reader c.peek.result _ (group_of c.read_group.result) c.passing.invariant c.peek.ensures c.passing-test.true c.read_group.ensures

pub returns-clause-read : goal.returns-clause-read
returns-clause-read c =
    list_passed groups_are_cut c.args.reader.now c.passing.reader c.long.new.self c.peek.result _ c.passing.invariant c.peek.ensures c.passing-test.false c.long.result c.long.ensures c.again.result c.again.ensures
