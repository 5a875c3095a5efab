use Rattle.hunk_blocks.specs.{Parts.group_text, Views.group_of}
use Rattle.hunk_blocks.proofs.{CutLaws.groups_are_cut, ListReading.{first_given, item_first, item_less, none_given}}
use Rattle.hunk_blocks.proofs.groups.GroupsIterIterator.next.Goals as goal

pub returns-then-peek-eq0-clause-steps : goal.returns-then-peek-eq0-clause-steps
returns-then-peek-eq0-clause-steps c = none_given groups_are_cut group_of c.self.inside.reader c.args.self.now c.self.view_is c.self.invariant c.peek.result _ c.peek.ensures c.if-peek-eq0.true

pub invariant_of-self : goal.invariant_of-self
invariant_of-self c = (item_first groups_are_cut c.self.inside.reader c.peek.result _ c.self.invariant c.peek.ensures c.if-peek-eq0.false c.read_group.new.reader (group_of c.read_group.result) c.read_group.ensures).left

pub returns-clause-steps : goal.returns-clause-steps
returns-clause-steps c = first_given groups_are_cut group_of c.self.inside.reader c.args.self.now c.self.view_is c.self.invariant c.peek.result _ c.peek.ensures c.if-peek-eq0.false c.read_group.new.reader c.read_group.result c.read_group.ensures

pub returns-clause-goes : goal.returns-clause-goes
returns-clause-goes c = item_less group_of group_text _ (λ s. tt) c.args.self.now _ c.read_group.result (returns-clause-steps c)
