use Rattle.hunk_blocks.specs.{Parts.ext_text, Views.entry_of}
use Rattle.hunk_blocks.proofs.{CutLaws.entries_are_cut, ListReading.{first_given, item_first, item_less, none_given}}
use Rattle.hunk_blocks.proofs.entries.EntriesIterIterator.next.Goals as goal

pub returns-then-peek-eq0-clause-steps : goal.returns-then-peek-eq0-clause-steps
returns-then-peek-eq0-clause-steps c = none_given entries_are_cut entry_of c.self.inside.reader c.args.self.now c.self.view_is c.self.invariant c.peek.result _ c.peek.ensures c.if-peek-eq0.true

pub invariant_of-self : goal.invariant_of-self
invariant_of-self c = (item_first entries_are_cut c.self.inside.reader c.peek.result _ c.self.invariant c.peek.ensures c.if-peek-eq0.false c.read_entry.new.reader (entry_of c.read_entry.result) c.read_entry.ensures).left

pub returns-clause-steps : goal.returns-clause-steps
returns-clause-steps c = first_given entries_are_cut entry_of c.self.inside.reader c.args.self.now c.self.view_is c.self.invariant c.peek.result _ c.peek.ensures c.if-peek-eq0.false c.read_entry.new.reader c.read_entry.result c.read_entry.ensures

pub returns-clause-goes : goal.returns-clause-goes
returns-clause-goes c = item_less entry_of ext_text _ (λ s. tt) c.args.self.now _ c.read_entry.result (returns-clause-steps c)
