use Rattle.std.proofs.Common.{List, drop, sym, ap, ◌∙◌}
use Rattle.hunk_blocks.specs.{Parts.block_text, Placed.Placed}
use Rattle.hunk_files.specs.{LoadFile.{TableEntry, LoadFileValue}, Tables.size_entry, InPlace.hunks_in}
use Rattle.hunk_files.proofs.views.HunksInPlace.{hunk_gives, hunk_text, hunks_in-nil, next_hunk_of}
use Rattle.hunk_files.proofs.views.PartsInTurn.{end_of, end_passed, part_less}
use Rattle.hunk_files.proofs.load.hunk_views.LoadHunkViewsIterator.next.Goals as goal

pub returns-in_default-clause-steps : goal.returns-in_default-clause-steps
returns-in_default-clause-steps c =
    let none = c.in_default.ensures.steps in
    let bytes = drop c.self.inside.at c.self.inside.bytes.now in (
      ap (λ (p : Placed LoadFileValue). p.value) (sym c.self.view_is) ∙ ap (λ (es : List TableEntry). hunks_in es bytes) none.0 ∙ hunks_in-nil bytes,
      ap (λ (es : List TableEntry). record { place = c.self.inside.at; value = hunks_in es bytes }) (none.1 ∙ sym none.0) ∙ c.self.view_is,
    )

pub at-blocks-requires : goal.at-blocks-requires
at-blocks-requires c = (next_hunk_of c.self.inside.table (size_entry c.in-Some.size) c.next.new.self c.self.inside.bytes.now c.self.inside.at c.in-Some.ensures.steps c.self.invariant).here

pub at-passed-requires : goal.at-passed-requires
at-passed-requires c = (next_hunk_of c.self.inside.table (size_entry c.in-Some.size) c.next.new.self c.self.inside.bytes.now c.self.inside.at c.in-Some.ensures.steps c.self.invariant).here

pub invariant_of-self-2 : goal.invariant_of-self-2
invariant_of-self-2 c = let n = next_hunk_of c.self.inside.table (size_entry c.in-Some.size) c.next.new.self c.self.inside.bytes.now c.self.inside.at c.in-Some.ensures.steps c.self.invariant in n.left _ (ap (λ (p : Placed _). p.place) c.passed.view_is ∙ end_passed block_text c.at-passed.result c.passing.passed c.next-in-passing.new.self c.passing.invariant c.in_default-next.ensures.steps ∙ ap (end_of block_text) (c.at-passed.ensures n.here))

pub returns-clause-steps : goal.returns-clause-steps
returns-clause-steps c =
    let n = next_hunk_of c.self.inside.table (size_entry c.in-Some.size) c.next.new.self c.self.inside.bytes.now c.self.inside.at c.in-Some.ensures.steps c.self.invariant in
    let gives = hunk_gives c.self.inside.table (size_entry c.in-Some.size) c.next.new.self c.self.inside.bytes.now c.self.inside.at n c.at-blocks.result (c.at-blocks.ensures n.here) _ (ap (λ (p : Placed _). p.place) c.passed.view_is ∙ end_passed block_text c.at-passed.result c.passing.passed c.next-in-passing.new.self c.passing.invariant c.in_default-next.ensures.steps ∙ ap (end_of block_text) (c.at-passed.ensures n.here)) in
    (sym c.self.view_is ∙ gives.0, gives.1)

pub returns-clause-goes : goal.returns-clause-goes
returns-clause-goes c = let less = part_less hunk_text _ (λ s. tt) c.args.self.now _ _ (returns-clause-steps c) in record { on = λ h. less.on h; keeps = less.keeps; rests = λ h. tt }
