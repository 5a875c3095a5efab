use Rattle.std.proofs.Common.{◌++◌, List, ℕ, ap, sym, ◌∙◌}
use Rattle.std.specs.Slice.Iter.{iter_rest}
use Rattle.std.proofs.lemmas.List.Folds.{flat_map-map}
use Rattle.hunk_blocks.specs.{declared.groups.Group.Group, Views.group_of}
use Rattle.hunk_files.specs.Image.{offsets, group_relocations}
use Rattle.hunk_files.proofs.image.OffsetLists.{group_offsets, offsets_done, offsets_first}
use Rattle.hunk_files.proofs.load.overlap.push_offsets.Goals as goal

pub pushing-preserved : goal.pushing-preserved
pushing-preserved c =
    let f = λ (g : Group). group_relocations (group_of g) in
    offsets_first f (iter_rest c.pushing.group-iterator) (iter_rest c.next.new.self) c.in-Some.group.now c.pushing.rising.items c.push_longs.new.rising.items c.in-Some.ensures.steps
    (c.in_ok-push_longs.ensures ∙ ap (λ (l : List ℕ). c.pushing.rising.items ++ l) (sym (group_offsets (group_of c.in-Some.group.now))))
    ∙ c.pushing.invariant

pub returns : goal.returns
returns c =
    let f = λ (g : Group). group_relocations (group_of g) in
    offsets_done f (iter_rest c.pushing.group-iterator) c.pushing.rising.items c.in-None.ensures.steps.0 ∙ c.pushing.invariant
    ∙ ap (λ (l : List _). c.args.rising.now.items ++ offsets l) (sym (flat_map-map group_relocations group_of c.args.groups.now))
