use Rattle.std.proofs.Common.{◌≡◌, ◌+◌, ◌*◌, List, [], length, drop, refl, sym, ap, ap₂, subst, ◌∙◌}
use Rattle.hunk_blocks.specs.{Placed.Placed, Values.BlockValue}
use Rattle.hunk_files.specs.{Filling.{Fits, memory_of}, Hunks.block_texts, InPlace.{blocks_in, hunks_in}}
use Rattle.hunk_files.specs.{LoadFile.{LoadFileValue, TableEntry}, LoadHunks.{FillsFirst, FitsFirst}, Tables.size_entry}
use Rattle.hunk_files.proofs.views.{BlocksInPlace.hunk_value, HunksInPlace.{hunks_in-nil, next_hunk_of}}
use Rattle.hunk_files.proofs.image.FillingLaws.{hunk_fits}
use Rattle.hunk_files.proofs.load.hunk_views.LoadHunkViews.fill_next.Goals as goal

pub returns-in_default-clause-fills : goal.returns-in_default-clause-fills
returns-in_default-clause-fills g c =
    let bytes = drop c.self.inside.at c.self.inside.bytes.now in
    let none : c.args.self.now.value ≡ [] =
    ap (λ (p : Placed LoadFileValue). p.value) (sym c.self.view_is) ∙ ap (λ (es : List TableEntry). hunks_in es bytes) c.in_default.ensures.steps.0 ∙ hunks_in-nil bytes in
    absurd (subst (FitsFirst (length (g.B.Bases.bases c.args.bases.now)) (length c.args.memory.now)) none c.requires)

pub at-blocks-requires : goal.at-blocks-requires
at-blocks-requires g c = (next_hunk_of c.self.inside.table (size_entry c.in-Some._size) c.next.new.self c.self.inside.bytes.now c.self.inside.at c.in-Some.ensures.steps c.self.invariant).here

pub fill_hunk-requires : goal.fill_hunk-requires
fill_hunk-requires g c =
    let bytes = c.self.inside.bytes.now in
    let n = next_hunk_of c.self.inside.table (size_entry c.in-Some._size) c.next.new.self bytes c.self.inside.at c.in-Some.ensures.steps c.self.invariant in
    let hunks = length (g.B.Bases.bases c.args.bases.now) in
    let old = ap (λ (p : Placed LoadFileValue). p.value) (sym c.self.view_is) ∙ n.first _ refl in
    let fits = subst (FitsFirst hunks (length c.args.memory.now)) old c.requires in
    subst (Fits hunks (length c.args.memory.now)) (hunk_value n.here ∙ sym (ap (λ (p : Placed (List BlockValue)). p.value) (c.at-blocks.ensures n.here)))
    (hunk_fits hunks _ (length c.args.memory.now) fits.0 fits.1)

pub invariant_of-self-2 : goal.invariant_of-self-2
invariant_of-self-2 g c =
    let n = next_hunk_of c.self.inside.table (size_entry c.in-Some._size) c.next.new.self c.self.inside.bytes.now c.self.inside.at c.in-Some.ensures.steps c.self.invariant in
    n.left _ (c.place.ensures ∙ c.fill_hunk.ensures.after ∙ ap (λ (p : Placed (List BlockValue)). p.place + 4 * length (block_texts p.value)) (c.at-blocks.ensures n.here))

pub returns-clause-fills : goal.returns-clause-fills
returns-clause-fills g c =
    let bytes = c.self.inside.bytes.now in
    let at = c.self.inside.at in
    let hunks = length (g.B.Bases.bases c.args.bases.now) in
    let n = next_hunk_of c.self.inside.table (size_entry c.in-Some._size) c.next.new.self bytes at c.in-Some.ensures.steps c.self.invariant in
    let after = c.place.ensures ∙ c.fill_hunk.ensures.after ∙ ap (λ (p : Placed (List BlockValue)). p.place + 4 * length (block_texts p.value)) (c.at-blocks.ensures n.here) in
    let old = ap (λ (p : Placed LoadFileValue). p.value) (sym c.self.view_is) ∙ n.first _ after in
    let fits = subst (FitsFirst hunks (length c.args.memory.now)) old c.requires in
    let blocks : c.at-blocks.result.value ≡ blocks_in (drop at bytes) = ap (λ (p : Placed (List BlockValue)). p.value) (c.at-blocks.ensures n.here) ∙ sym (hunk_value n.here) in
    subst (λ (hs : LoadFileValue). FillsFirst (g.B.Bases.bases c.args.bases.now) hs c.fill_hunk.new.memory (hunks_in c.next.new.self (drop c.place.result bytes))) (sym old)
    (c.fill_hunk.ensures.memory ∙ ap₂ (memory_of (g.B.Bases.bases c.args.bases.now)) fits.1 blocks, refl)
