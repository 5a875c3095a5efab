use Rattle.std.proofs.Common.{◌≡◌, ℕ, ◌++◌, List, Option, Some, None, MatchOption, ap, sym, ◌∙◌, subst, rules}
use Rattle.std.specs.{List.flat_map, List.Sorted.{IsPermutation, IsNonDecreasing}}
use Rattle.std.proofs.lemmas.List.Sorted.{IsNonDecreasingBy-from_sort}
use Rattle.hunk_blocks.specs.Values.{BlockValue}
use Rattle.hunk_files.specs.{Image.{offsets, block_relocations}, Overlap.{IsFirstOverlap, AreApart, hunk_offsets}}
use Rattle.hunk_files.specs.Tables.{hunk_of}
use Rattle.hunk_files.proofs.{views.FileViews.hunk_at, image.OffsetLists.offsets_at, image.Rising.{apart_in_order, first_in_order}}
use Rattle.hunk_files.proofs.load.file.LoadFile.overlap.Goals as goal

pub first_close-requires : goal.first_close-requires
first_close-requires c =
    let P : List ℕ → Type 0 = λ xs. IsNonDecreasing xs in
    let e : c.sort_unstable.new.self.items ≡ c.deref-2.result.now = search rules in
    subst P e (IsNonDecreasingBy-from_sort (λ x. x) _ c.sort_unstable.ensures.sorted)

in_order : (xs ys : List ℕ) (found : Option (ℕ × ℕ)) → IsPermutation xs ys → MatchOption found (AreApart ys) (λ pair. IsFirstOverlap ys pair.0 pair.1) →
    MatchOption found (AreApart xs) (λ pair. IsFirstOverlap xs pair.0 pair.1)
in_order xs ys None p h = apart_in_order xs ys p h
in_order xs ys (Some pair) p h = first_in_order xs ys pair.0 pair.1 p h

pub returns : goal.returns
returns c =
    let hunk = hunk_of c.index.result.now in
    let sorted : c.sort_unstable.new.self.items ≡ c.deref-2.result.now = search rules in
    let held : c.push_hunk_offsets.new.rising.items ≡ hunk_offsets c.args.self.now c.args.i =
    c.in_ok-push_hunk_offsets.ensures
    ∙ ap (λ (l : List ℕ). l ++ offsets (flat_map (λ (b : BlockValue). block_relocations b.body) c.deref.result.now)) c.new-rising.ensures.items
    ∙ ap (λ (bs : List BlockValue). offsets (flat_map (λ (b : BlockValue). block_relocations b.body) bs)) c.deref.ensures.value
    ∙ sym (offsets_at c.args.self.now c.args.i hunk (hunk_at c.self.inside.hunks.items c.args.self.now c.args.i c.index.result.now c.self.view_is c.requires c.index.ensures))
    in
    let P : List ℕ → Type 0 = λ xs. IsPermutation xs c.sort_unstable.new.self.items in
    let Q : List ℕ → Type 0 = λ ys. IsPermutation (hunk_offsets c.args.self.now c.args.i) ys in
    in_order (hunk_offsets c.args.self.now c.args.i) c.deref-2.result.now c.first_close.result (subst Q sorted (subst P held c.sort_unstable.ensures.permutation)) c.first_close.ensures
