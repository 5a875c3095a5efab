use Rattle.std.proofs.Common.{◌≡◌, ℕ, ◌*◌, nat_lt, Bool, List, ◌++◌, length, take, drop, ap, sym, subst, ◌∙◌, arith}
use Rattle.std.specs.List.{count_by}
use Rattle.std.specs.List.Sorted.{IsPermutation}
use Rattle.hunk_words.specs.Bits.{size_longs}
use Rattle.std.proofs.lemmas.{List.length-take-le, List.Sorted.length_permutation}
use Rattle.std.proofs.Math.Seq.{take-append_seam}
use Rattle.hunk_blocks.specs.Values.{BlockValue}
use Rattle.hunk_files.specs.{Hunks.block_texts, Image.filled}
use Rattle.hunk_files.specs.LoadHunks.{hunk_seen}
use Rattle.hunk_lint.specs.Facts.{facts_of, is_bss}
use Rattle.hunk_lint.specs.Warnings.{blocks_warnings}
use Rattle.hunk_lint.specs.Collecting.{blocks_content, blocks_offsets}
use Rattle.hunk_lint.specs.declared.warning.Warning.{Warning}
use Rattle.hunk_lint.proofs.AnyOrder.{same_in_order}
use Rattle.hunk_lint.proofs.file.list_hunk.Goals as goal

pub returns : goal.returns
returns g c =
    let hunk = c.args.hunk in
    let h = hunk_seen hunk in
    let f = facts_of c.args.sizes.now c.args.number h in
    let found = c.collect-collected.ensures in
    let count = c.collect-collected.result.count in
    let room = c.collect-collected.new.room in
    let sorted = c.sort.new.offsets in
    let order : IsPermutation f.offsets sorted =
    subst (λ (os : List ℕ). IsPermutation os sorted) (found.offsets ∙ ap blocks_offsets c.requires.opened) c.sort.ensures.order in
    let long : count ≡ length sorted = sym (length_permutation (take count room) sorted c.sort.ensures.order ∙ length-take-le count room found.inside) in
    let rising : take count (sorted ++ drop count room) ≡ sorted = ap (λ (n : ℕ). take n (sorted ++ drop count room)) long ∙ take-append_seam sorted (drop count room) in
    let rows = λ (bytes offsets : List ℕ) (bss : Bool).
    blocks_warnings (record f { content = filled (4 * size_longs f.word) bytes; offsets = offsets; is_bss = bss }) hunk.blocks.place h.blocks in
    let same =
    ap (λ (bytes : List ℕ). rows bytes (take count (sorted ++ drop count room)) c.collect-collected.result.is_bss) (found.content ∙ ap blocks_content c.requires.opened)
    ∙ ap (λ (os : List ℕ). rows (blocks_content h.blocks) os c.collect-collected.result.is_bss) rising
    ∙ ap (λ (b : Bool). rows (blocks_content h.blocks) sorted b) (found.bss ∙ ap (λ (bs : List BlockValue). nat_lt 0 (count_by (λ (b : BlockValue). is_bss b.body) bs)) c.requires.opened)
    ∙ same_in_order f sorted order hunk.blocks.place h.blocks in
    record {
      taken = subst (λ (ws : List Warning). g.T.Takes.takes c.args.taker.now ws c.list_blocks.new.taker) same c.list_blocks.ensures;
      items = found.after;
      place = omega (arith, found.place, ap (λ (bs : List BlockValue). length (block_texts bs)) c.requires.opened);
    }
