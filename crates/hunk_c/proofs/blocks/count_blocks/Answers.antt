use Rattle.std.proofs.Common.{◌≡◌, ◌+◌, List, [], ◌∷◌, ◌++◌, Some, refl, sym, ap, subst, ◌∙◌, arith, length, append-nil}
use Rattle.std.specs.List.{flat_map}
use Rattle.hunk_words.specs.Carriers.{saturated}
use Rattle.hunk_files.specs.{FileView.file_of, ItemViews.GivesItem, Items.ItemValue, StandingBlocks.{StandingBlock, items_blocks}}
use Rattle.hunk_files.specs.declared.items.Item.{Item}
use Rattle.hunk_files.proofs.{findings.FindingSteps.taken_on, views.ItemBlocks.block_given}
use Rattle.hunk_c.specs.{Blocks.{block_row, block_rows, blocks_in}, Counting.{Counts, counts_more}}
use Rattle.hunk_c.specs.declared.blocks.BlockRow.{BlockRow}
use Rattle.hunk_c.proofs.blocks.count_blocks.Goals as goal

pub counting-preserved-in-Block : goal.counting-preserved-in-Block
counting-preserved-in-Block c =
    let old = c.counting.item-iterator in
    let new = c.next.new.self in
    let b = c.in-Block in
    let block : StandingBlock = record { unit = b.unit; hunk = b.hunk; block = b.view } in
    let first = block_given old new b.unit b.hunk b.view (subst (λ (item : Item). GivesItem old (Some item) new) b.is c.in-Some.ensures.steps) in
    let one : Counts {A = BlockRow} c.counting.count (block_row block ∷ []) c.saturating_add-count.result = λ before is. omega (arith, is, c.saturating_add-count.ensures) in
    taken_on Counts counts_more 0 _ _ (block_row block ∷ []) (flat_map block_rows (items_blocks new.place new.value))
    (flat_map block_rows (items_blocks old.place old.value)) (blocks_in (file_of c.args.file.now)) (ap (λ (bs : List StandingBlock). flat_map block_rows bs) first) c.counting.invariant one

pub returns : goal.returns
returns c =
    let t = c.counting.invariant in
    let last = c.counting.item-iterator.place in
    let none : flat_map block_rows (items_blocks last c.counting.item-iterator.value) ≡ [] = ap (λ (items : List ItemValue). flat_map block_rows (items_blocks last items)) c.in-None.ensures.steps.0 in
    let all : t.0 ≡ blocks_in (file_of c.args.file.now) = sym (append-nil t.0) ∙ ap (λ (rows : List BlockRow). t.0 ++ rows) (sym none) ∙ t.2 in
    t.1 0 refl ∙ ap (λ (rows : List BlockRow). saturated (0 + length rows)) all ∙ ap saturated (omega arith)
