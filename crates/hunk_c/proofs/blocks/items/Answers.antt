use Rattle.std.proofs.Common.{◌≡◌, ℕ, ◌+◌, List, length, sym, ap, subst, arith, ◌∙◌}
use Rattle.hunk_words.specs.Carriers.{saturated}
use Rattle.hunk_blocks.specs.{BodyViews.{HasListAt, viewed}, Parts.{ext_text, symbol_text}}
use Rattle.hunk_blocks.specs.{Values.{BlockBody, ExtEntry}, Placed.Placed}
use Rattle.hunk_blocks.specs.declared.body_view.BodyView.{BodyView}
use Rattle.hunk_parts.specs.Listing.{item_rows}
use Rattle.hunk_c.specs.{Blocks.item_count, Entries.entry_row, Relocations.relocated}
use Rattle.hunk_c.specs.Symbols.{symbol_row}
use Rattle.hunk_c.proofs.BlockRows.{length-group_rows, length-item_rows, rows_counted}
use Rattle.hunk_c.proofs.blocks.items.Goals as goal

pub returns-in-Reloc : goal.returns-in-Reloc
returns-in-Reloc c =
    let block = c.args.block.now in
    let groups = c.in-Reloc.groups in
    c.offset_count.ensures
    ∙ ap saturated (sym (length-group_rows (relocated c.args.unit c.args.hunk block.value.word) (block.place + 4) groups.value))
    ∙ ap (λ (b : BlockBody). saturated (item_count c.args.unit c.args.hunk block.place block.value.word b)) (sym (ap viewed c.in-Reloc.is) ∙ c.body.ensures.value)

pub returns-in-Symbol : goal.returns-in-Symbol
returns-in-Symbol c =
    let block = c.args.block.now in
    let entries = c.in-Symbol.symbols.value in
    let row = symbol_row c.args.unit c.args.hunk in
    let counted : c.len.result ≡ saturated (length (item_rows row symbol_text (block.place + 4) entries)) = omega (arith, c.len.ensures, length-item_rows row symbol_text (block.place + 4) entries) in
    counted
    ∙ ap (λ (b : BlockBody). saturated (item_count c.args.unit c.args.hunk block.place block.value.word b)) (sym (ap viewed c.in-Symbol.is) ∙ c.body.ensures.value)

pub returns-in-Ext : goal.returns-in-Ext
returns-in-Ext c =
    let block = c.args.block.now in
    let entries = c.in-Ext.entries in
    let at : entries.place ≡ block.place + 4 = subst (λ (b : BodyView). HasListAt (block.place + 4) b) c.in-Ext.is c.body.ensures.place in
    let rows = item_rows (entry_row c.args.unit c.args.hunk) ext_text in
    rows_counted _ _ (rows (block.place + 4) entries.value) c.list_entries.ensures
    (ap (λ (p : Placed (List ExtEntry)). rows p.place p.value) c.again.ensures ∙ ap (λ (n : ℕ). rows n entries.value) at)
    ∙ ap (λ (b : BlockBody). saturated (item_count c.args.unit c.args.hunk block.place block.value.word b)) (sym (ap viewed c.in-Ext.is) ∙ c.body.ensures.value)
