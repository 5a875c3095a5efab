use Rattle.std.proofs.Common.{ℕ, ◌+◌, sym, ap, subst, ◌∙◌}
use Rattle.hunk_blocks.specs.{BodyViews.{HasListAt, viewed}, Parts.{ext_text, group_text, symbol_text}}
use Rattle.hunk_blocks.specs.declared.body_view.BodyView.{BodyView}
use Rattle.hunk_parts.specs.{Listing.item_rows, PartRows.{entry_row, group_row, items_rows, symbol_row}}
use Rattle.hunk_parts.proofs.ItemsLeft.{block_taken}
use Rattle.hunk_parts.proofs.listing.list_block.Goals as goal

pub returns-in-Reloc : goal.returns-in-Reloc
returns-in-Reloc g c =
    let block = c.args.block in
    let items = c.in-Reloc.groups in
    let at = subst (λ (b : BodyView). HasListAt (block.place + 4) b) c.in-Reloc.is c.into_body.ensures.place in
    let are = ap (λ (n : ℕ). item_rows group_row group_text n items.value) at ∙ ap (items_rows (block.place + 4)) (sym (ap viewed c.in-Reloc.is) ∙ c.into_body.ensures.value) in
    block_taken g.T.Takes.takes g.met.T.Takes.more _ _ _ block c.block_row.result (item_rows group_row group_text items.place items.value) c.block_row.ensures are c.take.ensures c.list_groups.ensures

pub returns-in-Symbol : goal.returns-in-Symbol
returns-in-Symbol g c =
    let block = c.args.block in
    let items = c.in-Symbol.symbols in
    let at = subst (λ (b : BodyView). HasListAt (block.place + 4) b) c.in-Symbol.is c.into_body.ensures.place in
    let are = ap (λ (n : ℕ). item_rows symbol_row symbol_text n items.value) at ∙ ap (items_rows (block.place + 4)) (sym (ap viewed c.in-Symbol.is) ∙ c.into_body.ensures.value) in
    block_taken g.T.Takes.takes g.met.T.Takes.more _ _ _ block c.block_row.result (item_rows symbol_row symbol_text items.place items.value) c.block_row.ensures are c.take.ensures c.list_symbols.ensures

pub returns-in-Ext : goal.returns-in-Ext
returns-in-Ext g c =
    let block = c.args.block in
    let items = c.in-Ext.entries in
    let at = subst (λ (b : BodyView). HasListAt (block.place + 4) b) c.in-Ext.is c.into_body.ensures.place in
    let are = ap (λ (n : ℕ). item_rows entry_row ext_text n items.value) at ∙ ap (items_rows (block.place + 4)) (sym (ap viewed c.in-Ext.is) ∙ c.into_body.ensures.value) in
    block_taken g.T.Takes.takes g.met.T.Takes.more _ _ _ block c.block_row.result (item_rows entry_row ext_text items.place items.value) c.block_row.ensures are c.take.ensures c.list_entries.ensures
