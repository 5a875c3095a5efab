use Rattle.std.proofs.Common.{ap, sym, ◌∙◌}
use Rattle.hunk_blocks.specs.BodyViews.{viewed}
use Rattle.hunk_listing.proofs.BlockLaws.{entries_fit, offsets_fit, symbols_fit}
use Rattle.hunk_listing.proofs.block.print_block.Goals as goal

pub print_relocations-requires : goal.print_relocations-requires
print_relocations-requires g c =
    offsets_fit c.args.block.now.value c.in-Reloc.groups.value c.encoded_len-size.result
    (sym (ap viewed c.in-Reloc.is) ∙ c.body.ensures.value) c.encoded_len-size.ensures.value c.encoded_len-size.type_inv

pub print_entries-requires : goal.print_entries-requires
print_entries-requires g c =
    entries_fit c.args.block.now.value c.in-Ext.entries.value c.encoded_len-size.result
    (sym (ap viewed c.in-Ext.is) ∙ c.body.ensures.value) c.encoded_len-size.ensures.value c.encoded_len-size.type_inv

pub print_symbols-requires : goal.print_symbols-requires
print_symbols-requires g c =
    symbols_fit c.args.block.now.value c.in-Symbol.symbols.value c.encoded_len-size.result
    (sym (ap viewed c.in-Symbol.is) ∙ c.body.ensures.value) c.encoded_len-size.ensures.value c.encoded_len-size.type_inv
