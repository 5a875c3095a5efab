use Rattle.std.proofs.Common.{◌+◌, ap, arith, sym, ◌∙◌}
use Rattle.hunk_words.specs.{Bits.{has_both_bits, kind}, Longs.longs}
use Rattle.hunk_words.specs.declared.block_word.Kind.TheVariants as kinds
use Rattle.hunk_words.proofs.LongLaws.{length-longs}
use Rattle.hunk_grammar.specs.declared.phase.Phase.TheVariants as phases
use Rattle.hunk_files.proofs.object_walk.PassedUnits.{block_over, bss_stands, code_stands, content_ends, counted_ends, data_stands, debug_stands, end_over, ext_stands, if_some, name_ends, name_stands, relocates, symbol_stands, symbols_end}
use Rattle.hunk_files.proofs.object.passing.pass_block.Goals as goal

pub returns-in-End-clause-passes : goal.returns-in-End-clause-passes
returns-in-End-clause-passes c =
    let p = c.args.place.now in
    end_over (longs c.args.bytes.now) p c.pass.new.self c.word_at-word.result c.pass.result (omega (arith, c.if-place-bytes.false, length-longs c.args.bytes.now)) c.word_at-word.ensures
    (ap has_both_bits (sym c.of-block.ensures) ∙ sym c.has_both_memory_bits.ensures ∙ c.if-has_both_memory_bits.false) (ap kind (sym c.of-block.ensures) ∙ sym c.kind.ensures ∙ c.in-End.is) c.pass.ensures.passes

pub returns-in-Code-clause-passes : goal.returns-in-Code-clause-passes
returns-in-Code-clause-passes c =
    let ws = longs c.args.bytes.now in
    let p = c.args.place.now in
    block_over ws p c.pass-in-Code.new.self c.word_at-word.result kinds.Code kinds.Code phases.ContentSize _ c.pass-in-Code.result (omega (arith, c.if-place-bytes.false, length-longs c.args.bytes.now)) c.word_at-word.ensures
    (ap has_both_bits (sym c.of-block.ensures) ∙ sym c.has_both_memory_bits.ensures ∙ c.if-has_both_memory_bits.false) (ap kind (sym c.of-block.ensures) ∙ sym c.kind.ensures ∙ c.in-Code.is) code_stands c.pass-in-Code.ensures.passes
    (if_some (content_ends ws _ (p.at + 1)) _ c.after_content.ensures)

pub returns-in-Data-clause-passes : goal.returns-in-Data-clause-passes
returns-in-Data-clause-passes c =
    let ws = longs c.args.bytes.now in
    let p = c.args.place.now in
    block_over ws p c.pass-in-Data.new.self c.word_at-word.result kinds.Data kinds.Data phases.ContentSize _ c.pass-in-Data.result (omega (arith, c.if-place-bytes.false, length-longs c.args.bytes.now)) c.word_at-word.ensures
    (ap has_both_bits (sym c.of-block.ensures) ∙ sym c.has_both_memory_bits.ensures ∙ c.if-has_both_memory_bits.false) (ap kind (sym c.of-block.ensures) ∙ sym c.kind.ensures ∙ c.in-Data.is) data_stands c.pass-in-Data.ensures.passes
    (if_some (content_ends ws _ (p.at + 1)) _ c.after_content-in-Data.ensures)

pub returns-in-Bss-clause-passes : goal.returns-in-Bss-clause-passes
returns-in-Bss-clause-passes c =
    let ws = longs c.args.bytes.now in
    let p = c.args.place.now in
    block_over ws p c.pass-in-Bss.new.self c.word_at-word.result kinds.Bss kinds.Bss phases.BssSize _ c.pass-in-Bss.result (omega (arith, c.if-place-bytes.false, length-longs c.args.bytes.now)) c.word_at-word.ensures
    (ap has_both_bits (sym c.of-block.ensures) ∙ sym c.has_both_memory_bits.ensures ∙ c.if-has_both_memory_bits.false) (ap kind (sym c.of-block.ensures) ∙ sym c.kind.ensures ∙ c.in-Bss.is) bss_stands c.pass-in-Bss.ensures.passes
    c.after_size.ensures

pub returns-in-Ext-clause-passes : goal.returns-in-Ext-clause-passes
returns-in-Ext-clause-passes c =
    let ws = longs c.args.bytes.now in
    let p = c.args.place.now in
    block_over ws p c.pass-in-Ext.new.self c.word_at-word.result kinds.Ext kinds.Ext phases.ExtWord _ c.pass-in-Ext.result (omega (arith, c.if-place-bytes.false, length-longs c.args.bytes.now)) c.word_at-word.ensures
    (ap has_both_bits (sym c.of-block.ensures) ∙ sym c.has_both_memory_bits.ensures ∙ c.if-has_both_memory_bits.false) (ap kind (sym c.of-block.ensures) ∙ sym c.kind.ensures ∙ c.in-Ext.is) ext_stands c.pass-in-Ext.ensures.passes
    c.after_entries.ensures

pub returns-in-Name-clause-passes : goal.returns-in-Name-clause-passes
returns-in-Name-clause-passes c =
    let ws = longs c.args.bytes.now in
    let p = c.args.place.now in
    block_over ws p c.pass-in-Name.new.self c.word_at-word.result kinds.Name kinds.Name phases.NameCount _ c.pass-in-Name.result (omega (arith, c.if-place-bytes.false, length-longs c.args.bytes.now)) c.word_at-word.ensures
    (ap has_both_bits (sym c.of-block.ensures) ∙ sym c.has_both_memory_bits.ensures ∙ c.if-has_both_memory_bits.false) (ap kind (sym c.of-block.ensures) ∙ sym c.kind.ensures ∙ c.in-Name.is) name_stands c.pass-in-Name.ensures.passes
    (if_some (name_ends ws (p.at + 1)) _ c.after_name.ensures)

pub returns-in-Symbol-clause-passes : goal.returns-in-Symbol-clause-passes
returns-in-Symbol-clause-passes c =
    let ws = longs c.args.bytes.now in
    let p = c.args.place.now in
    block_over ws p c.pass-in-Symbol.new.self c.word_at-word.result kinds.Symbol kinds.Symbol phases.EntryWord _ c.pass-in-Symbol.result (omega (arith, c.if-place-bytes.false, length-longs c.args.bytes.now)) c.word_at-word.ensures
    (ap has_both_bits (sym c.of-block.ensures) ∙ sym c.has_both_memory_bits.ensures ∙ c.if-has_both_memory_bits.false) (ap kind (sym c.of-block.ensures) ∙ sym c.kind.ensures ∙ c.in-Symbol.is) symbol_stands c.pass-in-Symbol.ensures.passes
    (if_some (symbols_end ws (p.at + 1)) _ c.after_symbols.ensures)

pub returns-in-Debug-clause-passes : goal.returns-in-Debug-clause-passes
returns-in-Debug-clause-passes c =
    let ws = longs c.args.bytes.now in
    let p = c.args.place.now in
    block_over ws p c.pass-in-Debug.new.self c.word_at-word.result kinds.Debug kinds.Debug phases.LongCount _ c.pass-in-Debug.result (omega (arith, c.if-place-bytes.false, length-longs c.args.bytes.now)) c.word_at-word.ensures
    (ap has_both_bits (sym c.of-block.ensures) ∙ sym c.has_both_memory_bits.ensures ∙ c.if-has_both_memory_bits.false) (ap kind (sym c.of-block.ensures) ∙ sym c.kind.ensures ∙ c.in-Debug.is) debug_stands c.pass-in-Debug.ensures.passes
    (if_some (counted_ends ws (p.at + 1)) _ c.after_counted.ensures)

pub returns-in_default-clause-passes : goal.returns-in_default-clause-passes
returns-in_default-clause-passes c =
    let ws = longs c.args.bytes.now in
    let p = c.args.place.now in
    block_over ws p c.pass-in_default.new.self c.word_at-word.result c.kind.result kinds.Reloc32 phases.GroupCount _ c.pass-in_default.result (omega (arith, c.if-place-bytes.false, length-longs c.args.bytes.now)) c.word_at-word.ensures
    (ap has_both_bits (sym c.of-block.ensures) ∙ sym c.has_both_memory_bits.ensures ∙ c.if-has_both_memory_bits.false) (ap kind (sym c.of-block.ensures) ∙ sym c.kind.ensures) (relocates c.kind.result (sym c.is_relocation.ensures ∙ c.if-is_relocation.true)) c.pass-in_default.ensures.passes
    c.after_groups.ensures
