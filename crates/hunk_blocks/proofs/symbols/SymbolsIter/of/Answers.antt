use Rattle.std.proofs.Common.{ℕ, List, ◌∷◌, length, drop, ap, subst, sym, ◌∙◌, arith}
use Rattle.hunk_blocks.specs.{Cuts.{Cut, list_cut, symbol_cut}, Parts.symbol_text, Reading.{BeginsWithList, Unread}, Values.{IsSymbolEntry, SymbolEntry}, Views.symbol_of}
use Rattle.hunk_blocks.proofs.{CutLaws.{list_cut_ends, symbols_are_cut}, ListReading.{item_first, item_passed, list_passed}}
use Rattle.hunk_blocks.proofs.symbols.SymbolsIter.of.Goals as goal

pub passing-preserved : goal.passing-preserved
passing-preserved c =
    let passes = c.passing.invariant.0 in
    let f = item_first symbols_are_cut c.passing.reader c.peek.result _ passes.left c.peek.ensures c.passing-test.true c.read_symbol.new.reader (symbol_of c.read_symbol.result) c.read_symbol.ensures.read in (
      item_passed symbols_are_cut c.args.reader.now c.passing.reader c.read_symbol.new.reader c.peek.result _ (symbol_of c.read_symbol.result) passes c.peek.ensures c.passing-test.true c.read_symbol.ensures.read,
      omega (arith, c.passing.invariant.1, ap (λ (l : Cut (List SymbolEntry)). length l.value) f.first),
      omega (arith, c.passing.invariant.2, f.place),
    )

pub returns-clause-read : goal.returns-clause-read
returns-clause-read c =
    list_passed symbols_are_cut c.args.reader.now c.passing.reader c.long.new.self c.peek.result _ c.passing.invariant.0 c.peek.ensures c.passing-test.false c.long.result c.long.ensures c.again-start.result c.again-start.ensures

pub passing-smaller : goal.passing-smaller
passing-smaller c =
    (item_first symbols_are_cut c.passing.reader c.peek.result _ c.passing.invariant.0.left c.peek.ensures c.passing-test.true c.read_symbol.new.reader (symbol_of c.read_symbol.result) c.read_symbol.ensures.read).fewer

pub overflow_add-count : goal.overflow_add-count
overflow_add-count c = omega (arith, c.passing.invariant.2, c.read_symbol.ensures.bound)

pub invariant_of-result : goal.invariant_of-result
invariant_of-result c =
    let size : Cut (List SymbolEntry) → ℕ = λ l. length l.value in
    let none = list_cut_ends symbols_are_cut c.passing.reader.rest _ (c.peek.ensures ∙ ap (λ (w : ℕ). w ∷ drop 1 c.passing.reader.rest) c.passing-test.false) in (
      subst (λ (u : Unread). BeginsWithList IsSymbolEntry symbol_text u.rest) (sym c.again-start.ensures) c.requires,
      omega (arith, c.passing.invariant.1, ap size none, ap (λ (u : Unread). size (list_cut symbol_cut u.rest)) c.again-start.ensures),
    )
