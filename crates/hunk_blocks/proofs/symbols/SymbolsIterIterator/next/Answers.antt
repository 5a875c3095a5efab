use Rattle.std.proofs.Common.{List, length, ap, arith}
use Rattle.hunk_blocks.specs.{Cuts.Cut, Parts.symbol_text, Values.SymbolEntry, Views.symbol_of}
use Rattle.hunk_blocks.proofs.{CutLaws.{list_goes_on, symbols_are_cut}, ListReading.{first_given, item_first, item_less, none_given}}
use Rattle.hunk_blocks.proofs.symbols.SymbolsIterIterator.next.Goals as goal

pub returns-then-peek-eq0-clause-steps : goal.returns-then-peek-eq0-clause-steps
returns-then-peek-eq0-clause-steps c = none_given symbols_are_cut symbol_of c.self.inside.reader c.args.self.now c.self.view_is c.self.invariant.0 c.peek.result _ c.peek.ensures c.if-peek-eq0.true

pub invariant_of-self : goal.invariant_of-self
invariant_of-self c =
    let f = item_first symbols_are_cut c.self.inside.reader c.peek.result _ c.self.invariant.0 c.peek.ensures c.if-peek-eq0.false c.read_symbol.new.reader (symbol_of c.read_symbol.result) c.read_symbol.ensures.read in (
      f.left,
      omega (arith, c.self.invariant.1, ap (λ (l : Cut (List SymbolEntry)). length l.value) f.first),
    )

pub overflow_sub-self : goal.overflow_sub-self
overflow_sub-self c =
    let on = list_goes_on symbols_are_cut c.self.inside.reader.rest c.self.invariant.0 c.peek.result _ c.peek.ensures c.if-peek-eq0.false in
    omega (arith, c.self.invariant.1, ap (λ (l : Cut (List SymbolEntry)). length l.value) on.list)

pub returns-clause-steps : goal.returns-clause-steps
returns-clause-steps c = first_given symbols_are_cut symbol_of c.self.inside.reader c.args.self.now c.self.view_is c.self.invariant.0 c.peek.result _ c.peek.ensures c.if-peek-eq0.false c.read_symbol.new.reader c.read_symbol.result c.read_symbol.ensures.read

pub returns-clause-goes : goal.returns-clause-goes
returns-clause-goes c = item_less symbol_of symbol_text _ (λ s. tt) c.args.self.now _ c.read_symbol.result (returns-clause-steps c)
