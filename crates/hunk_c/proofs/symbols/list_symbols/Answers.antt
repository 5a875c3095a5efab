use Rattle.std.proofs.Common.{ℕ, ap, ◌∙◌}
use Rattle.hunk_blocks.specs.{Parts.symbol_text, Views.symbol_of}
use Rattle.hunk_c.specs.Symbols.{symbol_row}
use Rattle.hunk_parts.proofs.InTurn.{item_taken}
use Rattle.hunk_c.proofs.symbols.list_symbols.Goals as goal

pub listing-preserved : goal.listing-preserved
listing-preserved g c =
    let row = symbol_row c.args.unit c.args.hunk in
    let is = c.symbol_row.ensures ∙ ap (λ (n : ℕ). row n (symbol_of c.in-Some.symbol)) c.listing.invariant.0 in
    (c.place-after.ensures, item_taken symbol_of row symbol_text g.T.Takes.takes g.met.T.Takes.more _ _ _ _ _ c.args.symbols c.in-Some.symbol _ c.in-Some.ensures.steps is c.listing.invariant.1 c.take.ensures)
