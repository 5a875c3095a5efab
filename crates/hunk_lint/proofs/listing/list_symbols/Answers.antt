use Rattle.hunk_blocks.specs.{Parts.symbol_text, Views.symbol_of}
use Rattle.hunk_lint.specs.{Known.seen, Warnings.symbol_warnings}
use Rattle.hunk_lint.proofs.InTurn.{item_listed}
use Rattle.hunk_lint.proofs.listing.list_symbols.Goals as goal

pub listing-preserved : goal.listing-preserved
listing-preserved g c = (
  c.place-after.ensures,
  item_listed g.T.Takes.takes g.met.T.Takes.more (symbol_warnings (seen c.args.hunk.now)) symbol_text _ _ _ _ symbol_of c.listing.symbols c.next.new.self c.in-Some.symbol c.listing.place
      c.in-Some.ensures.steps c.listing.invariant.0 c.listing.invariant.1 c.list_symbol.ensures,
)
