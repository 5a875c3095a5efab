use Rattle.std.proofs.Common.{ℕ, ap, ◌∙◌}
use Rattle.hunk_blocks.specs.{Parts.ext_text, Views.entry_of}
use Rattle.hunk_c.specs.Entries.{entry_row}
use Rattle.hunk_parts.proofs.InTurn.{item_taken}
use Rattle.hunk_c.proofs.entries.list_entries.Goals as goal

pub listing-preserved : goal.listing-preserved
listing-preserved g c =
    let row = entry_row c.args.unit c.args.hunk in
    let is = c.entry_row.ensures ∙ ap (λ (n : ℕ). row n (entry_of c.in-Some.entry)) c.listing.invariant.0 in
    (c.place-after.ensures, item_taken entry_of row ext_text g.T.Takes.takes g.met.T.Takes.more _ _ _ _ _ c.args.entries c.in-Some.entry _ c.in-Some.ensures.steps is c.listing.invariant.1 c.take.ensures)
