use Rattle.std.proofs.Common.{ℕ, ap, ◌∙◌}
use Rattle.hunk_blocks.specs.{Parts.group_text, Views.group_of}
use Rattle.hunk_parts.specs.PartRows.{group_row}
use Rattle.hunk_parts.proofs.InTurn.{item_taken}
use Rattle.hunk_parts.proofs.listing.list_groups.Goals as goal

pub listing-preserved : goal.listing-preserved
listing-preserved g c =
    let is = c.group_row.ensures ∙ ap (λ (n : ℕ). group_row n (group_of c.in-Some.group)) c.listing.invariant.0 in
    (c.place-after.ensures, item_taken group_of group_row group_text g.T.Takes.takes g.met.T.Takes.more _ _ _ _ _ c.args.groups c.in-Some.group _ c.in-Some.ensures.steps is c.listing.invariant.1 c.take.ensures)
