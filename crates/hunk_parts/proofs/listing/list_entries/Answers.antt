use Rattle.std.proofs.Common.{ℕ, ap, ◌∙◌}
use Rattle.hunk_blocks.specs.{Parts.ext_text, Views.entry_of}
use Rattle.hunk_files.proofs.findings.OffsetsWithin.{first_is}
use Rattle.hunk_parts.specs.PartRows.{entry_row}
use Rattle.hunk_parts.proofs.InTurn.{item_taken}
use Rattle.hunk_parts.proofs.listing.list_entries.Goals as goal

pub entry_row-requires-clause-entry : goal.entry_row-requires-clause-entry
entry_row-requires-clause-entry g c = (first_is _ _ (entry_of c.in-Some.entry) c.in-Some.ensures.steps.0 c.listing.invariant.1).0

pub listing-preserved : goal.listing-preserved
listing-preserved g c =
    let entry = entry_of c.in-Some.entry in
    let is = c.entry_row.ensures ∙ ap (λ (n : ℕ). entry_row n entry) c.listing.invariant.0 in (
      c.place-after.ensures,
      (first_is _ _ entry c.in-Some.ensures.steps.0 c.listing.invariant.1).1,
      item_taken entry_of entry_row ext_text g.T.Takes.takes g.met.T.Takes.more _ _ _ _ _ c.args.entries c.in-Some.entry _ c.in-Some.ensures.steps is c.listing.invariant.2 c.take.ensures,
    )
