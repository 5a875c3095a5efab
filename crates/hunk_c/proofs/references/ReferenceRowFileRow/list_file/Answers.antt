use Rattle.std.proofs.Common.{◌+◌, Some, ap, subst}
use Rattle.hunk_files.specs.{FileView.file_of, ItemViews.GivesItem, StandingBlocks.items_blocks}
use Rattle.hunk_files.specs.declared.items.Item.{Item}
use Rattle.hunk_files.proofs.{findings.FindingSteps.taken_on, views.ItemBlocks.block_given}
use Rattle.hunk_c.specs.References.{blocks_references, body_entries, body_references, references_in}
use Rattle.hunk_c.proofs.references.ReferenceRowFileRow.list_file.Goals as goal

pub listing-preserved-in-Block : goal.listing-preserved-in-Block
listing-preserved-in-Block g c =
    let old = c.listing.item-iterator in
    let new = c.next.new.self in
    let b = c.in-Block in
    let body = b.view.value.body in
    let n = c.listing.invariant.0 in
    let is = c.listing.invariant.1 in
    let first = block_given old new b.unit b.hunk b.view (subst (λ (item : Item). GivesItem old (Some item) new) b.is c.in-Some.ensures.steps) in (
      n + body_entries body,
      c.list_block-number.ensures.next n is,
      taken_on g.T.Takes.takes g.met.T.Takes.more _ _ _ (body_references n b.view.place body) (blocks_references (n + body_entries body) (items_blocks new.place new.value))
          (blocks_references n (items_blocks old.place old.value)) (references_in (file_of c.args.file.now)) (ap (blocks_references n) first) c.listing.invariant.2 (c.list_block-number.ensures.taken n is),
    )
