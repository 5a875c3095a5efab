use Rattle.std.proofs.Common.{List, Some, ap, subst}
use Rattle.std.specs.List.{flat_map}
use Rattle.hunk_files.specs.{FileView.file_of, ItemViews.GivesItem, StandingBlocks.{StandingBlock, items_blocks}}
use Rattle.hunk_files.specs.declared.items.Item.{Item}
use Rattle.hunk_files.proofs.{findings.FindingSteps.taken_on, views.ItemBlocks.block_given}
use Rattle.hunk_c.specs.Rows.{rows_in}
use Rattle.hunk_c.proofs.rows.AnyFileRow.list_file.Goals as goal

pub listing-preserved-in-Block : goal.listing-preserved-in-Block
listing-preserved-in-Block g c =
    let rows = g.R.InBlock.in_block in
    let old = c.listing.item-iterator in
    let new = c.next.new.self in
    let b = c.in-Block in
    let first = block_given old new b.unit b.hunk b.view (subst (λ (item : Item). GivesItem old (Some item) new) b.is c.in-Some.ensures.steps) in
    taken_on g.T.Takes.takes g.met.T.Takes.more _ _ _ (rows (record { unit = b.unit; hunk = b.hunk; block = b.view })) (flat_map rows (items_blocks new.place new.value))
    (flat_map rows (items_blocks old.place old.value)) (rows_in rows (file_of c.args.file.now)) (ap (λ (bs : List StandingBlock). flat_map rows bs) first) c.listing.invariant c.list.ensures
