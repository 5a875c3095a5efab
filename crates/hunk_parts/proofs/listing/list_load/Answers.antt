use Rattle.std.proofs.Common.{◌*◌, List, [], ◌∷◌, length, map, take, drop, sym, ap, subst, ◌∙◌, refl}
use Rattle.hunk_blocks.specs.Placed.{Placed}
use Rattle.hunk_files.specs.Items.{ItemValue}
use Rattle.hunk_files.specs.LoadFile.{TableEntry}
use Rattle.hunk_files.specs.LoadText.{table}
use Rattle.hunk_files.specs.Tables.{header_text}
use Rattle.hunk_files.proofs.findings.FindingSteps.{TakenUpTo}
use Rattle.hunk_parts.specs.PartRows.{hunk_row, load_rows}
use Rattle.hunk_parts.specs.declared.part_row.PartRow.{PartRow}
use Rattle.hunk_parts.proofs.ItemsLeft.{item_taken, load_left, rows_left}
use Rattle.hunk_parts.proofs.listing.list_load.Goals as goal

pub listing-init : goal.listing-init
listing-init g c =
    let v = c.args.file.now in
    let items = c.into_iter-item-iterator.result in (
      [],
      g.met.T.Takes.none c.args.taker.now,
      ap (λ (t : List TableEntry). rows_left t items.place items.value) c.table-table.ensures.value
          ∙ ap (λ (p : Placed (List ItemValue)). rows_left (table v) p.place p.value) (c.into_iter-item-iterator.ensures.into_iter_gives ∙ c.items-item-items.ensures)
          ∙ load_left (4 * length (header_text v)) 0 v,
    )

pub listing-preserved-in-Unit : goal.listing-preserved-in-Unit
listing-preserved-in-Unit g c =
    item_taken g.T.Takes.takes g.met.T.Takes.more _ _ _ c.listing.table c.listing.item-iterator c.next.new.self _ _ _ _ c.in-Unit.is c.in-Some.ensures.steps
    (ap (λ (r : PartRow). r ∷ []) c.unit_row.ensures) c.listing.invariant c.take.ensures

pub listing-preserved-in-Some-next : goal.listing-preserved-in-Some-next
listing-preserved-in-Some-next g c =
    let table = c.listing.table in
    let new = c.next.new.self in
    let step = c.in-Some-next.ensures.steps in
    subst (λ (t : List TableEntry). TakenUpTo g.T.Takes.takes c.args.taker.now c.take-in-Some-next.new.self (rows_left t new.place new.value) (load_rows c.args.file.now))
    (ap (λ (t : List TableEntry). drop 1 t) step)
    (item_taken g.T.Takes.takes g.met.T.Takes.more _ _ _ table c.listing.item-iterator new _ _ _ _ c.in-Hunk.is c.in-Some.ensures.steps
    (ap (λ (r : PartRow). r ∷ []) c.hunk_row.ensures ∙ sym (ap (λ (t : List TableEntry). map hunk_row (take 1 t)) step)) c.listing.invariant c.take-in-Some-next.ensures)

pub listing-preserved : goal.listing-preserved
listing-preserved g c =
    item_taken g.T.Takes.takes g.met.T.Takes.more _ _ _ c.listing.table c.listing.item-iterator c.next.new.self _ _ _ _ c.in-Block.is c.in-Some.ensures.steps
    refl c.listing.invariant c.list_block.ensures
