use Rattle.std.proofs.Common.{ℕ, List, [], ◌∷◌, ◌++◌, Some, ap, ap₂, subst, sym, ◌∙◌, arith}
use Rattle.hunk_blocks.specs.Placed.{Placed}
use Rattle.hunk_files.specs.{InPlace.GivesPart, ItemViews.GivesItem, Items.{ItemValue, UnitItem, item_text}}
use Rattle.hunk_files.specs.declared.hunk_file.HunkFile.TheVariants as files
use Rattle.hunk_files.specs.declared.items.Item.{Item}
use Rattle.hunk_files.proofs.findings.FindingSteps.{taken_on}
use Rattle.hunk_c.specs.Units.{items_units, open_rows, unit_row, units_in}
use Rattle.hunk_c.proofs.UnitRows.{AreAhead, hunks_ahead, units_ahead}
use Rattle.hunk_c.proofs.units.list_units.Goals as goal

pub listing-init : goal.listing-init
listing-init g c =
    let items = c.into_iter-item-iterator.ensures.into_iter_gives ∙ c.items-item-items.ensures.value in
    let ahead = units_ahead 0 c.args.file.now c.items-item-items.ensures.file.units c.items-item-items.ensures.size in (
      subst (λ (p : Placed (List ItemValue)). AreAhead p.value) (sym items) ahead.0,
      omega (arith, ap (λ (p : Placed (List ItemValue)). hunks_ahead p.value) items, ahead.1),
      omega arith,
      ([], g.met.T.Takes.none c.args.taker.now, ap (λ (p : Placed (List ItemValue)). items_units p.place p.value) items),
    )

pub listing-preserved-in-Unit : goal.listing-preserved-in-Unit
listing-preserved-in-Unit g c =
    let old = c.listing.item-iterator in
    let new = c.next.new.self in
    let unit = c.in-Unit.view in
    let gives : GivesPart item_text old (Some (record { place = unit.place; value = UnitItem c.in-Unit.number unit.value })) new = subst (λ (item : Item). GivesItem old (Some item) new) c.in-Unit.is c.in-Some.ensures.steps in
    let ahead : AreAhead (UnitItem c.in-Unit.number unit.value ∷ new.value) = subst (λ (p : Placed (List ItemValue)). AreAhead p.value) gives.0 c.listing.invariant.0 in
    let left = items_units new.place new.value in
    rw c.replace.ensures.after (
      ahead.2,
      omega (arith, ahead.0),
      ahead.1,
      taken_on g.T.Takes.takes g.met.T.Takes.more _ _ _ (open_rows c.replace.result) (unit_row unit.place unit.value ∷ left) (open_rows c.listing.current ++ items_units old.place old.value) (units_in (files.Object c.args.file.now))
          (
          ap₂ (λ rows items. open_rows rows ++ items) (sym c.replace.ensures.value) (ap (λ (p : Placed (List ItemValue)). items_units p.place p.value) gives.0 ∙ ap (λ (n : ℕ). unit_row unit.place unit.value ∷ items_units n new.value) (sym gives.1))
          )
          c.listing.invariant.3 c.take_unit.ensures,
    )
