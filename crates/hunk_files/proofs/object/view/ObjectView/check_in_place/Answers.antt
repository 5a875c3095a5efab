use Rattle.std.proofs.Common.{◌≡◌, rules, Option, None, ℕ, refl, sym, ap₂, List, [], length, Some, ap, subst, arith, ◌∙◌}
use Rattle.std.proofs.lemmas.List.{length-map}
use Rattle.hunk_blocks.specs.{Placed.Placed, Values.{BlockBody, RelocGroup, Reloc}}
use Rattle.hunk_files.specs.{Findings.{FindingValue, HunkContext}, InPlace.GivesPart, Items.{ItemValue, BlockItem, item_text}, ObjectFile.UnitValue, ItemViews.{GivesItem, item_seen}}
use Rattle.hunk_files.specs.{PlacedFindings.{PlacedFinding, block_findings_at, body_findings_at, placed_findings}, declared.items.Item.Item}
use Rattle.hunk_files.proofs.{findings.FindingCounts.findings_few, findings.FindingSteps.taken_on}
use Rattle.hunk_files.proofs.findings.PlacedFindingLaws.{findings_placed, item_given, items_findings_at, items_found}
use Rattle.hunk_files.proofs.cuts.UnitCounts.{begins_unit, fewer_units, units_counted, units_left}
use Rattle.hunk_files.proofs.object.view.ObjectView.check_in_place.Goals as goal
use Rattle.hunk_files.proofs.object.view.ObjectView.check_in_place.Goals.{in-Reloc+in-Some-take, in_default, in_default-via-in-Name-1, in_default-via-in-Reloc+in-None-1}
use Rattle.hunk_files.proofs.object.view.ObjectView.check_in_place.Invariants.{counted}

pub checking-init : goal.checking-init
checking-init g c =
    let items = c.into_iter-item-iterator.ensures.into_iter_gives ∙ c.items-item-items.ensures.value in
    let spot : HunkContext = record { unit = 0; hunk = 0; hunks = 0; bytes = 0 } in (
      tt,
      tt,
      omega (arith, ap (λ (p : Placed (List ItemValue)). units_left p.value) items, units_counted 0 c.args.self.now),
      ([], g.met.T.Takes.none c.args.taker.now, ap (λ (p : Placed (List ItemValue)). items_findings_at spot p.place p.value) items ∙ items_found spot c.args.self.now),
    )

pub overflow_add-units : goal.overflow_add-units
overflow_add-units g c =
    omega (
      arith,
      c.checking.invariant.2,
      ap (λ (p : Placed (List ItemValue)). units_left p.value) c.in-Some.ensures.steps.0,
      ap (λ item. begins_unit (item_seen item).value) c.in-Unit.is,
      c.items-item-items.ensures.size,
      fewer_units c.args.self.now,
    )

-- but for relocations, what is wrong does not depend on how many hunks the unit has
same_uncounted : (s : HunkContext) (u : Option (Placed UnitValue)) (place word : ℕ) (body : BlockBody) → ((groups : List RelocGroup) → body ≡ Reloc groups → ⊥) → body_findings_at s place word body ≡ body_findings_at (counted s u) place word body
same_uncounted s None place word body other = refl
same_uncounted s (Some u) place word (Reloc groups) other = absurd (other groups refl)
same_uncounted s (Some u) place word _ other = refl

-- a block's findings are taken
pub checking-preserved : goal.checking-preserved
checking-preserved g c =
    let old = c.checking.item-iterator in
    let new = c.next.new.self in
    let block = c.in-Block.view in
    let gives : GivesPart item_text old (Some (record { place = block.place; value = BlockItem c.in-Block.unit c.in-Block.hunk block.value })) new = subst (λ (item : Item). GivesItem old (Some item) new) c.in-Block.is c.in-Some.ensures.steps in
    let spot = counted c.checking.spot c.checking.uncounted in
    let found : HunkContext → List PlacedFinding = λ s. block_findings_at s block.place block.value in
    let same : (counted c.match-body.spot c.match-body.uncounted ≡ spot) × (found c.match-body.spot ≡ found spot) = elim c.match-body.branch [
      | in-Reloc+in-Some-take w ↦
          let unit : Some w.in-Some-take.unit ≡ c.checking.uncounted = sym w.in-Some-take.is ∙ w.take.ensures.value in
          let now : c.match-body.spot ≡ spot = w.spot-is ∙ ap (λ (n : ℕ). record { unit = c.checking.spot.unit; hunk = c.checking.spot.hunk; hunks = n; bytes = c.checking.spot.bytes }) w.hunks.ensures ∙ ap (counted c.checking.spot) unit in
          (ap₂ counted now (w.uncounted-is ∙ w.take.ensures.after), ap found now)
      | in_default w ↦ elim w.in_default.branch [
        | in_default-via-in-Name-1 w' ↦
            let other : (groups : List RelocGroup) → block.value.body ≡ Reloc groups → ⊥ = search rules in
            (ap₂ counted w.spot-is (w.uncounted-is ∙ w'.uncounted-is), ap found w.spot-is ∙ same_uncounted c.checking.spot c.checking.uncounted block.place block.value.word block.value.body other)
        | in_default-via-in-Reloc+in-None-1 w' ↦
            let none : c.checking.uncounted ≡ None = search rules in
            let now : c.match-body.spot ≡ spot = w.spot-is ∙ ap (counted c.checking.spot) (sym none) in
            (ap₂ counted now (w.uncounted-is ∙ w'.uncounted-is ∙ w'.take.ensures.after), ap found now)
      ]
    ] in (
      tt,
      tt,
      omega (arith, c.checking.invariant.2, ap (λ (p : Placed (List ItemValue)). units_left p.value) gives.0),
      rw same.0
          (taken_on g.T.Takes.takes g.met.T.Takes.more _ _ _ (found spot) (items_findings_at spot new.place new.value) (items_findings_at spot old.place old.value) (placed_findings c.args.self.now)
          (item_given spot old new _ gives) c.checking.invariant.3 (subst (λ (fs : List PlacedFinding). g.T.Takes.takes c.checking.taker fs c.check_block.new.taker) same.1 c.check_block.ensures)),
    )

pub returns-clause-few : goal.returns-clause-few
returns-clause-few g c =
    omega (
      arith,
      c.items-item-items.ensures.size,
      findings_few c.args.self.now c.items-item-items.ensures.file,
      ap (λ (fs : List FindingValue). length fs) (findings_placed c.args.self.now),
      length-map {B = FindingValue} (placed_findings c.args.self.now) (λ f. f.value),
    )
