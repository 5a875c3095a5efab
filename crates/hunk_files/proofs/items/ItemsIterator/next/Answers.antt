use Rattle.std.proofs.Common.{◌≡◌, ◌+◌, ◌-◌, ℕ, Bool, false, List, length, take, drop, None, sym, ap, subst, ◌∙◌, arith}
use Rattle.hunk_words.specs.Longs.{longs}
use Rattle.hunk_blocks.specs.{Parts.block_text, Placed.Placed, Values.BlockValue}
use Rattle.hunk_files.specs.{InPlace.GivesPart, Items.{ItemValue, ItemsAt, end_of_blocks, item_text, items_at}}
use Rattle.hunk_files.specs.declared.items.Items.TheInside.{Inside}
use Rattle.hunk_files.proofs.views.ItemLaws.{after_header, after_hunk, gives_block, gives_hunk, gives_unit, hunk_here, none_left, none_open, open_ends, same_end, unit_here}
use Rattle.hunk_files.specs.{UnitCuts.ends_unit, Hunks.HunkAt, ObjectFile.ObjectHunk, ObjectViews.hunk_at}
use Rattle.hunk_files.proofs.{views.ObjectViewLaws.{hunk_at_is, tested}, views.PartsInTurn.part_less}
use Rattle.hunk_files.proofs.items.ItemsIterator.next.Goals as goal

-- what stands after the open hunk
left : (s : Inside) → ItemsAt s.bytes.now s.units s.hunks (end_of_blocks s.blocks) → (new : Placed (List BlockValue)) (at : ℕ) → GivesPart block_text s.blocks None new → at ≡ new.place → ItemsAt s.bytes.now s.units s.hunks at
left s is new at none here = subst (ItemsAt s.bytes.now s.units s.hunks) (open_ends s.blocks new at none here) is

-- the hunk that stands where the test says that no unit ends
module _ (s : Inside) (is : ItemsAt s.bytes.now s.units s.hunks (end_of_blocks s.blocks)) (new : Placed (List BlockValue)) (at : ℕ) (none : GivesPart block_text s.blocks None new) (same : at ≡ new.place)
    (ends : Bool) (test : ends ≡ ends_unit (longs (take (length s.bytes.now - at) (drop at s.bytes.now)))) (goes_on : ends ≡ false) where
  here : HunkAt s.bytes.now at
  here = hunk_here s.bytes.now at s.units s.hunks (left s is new at none same) (tested s.bytes.now at ends test goes_on)

  module _ (view blocks : Placed ObjectHunk) (view_is : view ≡ hunk_at s.bytes.now at) (blocks_are : (hunk : HunkAt s.bytes.now at) → blocks ≡ record { place = at; value = hunk.blocks }) where
    -- its blocks are those that its view has
    seen : blocks ≡ view
    seen = blocks_are here ∙ ap (λ (bs : ObjectHunk). record { place = at; value = bs }) (sym (hunk_at_is s.bytes.now at here)) ∙ sym view_is

    later : ItemsAt s.bytes.now s.units (s.hunks + 1) (end_of_blocks blocks)
    later = after_hunk s.bytes.now at s.units s.hunks (left s is new at none same) (tested s.bytes.now at ends test goes_on) view blocks view_is seen

pub invariant_of-self : goal.invariant_of-self
invariant_of-self c =
    let s = c.self.inside in
    subst (ItemsAt s.bytes.now s.units s.hunks) (same_end s.blocks c.next.new.self c.in-Some.view c.in-Some.ensures.steps) c.self.invariant

pub returns-in-Some-clause-steps : goal.returns-in-Some-clause-steps
returns-in-Some-clause-steps c =
    let s = c.self.inside in
    let gives = gives_block s.blocks c.next.new.self c.in-Some.view c.in-Some.ensures.steps s.bytes.now s.unit s.hunk s.units s.hunks in
    (sym c.self.view_is ∙ gives.0, gives.1)

pub returns-in-Some-clause-goes : goal.returns-in-Some-clause-goes
returns-in-Some-clause-goes c =
    let less = part_less item_text _ (λ s. tt) c.args.self.now _ _ (returns-in-Some-clause-steps c) in
    record { on = λ h. less.on h; keeps = less.keeps; rests = λ h. tt }

pub at-view-requires : goal.at-view-requires
at-view-requires c = here c.self.inside c.self.invariant c.next.new.self c.place-at.result c.in_default.ensures.steps c.place-at.ensures c.ends_unit.result c.ends_unit.ensures c.if-not-ends_unit.true

pub at-self-inside-requires : goal.at-self-inside-requires
at-self-inside-requires c = here c.self.inside c.self.invariant c.next.new.self c.place-at.result c.in_default.ensures.steps c.place-at.ensures c.ends_unit.result c.ends_unit.ensures c.if-not-ends_unit.true

pub invariant_of-self-then-not-ends_unit : goal.invariant_of-self-then-not-ends_unit
invariant_of-self-then-not-ends_unit c =
    later c.self.inside c.self.invariant c.next.new.self c.place-at.result c.in_default.ensures.steps c.place-at.ensures c.ends_unit.result c.ends_unit.ensures c.if-not-ends_unit.true
    c.at-view.result c.at-self-inside.result c.at-view.ensures c.at-self-inside.ensures

pub returns-then-not-ends_unit-clause-steps : goal.returns-then-not-ends_unit-clause-steps
returns-then-not-ends_unit-clause-steps c =
    let s = c.self.inside in
    let gives =
    gives_hunk s.bytes.now c.place-at.result s.units s.hunks (left s c.self.invariant c.next.new.self c.place-at.result c.in_default.ensures.steps c.place-at.ensures)
    (tested s.bytes.now c.place-at.result c.ends_unit.result c.ends_unit.ensures c.if-not-ends_unit.true) c.at-view.result c.at-self-inside.result c.at-view.ensures
    (seen c.self.inside c.self.invariant c.next.new.self c.place-at.result c.in_default.ensures.steps c.place-at.ensures c.ends_unit.result c.ends_unit.ensures c.if-not-ends_unit.true
    c.at-view.result c.at-self-inside.result c.at-view.ensures c.at-self-inside.ensures) s.unit in
    (sym c.self.view_is ∙ none_open s.blocks c.next.new.self c.place-at.result c.in_default.ensures.steps c.place-at.ensures s.bytes.now s.unit s.hunk s.units s.hunks ∙ gives.0, gives.1)

pub returns-then-not-ends_unit-clause-goes : goal.returns-then-not-ends_unit-clause-goes
returns-then-not-ends_unit-clause-goes c =
    let less = part_less item_text _ (λ s. tt) c.args.self.now _ _ (returns-then-not-ends_unit-clause-steps c) in
    record { on = λ h. less.on h; keeps = less.keeps; rests = λ h. tt }

pub returns-then-at-bytes-clause-steps : goal.returns-then-at-bytes-clause-steps
returns-then-at-bytes-clause-steps c =
    let s = c.self.inside in
    let before = none_open s.blocks c.next.new.self c.place-at.result c.in_default.ensures.steps c.place-at.ensures s.bytes.now s.unit s.hunk s.units s.hunks in
    let none =
    none_left s.bytes.now c.place-at.result s.units s.hunks (left s c.self.invariant c.next.new.self c.place-at.result c.in_default.ensures.steps c.place-at.ensures)
    (tested s.bytes.now c.place-at.result c.ends_unit.result c.ends_unit.ensures c.if-not-ends_unit.false) c.if-at-bytes.true s.unit in
    (ap (λ (p : Placed (List ItemValue)). p.value) (sym c.self.view_is ∙ before) ∙ none, ap (items_at s.bytes.now s.unit s.hunk s.units s.hunks) c.in_default.ensures.steps.1 ∙ c.self.view_is)

pub read_header-hunks-requires : goal.read_header-hunks-requires
read_header-hunks-requires c =
    unit_here c.self.inside.bytes.now c.place-at.result c.self.inside.units c.self.inside.hunks (left c.self.inside c.self.invariant c.next.new.self c.place-at.result c.in_default.ensures.steps c.place-at.ensures)
    (tested c.self.inside.bytes.now c.place-at.result c.ends_unit.result c.ends_unit.ensures c.if-not-ends_unit.false) c.if-at-bytes.false

pub at-requires : goal.at-requires
at-requires c =
    unit_here c.self.inside.bytes.now c.place-at.result c.self.inside.units c.self.inside.hunks (left c.self.inside c.self.invariant c.next.new.self c.place-at.result c.in_default.ensures.steps c.place-at.ensures)
    (tested c.self.inside.bytes.now c.place-at.result c.ends_unit.result c.ends_unit.ensures c.if-not-ends_unit.false) c.if-at-bytes.false

pub invariant_of-self-2 : goal.invariant_of-self-2
invariant_of-self-2 c =
    let s = c.self.inside in
    let header =
    after_header s.bytes.now c.place-at.result s.units s.hunks (left s c.self.invariant c.next.new.self c.place-at.result c.in_default.ensures.steps c.place-at.ensures)
    (tested s.bytes.now c.place-at.result c.ends_unit.result c.ends_unit.ensures c.if-not-ends_unit.false) c.if-at-bytes.false (longs c.read_header-hunks.result.0) c.read_header-hunks.result.1 c.read_header-hunks.ensures in
    let none = c.none-self-inside.ensures in
    let end : end_of_blocks c.none-self-inside.result ≡ c.read_header-hunks.result.1 = omega (arith, ap end_of_blocks none) in
    subst (ItemsAt s.bytes.now (s.units + 1) 0) (sym end) header

pub returns-clause-steps : goal.returns-clause-steps
returns-clause-steps c =
    let s = c.self.inside in
    let gives =
    gives_unit s.bytes.now c.place-at.result s.units s.hunks (left s c.self.invariant c.next.new.self c.place-at.result c.in_default.ensures.steps c.place-at.ensures)
    (tested s.bytes.now c.place-at.result c.ends_unit.result c.ends_unit.ensures c.if-not-ends_unit.false) c.if-at-bytes.false (longs c.read_header-hunks.result.0) c.read_header-hunks.result.1 c.read_header-hunks.ensures
    s.unit s.hunk c.none-self-inside.result c.at.result c.none-self-inside.ensures c.at.ensures in
    (sym c.self.view_is ∙ none_open s.blocks c.next.new.self c.place-at.result c.in_default.ensures.steps c.place-at.ensures s.bytes.now s.unit s.hunk s.units s.hunks ∙ gives.0, gives.1)

pub returns-clause-goes : goal.returns-clause-goes
returns-clause-goes c =
    let less = part_less item_text _ (λ s. tt) c.args.self.now _ _ (returns-clause-steps c) in
    record { on = λ h. less.on h; keeps = less.keeps; rests = λ h. tt }
