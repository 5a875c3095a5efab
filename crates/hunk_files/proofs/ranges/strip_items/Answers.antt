use Rattle.std.proofs.Common.{ℕ, [], slice_range, refl, ap, subst, sym, ◌∙◌, arith}
use Rattle.hunk_blocks.specs.Placed.{Placed}
use Rattle.hunk_files.specs.ItemViews.{item_seen}
use Rattle.hunk_files.proofs.strip.RangeLaws.{ItemsStripped, all_items, item_goes, item_stays, next, whole_text}
use Rattle.hunk_files.proofs.ranges.strip_items.Goals as goal

pub stripping-init : goal.stripping-init
stripping-init g c = record { taken = []; took = g.met.T.TakesBytes.none c.args.taker.now; ordered = omega arith; stand = c.requires; split = refl }

pub hand_over-requires-clause-inside : goal.hand_over-requires-clause-inside
hand_over-requires-clause-inside g c =
    omega (
      arith,
      c.place.ensures,
      (next g.T.TakesBytes.takes g.met.T.TakesBytes.more c.args.taker.now c.args.bytes.now _ c.stripping.taker c.stripping.from c.stripping.items (item_seen c.in-Some.item) c.next.new.self c.stripping.invariant
          c.in-Some.ensures.steps).stand.inside,
    )

pub stripping-preserved-then-not-stays : goal.stripping-preserved-then-not-stays
stripping-preserved-then-not-stays g c =
    let takes = g.T.TakesBytes.takes in
    let bytes = c.args.bytes.now in
    let took = subst (λ (n : ℕ). takes c.stripping.taker (slice_range bytes c.stripping.from n) c.hand_over.new.taker) c.place.ensures c.hand_over.ensures in
    subst (λ (n : ℕ). ItemsStripped takes c.args.taker.now c.hand_over.new.taker bytes (whole_text bytes c.args.items) n c.next.new.self) (sym c.place-from.ensures)
    (item_goes takes g.met.T.TakesBytes.more c.args.taker.now bytes _ c.stripping.taker c.stripping.from c.stripping.items (item_seen c.in-Some.item) c.next.new.self c.stripping.invariant c.in-Some.ensures.steps
    (sym c.stays.ensures ∙ c.if-not-stays.true) c.hand_over.new.taker took)

pub stripping-preserved : goal.stripping-preserved
stripping-preserved g c =
    item_stays g.T.TakesBytes.takes g.met.T.TakesBytes.more c.args.taker.now c.args.bytes.now _ c.stripping.taker c.stripping.from c.stripping.items (item_seen c.in-Some.item) c.next.new.self c.stripping.invariant
    c.in-Some.ensures.steps (sym c.stays.ensures ∙ c.if-not-stays.false)

pub hand_over-requires-2-clause-inside : goal.hand_over-requires-2-clause-inside
hand_over-requires-2-clause-inside g c = omega (arith, c.place-2.ensures, ap (λ (p : Placed _). p.place) c.in_default.ensures.steps.1, c.stripping.invariant.stand.inside)

pub returns : goal.returns
returns g c =
    let takes = g.T.TakesBytes.takes in
    all_items takes g.met.T.TakesBytes.more c.args.taker.now c.args.bytes.now _ c.stripping.taker c.hand_over-2.new.taker c.stripping.from c.stripping.items c.next.new.self c.stripping.invariant
    c.in_default.ensures.steps
    (subst (λ (n : ℕ). takes c.stripping.taker (slice_range c.args.bytes.now c.stripping.from n) c.hand_over-2.new.taker) c.place-2.ensures c.hand_over-2.ensures)
