use Rattle.std.proofs.Common.{◌≡◌, ◌+◌, ◌*◌, take, ap, ap₂, sym, refl, subst, ◌∙◌, arith}
use Rattle.hunk_wide.specs.declared.spot.ShortPart.{ShortPart}
use Rattle.hunk_wide.specs.declared.spot.Spot.{Spot}
use Rattle.hunk_wide.specs.declared.spot.ShortPart.TheVariants.{Count}
use Rattle.hunk_wide.specs.declared.spot.Spot.TheVariants.{Half}
use Rattle.hunk_wide.specs.Halves.{HalvesLead, behind_half, part_after}
use Rattle.hunk_wide.proofs.ShortWords.{begun_none, begun_part, begun_some, begun_words, pass_rest, past_count, past_group}
use Rattle.hunk_wide.proofs.halves.halves_in.Goals as goal
use Rattle.hunk_wide.proofs.halves.halves_in.Goals.{then-begun-eq0, else-begun-eq0}

pub returns-then-offsets-eq0-clause-leads : goal.returns-then-offsets-eq0-clause-leads
returns-then-offsets-eq0-clause-leads c =
    let part : ShortPart = begun_part c.args.part c.groups.begun c.groups.owed in
    subst (λ (x : Spot). HalvesLead (take (2 * (c.groups.next + 1)) c.args.bytes.now) (Half c.args.after c.args.part c.args.is_odd) x)
    (sym (c.behind_half.ensures ∙ ap₂ (λ b n. behind_half c.args.after Count b n) c.flipped.ensures (sym c.if-offsets-eq0.true)))
    (past_count c.args.after (Half c.args.after c.args.part c.args.is_odd) part c.args.is_odd c.groups.begun c.groups.next _ c.args.bytes.now
    c.groups.invariant.leads c.groups.invariant.next (omega (arith, c.groups-test.true)) refl)

pub groups-preserved : goal.groups-preserved
groups-preserved c =
    let part : ShortPart = begun_part c.args.part c.groups.begun c.groups.owed in
    record {
      begun = omega (arith, c.groups-test.true);
      next = begun_words c.args.part (c.groups.next + 1) _ (λ z. omega (arith, z));
      leads =
          past_group c.args.after (Half c.args.after c.args.part c.args.is_odd) c.args.part c.args.is_odd c.groups.next _ _ (take (2 * (c.groups.next + 1)) c.args.bytes.now)
          (past_count c.args.after (Half c.args.after c.args.part c.args.is_odd) part c.args.is_odd c.groups.begun c.groups.next _ c.args.bytes.now
          c.groups.invariant.leads c.groups.invariant.next (omega (arith, c.groups-test.true)) refl)
          (omega (arith, c.if-offsets-eq0.false));
    }

pub returns-clause-leads : goal.returns-clause-leads
returns-clause-leads c =
    let is : c.if-begun-eq0.part ≡ begun_part c.args.part c.groups.begun c.groups.owed =
    elim c.if-begun-eq0.branch [
      | then-begun-eq0 w ↦ w.part-is ∙ begun_none c.args.part c.groups.begun c.groups.owed w.if-begun-eq0.true
      | else-begun-eq0 w ↦ w.part-is ∙ begun_some c.args.part c.groups.begun c.groups.owed w.if-begun-eq0.false
    ] in
    pass_rest c.args.after (Half c.args.after c.args.part c.args.is_odd) _ (begun_part c.args.part c.groups.begun c.groups.owed) c.args.is_odd c.groups.begun _ c.args.bytes.now
    c.groups.invariant.leads c.groups.invariant.begun (omega (arith, c.groups.invariant.next, c.groups-test.false)) (omega arith)
    (ap₂ (λ p b. Half c.args.after p b) (c.part_after.ensures ∙ ap (part_after _) is) c.flipped-2.ensures)
