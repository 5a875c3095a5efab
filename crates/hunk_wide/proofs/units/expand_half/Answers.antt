use Rattle.std.proofs.Common.{ℕ, ◌*◌, take, ◌∙◌, arith}
use Rattle.std.proofs.lemmas.List.{length-take}
use Rattle.hunk_wide.specs.declared.spot.Spot.TheVariants.{Half}
use Rattle.hunk_wide.proofs.ShortWords.{halves_lead, halves_there, short_take}
use Rattle.hunk_wide.proofs.Stretches.{written}
use Rattle.hunk_wide.proofs.units.expand_half.Goals as goal

pub returns-clause-gives : goal.returns-clause-gives
returns-clause-gives c =
    let count : ℕ = c.halves_in-halves.result.count in
    halves_there (Half c.args.after c.args.part c.args.is_odd) c.halves_in-halves.result.next (take (2 * count) c.args.piece.now) _
    (short_take (2 * count) _ c.args.piece.now _ _ c.halves_in-halves.ensures.leads c.halves_in-halves.ensures.whole)
    (written (4 * count) c.widen.new.longs c.args.buf.now c.widen.auto.longs (omega (arith, length-take (2 * c.min-most.result) c.args.piece.now)) ∙ c.widen.ensures)

pub returns-clause-leads : goal.returns-clause-leads
returns-clause-leads c =
    let count : ℕ = c.halves_in-halves.result.count in
    halves_lead (take (2 * count) c.args.piece.now) (Half c.args.after c.args.part c.args.is_odd) c.halves_in-halves.result.next
    (short_take (2 * count) _ c.args.piece.now _ _ c.halves_in-halves.ensures.leads c.halves_in-halves.ensures.whole)
