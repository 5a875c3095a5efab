use Rattle.std.proofs.Common.{◌*◌, arith}
use Rattle.std.proofs.lemmas.List.{length-take}
use Rattle.hunk_wide.specs.declared.spot.Spot.TheVariants.{Half}
use Rattle.hunk_wide.proofs.{Placing.{half_few, halves_in_front}, ShortWords.short_take}
use Rattle.hunk_wide.proofs.place.half_unit.Goals as goal

pub returns-then-rest-lt2-clause-none : goal.returns-then-rest-lt2-clause-none
returns-then-rest-lt2-clause-none c = half_few c.args.after c.args.part c.args.is_odd c.args.rest.now c.args.n c.if-rest-lt2.true

pub returns-clause-some : goal.returns-clause-some
returns-clause-some c =
    let words = c.min-words.result in
    let len = length-take (2 * words) c.args.rest.now in
    halves_in_front (Half c.args.after c.args.part c.args.is_odd) c.halves_in-halves.result.next c.args.rest.now c.args.n c.halves_in-halves.result.count words
    (c.halves_in-halves.ensures.some (omega (arith, len))) (omega (arith, c.halves_in-halves.ensures.whole, len)) (omega arith) (omega (arith, c.halves_in-halves.ensures.whole, len))
    (short_take (2 * c.halves_in-halves.result.count) _ c.args.rest.now _ _ c.halves_in-halves.ensures.leads c.halves_in-halves.ensures.whole)
