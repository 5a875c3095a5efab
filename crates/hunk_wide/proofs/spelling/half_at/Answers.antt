use Rattle.hunk_wide.specs.declared.spot.Spot.TheVariants.{Half}
use Rattle.hunk_wide.proofs.Counted.{half_ends, halves_begin}
use Rattle.hunk_wide.proofs.spelling.half_at.Goals as goal

pub returns-then-rest-lt2-clause-none : goal.returns-then-rest-lt2-clause-none
returns-then-rest-lt2-clause-none c = half_ends c.args.after c.args.part c.args.is_odd c.args.rest.now c.if-rest-lt2.true

pub returns-clause-some : goal.returns-clause-some
returns-clause-some c =
    halves_begin (Half c.args.after c.args.part c.args.is_odd) c.halves_in-halves.result.next c.args.rest.now c.halves_in-halves.result.count
    (c.halves_in-halves.ensures.some c.if-rest-lt2.false) c.halves_in-halves.ensures.whole c.halves_in-halves.ensures.leads
