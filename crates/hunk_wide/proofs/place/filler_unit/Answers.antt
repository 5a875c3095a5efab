use Rattle.hunk_wide.proofs.Placing.{filler_few, other_in_front, zero_in_front}
use Rattle.hunk_wide.proofs.place.filler_unit.Goals as goal

pub returns-then-rest-lt2-clause-none : goal.returns-then-rest-lt2-clause-none
returns-then-rest-lt2-clause-none c = filler_few c.args.after c.args.rest.now c.args.n c.if-rest-lt2.true

pub returns-then-half-eq0-clause-some : goal.returns-then-half-eq0-clause-some
returns-then-half-eq0-clause-some c = zero_in_front c.args.after c.args.rest.now c.args.n c.if-rest-lt2.false c.if-half-eq0.true

pub returns-clause-some : goal.returns-clause-some
returns-clause-some c = other_in_front c.args.after c.args.rest.now c.args.n c.if-rest-lt2.false c.if-half-eq0.false
