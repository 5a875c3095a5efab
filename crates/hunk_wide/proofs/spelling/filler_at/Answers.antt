use Rattle.hunk_wide.proofs.Counted.{filler_ends, other_begins, zero_begins}
use Rattle.hunk_wide.proofs.spelling.filler_at.Goals as goal

pub returns-then-rest-lt2-clause-none : goal.returns-then-rest-lt2-clause-none
returns-then-rest-lt2-clause-none c = filler_ends c.args.after c.args.rest.now c.if-rest-lt2.true

pub returns-then-half-eq0-clause-some : goal.returns-then-half-eq0-clause-some
returns-then-half-eq0-clause-some c = zero_begins c.args.after c.args.rest.now c.if-rest-lt2.false c.if-half-eq0.true

pub returns-clause-some : goal.returns-clause-some
returns-clause-some c = other_begins c.args.after c.args.rest.now c.if-rest-lt2.false c.if-half-eq0.false
