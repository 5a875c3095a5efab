use Rattle.std.proofs.Common.{rules, refl, arith}
use Rattle.hunk_scatter.proofs.BodyChecks.{checked_open, front_part}
use Rattle.hunk_scatter.proofs.body_check.check_part.Goals as goal

pub check_front-requires-clause-ready : goal.check_front-requires-clause-ready
check_front-requires-clause-ready c = record {
  position_is = refl;
  is_open = checked_open c.args.rows.now c.args.at.now _ c.requires.checked c.requires.goes_on;
  whole_long = omega (arith, c.if-piece-lt4.false);
}

pub returns : goal.returns
returns c = front_part c.args.rows.now c.args.at.now c.args.piece.now (search rules) c.check_front.new.state c.check_front.result c.check_front.ensures
