use Rattle.std.proofs.Common.{subst, arith}
use Rattle.std.proofs.lemmas.Bool.{ltb-true}
use Rattle.hunk_grammar.specs.declared.position.Position.{Position}
use Rattle.hunk_c.specs.Loaders.{MayStandAt}
use Rattle.hunk_c.proofs.MayStand.{may_stand}
use Rattle.hunk_c.proofs.loader.ends_early.Goals as goal

pub returns-in-Done-clause-nowhere : goal.returns-in-Done-clause-nowhere
returns-in-Done-clause-nowhere c = λ early rows memory fed h.
    let at = c.args.at.now in
    let whole = subst (λ (p : Position). MayStandAt at.state.hunk at.fed p) c.in-Done.is (may_stand rows memory at fed h).position in
    omega (arith, whole.2, c.least_file.ensures, ltb-true at.fed c.least_file.result early)
