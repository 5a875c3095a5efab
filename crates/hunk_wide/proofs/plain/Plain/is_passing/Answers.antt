use Rattle.std.proofs.Common.{◌≡◌, [], sym, ◌∙◌}
use Rattle.std.proofs.lemmas.Bool.{eq-eqb, eqb-true}
use Rattle.hunk_wide.proofs.Supplies.{no_length, passes_map}
use Rattle.hunk_wide.proofs.Files.{apart, ended, ended_left, is_empty_there, wants_none}
use Rattle.hunk_wide.proofs.plain.Plain.is_passing.Goals as goal

pub returns-then-is_empty-clause-left : goal.returns-then-is_empty-clause-left
returns-then-is_empty-clause-left g c =
    λ t.
    let none : c.args.self.now.held.ready ≡ [] = no_length c.args.self.now.held.ready (sym c.is_empty.ensures ∙ c.if-is_empty.true) in
    let all = c.want.ensures.passes (eqb-true c.want.result 0 t) none in
    passes_map c.args.self.now.held _ none all.0 all.1

pub returns-then-is_empty-clause-file : goal.returns-then-is_empty-clause-file
returns-then-is_empty-clause-file g c =
    λ rest i.
    let e = ended c.args.self.now.held _ rest i in
    let none : c.want.result ≡ 0 = c.want.ensures.value ∙ wants_none c.args.self.now.held e.1 in
    (eq-eqb c.want.result 0 none, ended_left c.args.self.now.held _ rest i (c.want.ensures.passes none e.0).1)

pub returns-else-is_empty-clause-file : goal.returns-else-is_empty-clause-file
returns-else-is_empty-clause-file g c =
    λ rest i.
    let e = ended c.args.self.now.held _ rest i in
    absurd (apart c.is_empty.result (is_empty_there c.args.self.now.held.ready c.is_empty.result e.0 c.is_empty.ensures) c.if-is_empty.false)
