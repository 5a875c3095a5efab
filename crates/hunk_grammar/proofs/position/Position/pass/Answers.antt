use Rattle.std.proofs.Common.{◌≡◌, ℕ, zero, suc, ◌-◌, ◌<◌, arith, ap, sym, ◌∙◌, subst}
use Rattle.hunk_grammar.specs.{declared.position.OpenHunk.OpenHunk, declared.position.Position.Position, Positions.{after, onward, pass, pass_in}}
use Rattle.hunk_grammar.specs.declared.phase.Phase.{Phase}
use Rattle.hunk_grammar.specs.declared.position.Position.TheVariants as positions
use Rattle.hunk_grammar.proofs.position.Position.pass.Goals as goal

pass_some : (o : OpenHunk) (phase : Phase) (n : ℕ) → 0 < n → pass_in o phase (n - 1) ≡ pass (positions.Body o phase) n
pass_some o phase zero some = absurd (omega (arith, some))
pass_some o phase (suc n) some = let e : suc n - 1 ≡ n = omega arith in ap (λ (m : ℕ). pass_in o phase m) e

pub returns-in-Some : goal.returns-in-Some
returns-in-Some c =
    let o = c.in-Body.hunk in
    let phase = c.in-Body.phase in
    subst (λ (p : Position). positions.Body o c.in-Some.next ≡ pass p c.args.count) (sym c.in-Body.is)
    (ap (onward o (after o phase)) (sym c.in-Some.is ∙ c.pass.ensures) ∙ pass_some o phase c.args.count (omega (arith, c.if-count-gt0.true)))

pub returns-in-None : goal.returns-in-None
returns-in-None c =
    let o = c.in-Body.hunk in
    let phase = c.in-Body.phase in
    subst (λ (p : Position). c.after.result ≡ pass p c.args.count) (sym c.in-Body.is)
    (c.after.ensures ∙ ap (onward o (after o phase)) (sym c.in-None.is ∙ c.pass.ensures) ∙ pass_some o phase c.args.count (omega (arith, c.if-count-gt0.true)))
