use Rattle.std.proofs.Common.{ap, sym, ◌∙◌}
use Rattle.hunk_grammar.specs.declared.position.Position.{Position}
use Rattle.hunk_wide.specs.declared.position.FilePosition.TheVariants as files
use Rattle.hunk_wide.specs.Longwords.{behind_load, go_on}
use Rattle.hunk_wide.proofs.Few.{other_phase}
use Rattle.hunk_wide.proofs.spot.Spot.behind_load.Goals as goal

pub returns-in_default-phase : goal.returns-in_default-phase
returns-in_default-phase c =
    c.at.ensures ∙ ap (λ (p : Position). go_on (files.Load p)) c.step.ensures
    ∙ other_phase c.in-Body.hunk c.in-Body.phase c.args.word c.in_default-phase.not-FirstBlock c.in_default-phase.not-BlockWord
    ∙ ap (λ (p : Position). behind_load p c.args.word) (sym c.in-Body.is)
