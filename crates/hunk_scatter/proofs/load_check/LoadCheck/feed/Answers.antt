use Rattle.std.proofs.Common.{◌++◌, ℕ, List, subst}
use Rattle.hunk_scatter.specs.{LoadChecks.IsStageAfter, declared.load_check.Stage.Stage}
use Rattle.hunk_scatter.proofs.LoadCheckLaws.{refused_more, summary_more, few_before}
use Rattle.hunk_scatter.proofs.load_check.LoadCheck.feed.Goals.{in-Header+in_ok-stage-in-Header, in-Body, in-Whole, in-Refused}
use Rattle.hunk_scatter.proofs.load_check.LoadCheck.feed.Goals as goal

pub invariant_of-result : goal.invariant_of-result
invariant_of-result c =
    let bytes = c.self.inside.history.bytes in
    let piece = c.args.piece.now in
    elim c.match-stage.branch [
      | in-Header+in_ok-stage-in-Header w ↦
          let inv = subst (λ (s : Stage). IsStageAfter s bytes) w.in-Header.is c.self.invariant in
          rw (c.and-history.ensures, w.stage-is)
          (subst (λ (bs : List ℕ). IsStageAfter w.in_ok-stage-in-Header.stage (bs ++ piece)) inv.0 w.in_ok-stage-in-Header.ensures.stage)
      | in-Body w ↦
          let inv = subst (λ (s : Stage). IsStageAfter s bytes) w.in-Body.is c.self.invariant in
          rw (c.and-history.ensures, w.stage-is) (w.feed-stage.ensures bytes inv.0)
      | in-Whole w ↦
          let inv = subst (λ (s : Stage). IsStageAfter s bytes) w.in-Whole.is c.self.invariant in
          rw (c.and-history.ensures, w.stage-is) (λ few. summary_more bytes piece w.in-Whole.summary _ (inv (few_before bytes piece few)) few w.saturating_add.ensures)
      | in-Refused w ↦
          let inv = subst (λ (s : Stage). IsStageAfter s bytes) w.in-Refused.is c.self.invariant in
          rw (c.and-history.ensures, w.stage-is) (λ few. refused_more bytes piece w.in-Refused.refusal (inv (few_before bytes piece few)))
    ]
