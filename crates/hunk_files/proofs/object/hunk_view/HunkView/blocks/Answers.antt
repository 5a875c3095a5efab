use Rattle.std.proofs.Common.{sym, ap, subst, ◌∙◌}
use Rattle.hunk_blocks.specs.Placed.{Placed}
use Rattle.hunk_files.specs.ObjectFile.{ObjectHunk, IsObjectHunk}
use Rattle.hunk_files.proofs.views.ObjectViewLaws.{hunk_at_is}
use Rattle.hunk_files.proofs.object.hunk_view.HunkView.blocks.Goals as goal

pub returns-clause-value : goal.returns-clause-value
returns-clause-value c =
    let hunk = c.self.invariant in
    c.at.ensures hunk ∙ ap (λ (bs : ObjectHunk). record { place = c.self.inside.place; value = bs }) (sym (hunk_at_is c.self.inside.bytes.now c.self.inside.place hunk)) ∙ c.self.view_is

pub returns-clause-hunk : goal.returns-clause-hunk
returns-clause-hunk c =
    let hunk = c.self.invariant in
    subst IsObjectHunk (sym (ap (λ (p : Placed ObjectHunk). p.value) (sym c.self.view_is) ∙ hunk_at_is c.self.inside.bytes.now c.self.inside.place hunk)) hunk.is
