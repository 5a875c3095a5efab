use Rattle.std.proofs.Common.{◌≡◌, rules, sym, subst, ap, ◌∙◌}
use Rattle.std.proofs.lemmas.List.Elements.{filter_from_retain}
use Rattle.hunk_files.specs.{ObjectFile.IsObjectHunk, Strip.{is_kept, strip_blocks}}
use Rattle.hunk_files.proofs.strip.StripLaws.{object_hunk_kept}
use Rattle.hunk_files.proofs.object.unit.Hunk.strip.Goals as goal

pub invariant_of-self : goal.invariant_of-self
invariant_of-self c =
    let left : c.retain.new.self.items ≡ strip_blocks c.self.inside.blocks.items = filter_from_retain _ (λ b. is_kept b.body) (λ f b t g k. search rules) _ _ _ c.retain.ensures.filtered in
    subst IsObjectHunk (sym left) (object_hunk_kept c.self.inside.blocks.items c.self.invariant)

pub returns : goal.returns
returns c = filter_from_retain _ (λ b. is_kept b.body) (λ f b t g k. search rules) _ _ _ c.retain.ensures.filtered ∙ ap strip_blocks c.self.view_is
