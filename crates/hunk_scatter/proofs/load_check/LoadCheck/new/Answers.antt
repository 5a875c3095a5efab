use Rattle.std.proofs.Common.{◌∙◌, sym, subst}
use Rattle.hunk_scatter.specs.HeaderBytes.{IsHeader}
use Rattle.hunk_scatter.proofs.LoadCheckLaws.{no_header}
use Rattle.hunk_scatter.proofs.load_check.LoadCheck.new.Goals as goal

pub invariant_of-result : goal.invariant_of-result
invariant_of-result c =
    (c.new.ensures.fed ∙ sym c.new-2.ensures, c.new.ensures.unrefused, c.new.ensures.budget, λ is. no_header (subst IsHeader c.new-2.ensures is))
