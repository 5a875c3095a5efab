use Rattle.std.proofs.Common.{ℕ, ap, sym, ◌∙◌, Some, get_or, arith}
use Rattle.hunk_files.proofs.views.FileViews.{entry_at}
use Rattle.hunk_files.proofs.load.file.LoadFile.table.Goals as goal

pub returns : goal.returns
returns c =
    entry_at c.self.inside.hunks.items c.args.self.now c.args.i c.index.result.now c.self.view_is c.requires
    (c.index.ensures ∙ ap (λ (n : ℕ). get_or c.self.inside.hunks.items n c.index.result.now) (omega arith))
    ∙ (λ i. Some (record { word = sym c.size.ensures.word i; extra = sym c.size.ensures.extra i }))
