use Rattle.std.proofs.Common.{List, ℕ, ap, sym, ◌∙◌, Some, get_or, arith}
use Rattle.hunk_blocks.specs.Values.{BlockValue}
use Rattle.hunk_files.proofs.views.FileViews.{blocks_at}
use Rattle.hunk_files.proofs.load.file.LoadFile.hunk.Goals as goal

pub returns : goal.returns
returns c =
    blocks_at c.self.inside.hunks.items c.args.self.now c.args.i c.index.result.now c.self.view_is c.requires
    (c.index.ensures ∙ ap (λ (n : ℕ). get_or c.self.inside.hunks.items n c.index.result.now) (omega arith))
    ∙ ap (λ (bs : List BlockValue). Some bs) (sym c.deref.ensures.value)
