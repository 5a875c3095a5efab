use Rattle.std.proofs.Common.{refl, subst, sym, inr}
use Rattle.hunk_scatter.specs.Placing.{packed_from}
use Rattle.hunk_c.specs.Loads.{AreBasesOf}
use Rattle.hunk_c.proofs.{Loaded.no_base_for}
use Rattle.hunk_c.proofs.load.load_marked.Goals as goal

pub returns-in-Err : goal.returns-in-Err
returns-in-Err c =
    let s = c.requires.size in
    inr (no_base_for _ _ _ _ c.args.size s c.in-Err.hunk c.requires.room (c.in-Err.ensures.unplaced s.table s.header) c.no_base.ensures, refl)

pub returns : goal.returns
returns c =
    c.load_at.ensures (packed_from c.args.base) (subst (AreBasesOf (packed_from c.args.base) c.args.bytes.now) (sym c.by-bases.ensures) c.in-Ok.ensures.bases)
