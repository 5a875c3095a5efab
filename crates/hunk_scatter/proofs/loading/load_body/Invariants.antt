use Rattle.std.proofs.Common.{◌≡◌, ◌≤◌, ◌-◌, ℕ, List, ◌++◌, length, None, false}
use Rattle.std.specs.Io.KnownBytes.{Consumes}
use Rattle.hunk_scatter.specs.LoadOutcomes.{GoesPastNoFile, StaysAllShown}
use Rattle.hunk_scatter.specs.Owing.{most_want}
use Rattle.hunk_scatter.proofs.loading.load_body.Given as goal

abbrev pub invariant-reading : goal.invariant-reading
invariant-reading g l = record {
  buffer : length l.buf ≡ most_want;
  reading : l.loader.refused ≡ None;
  works : (g.R.Source.supply l.fn.r).failed ≡ false → (g.R.Source.supply l.r).failed ≡ false;
  shows : StaysAllShown (g.R.Source.supply l.fn.r) (g.R.Source.shown l.fn.r) (g.R.Source.supply l.r) (g.R.Source.shown l.r);
  rows_are : l.loader.rows ≡ l.fn.loader.rows;
  given : (more : List ℕ) × Consumes (g.R.Source.supply l.fn.r).left (g.R.Source.supply l.r).left more × (l.loader.fed ≡ l.fn.loader.fed ++ more);
  within : length l.loader.fed ≤ l.limit;
  in_file : GoesPastNoFile l.loader.fed;
}

abbrev pub decreases-reading : goal.decreases-reading
decreases-reading g l = l.limit - length l.loader.fed
