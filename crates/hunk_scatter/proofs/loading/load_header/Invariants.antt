use Rattle.std.proofs.Common.{◌≡◌, ◌-◌, length, None, false}
use Rattle.hunk_scatter.specs.LoadOutcomes.{Gives, GoesPastNoHeader, StaysAllShown}
use Rattle.hunk_scatter.specs.Owing.{most_want}
use Rattle.hunk_scatter.proofs.loading.load_header.Given as goal

abbrev pub invariant-reading : goal.invariant-reading
invariant-reading g l = record {
  buffer : length l.buf ≡ most_want;
  reading : l.loader.refused ≡ None;
  works : (g.R.Source.supply l.fn.r).failed ≡ false → (g.R.Source.supply l.r).failed ≡ false;
  shows : StaysAllShown (g.R.Source.supply l.fn.r) (g.R.Source.shown l.fn.r) (g.R.Source.supply l.r) (g.R.Source.shown l.r);
  budget_is : l.loader.budget ≡ l.limits.budget;
  given : Gives (g.R.Source.supply l.fn.r) (g.R.Source.supply l.r) l.limits.file_bytes l.loader.fed;
  in_header : GoesPastNoHeader l.loader.fed;
}

abbrev pub decreases-reading : goal.decreases-reading
decreases-reading g l = l.limits.file_bytes - length l.loader.fed
