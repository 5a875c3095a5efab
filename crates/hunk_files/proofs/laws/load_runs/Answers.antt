use Rattle.hunk_files.proofs.walk.LoadRuns.{free_passes, pass_is, run_is}
use Rattle.hunk_files.proofs.laws.load_runs.Goals as goal

pub returns-clause-run : goal.returns-clause-run
returns-clause-run c v done more is = run_is v is done more

pub returns-clause-free : goal.returns-clause-free
returns-clause-free c = free_passes

pub returns-clause-pass : goal.returns-clause-pass
returns-clause-pass c = pass_is
