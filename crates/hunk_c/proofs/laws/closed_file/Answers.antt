use Rattle.hunk_c.proofs.ClosedFiles.{closed_begins, closed_whole}
use Rattle.hunk_c.proofs.laws.closed_file.Goals as goal

pub returns : goal.returns
returns c = record { whole = closed_whole; begins = closed_begins }
