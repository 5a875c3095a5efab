use Rattle.hunk_parts.proofs.laws.first_row.Goals as goal
use Rattle.hunk_parts.proofs.spelled.FaultRows.{begins, stops}

pub returns : goal.returns
returns c = record { begins = begins; stops = stops }
