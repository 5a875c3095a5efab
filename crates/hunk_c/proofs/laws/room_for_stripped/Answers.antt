use Rattle.std.proofs.Common.{arith}
use Rattle.hunk_c.specs.Strips.{stripped_bytes}
use Rattle.hunk_c.proofs.{OneFile.stripped_fits, Tabulated.what_fits}
use Rattle.hunk_c.proofs.laws.room_for_stripped.Goals as goal

pub returns : goal.returns
returns c = λ bytes old new answer strips file is room.
    what_fits stripped_bytes (λ n. n) bytes old new answer strips file is (omega (arith, stripped_fits file, room))
