use Rattle.std.proofs.Common.{◌≡◌, ◌-◌, ◌≤◌, ◌++◌, length, take}
use Rattle.hunk_commands.proofs.hex_text.HexDecoderTaker.take.Given as goal

abbrev pub invariant-parts : goal.invariant-parts
invariant-parts l = (l.at ≤ length l.piece) × (l.self ≡ l.fn.self ++ take l.at l.piece)

abbrev pub decreases-parts : goal.decreases-parts
decreases-parts l = length l.piece - l.at
