use Rattle.std.proofs.Common.{◌≡◌, ◌++◌, drop, take}
use Rattle.hunk_listing.specs.Printed.{characters}
use Rattle.hunk_listing.proofs.text.plain_length.Given as goal

abbrev pub invariant-bytes : goal.invariant-bytes
invariant-bytes l = characters l.bytes ≡ take l.i l.bytes ++ characters (drop l.i l.bytes)
