use Rattle.std.proofs.Common.{◌≡◌, ◌-◌, ◌++◌, drop, length}
use Rattle.hunk_listing.specs.Printed.{characters}
use Rattle.hunk_listing.proofs.text.print_characters.Given as goal

abbrev pub invariant-runs : goal.invariant-runs
invariant-runs g l = (l.page.origin ≡ l.fn.page.origin) × (l.page.text ++ characters (drop l.start l.bytes) ≡ l.fn.page.text ++ characters l.bytes)

abbrev pub decreases-runs : goal.decreases-runs
decreases-runs g l = length l.bytes - l.start
