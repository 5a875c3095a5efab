use Rattle.std.proofs.Common.{◌≡◌}
use Rattle.hunk_words.specs.Longs.{bytes_of}
use Rattle.hunk_words.proofs.Shown.{ShownUpTo}
use Rattle.hunk_files.specs.ObjectFile.{unit_text}
use Rattle.hunk_files.proofs.object.file.print_units.Given as goal

abbrev pub invariant-writing : goal.invariant-writing
invariant-writing g l = (l.page.origin ≡ l.fn.page.origin) × ShownUpTo (λ u. bytes_of (unit_text u)) l.units l.unit-index l.page.text l.fn.page.text
