use Rattle.std.proofs.Common.{◌≡◌, [], ◌∷◌}
use Rattle.hunk_words.specs.Longs.{bytes_of}
use Rattle.hunk_words.proofs.Shown.{ShownUpTo}
use Rattle.hunk_files.proofs.load.file.print_longs.Given as goal

abbrev pub invariant-putting : goal.invariant-putting
invariant-putting g l = (l.page.origin ≡ l.fn.page.origin) × ShownUpTo (λ w. bytes_of (w ∷ [])) l.longs l.long-index l.page.text l.fn.page.text
