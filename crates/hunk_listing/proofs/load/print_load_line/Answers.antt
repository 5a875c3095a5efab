use Rattle.std.proofs.Common.{ℕ, subst}
use Rattle.hunk_words.specs.Prints.{Prints}
use Rattle.hunk_listing.specs.FileLines.{load_line}
use Rattle.hunk_listing.proofs.load.print_load_line.Goals as goal

-- No word of the line is named, so that it may have any words.
pub returns : goal.returns
unfolding load_line
returns g c = subst (λ (hunks : ℕ). Prints c.args.page.now c.print_numbers.new.page (load_line hunks c.args.bytes)) c.from-hunks.ensures c.print_numbers.ensures
