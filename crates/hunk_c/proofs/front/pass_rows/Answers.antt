use Rattle.std.proofs.Common.{arith}
use Rattle.hunk_c.specs.FrontPlaces.{no_rows, rows}
use Rattle.hunk_c.proofs.front.pass_rows.Goals as goal

pub returns-in_default : goal.returns-in_default
returns-in_default c = no_rows

pub returns : goal.returns
returns c =
    let s = c.short_rows-count in
    rows c.in-SizeWord.hunks c.in-SizeWord.owed s.result c.in-SizeWord.is (omega (arith, s.ensures.few, c.min.ensures)) (omega (arith, s.ensures.few, c.min.ensures, c.requires.before)) s.ensures.short
