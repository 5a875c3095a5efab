use Rattle.std.proofs.Common.{sym, subst}
use Rattle.hunk_words.specs.Longs.{longs}
use Rattle.hunk_grammar.specs.declared.position.Position.{Position}
use Rattle.hunk_files.specs.Passing.{IsFrontPassed, no_front, nothing, passed_front, position_at}
use Rattle.hunk_files.proofs.load.header.pass_front.Goals as goal

pub returns-in-Some : goal.returns-in-Some
returns-in-Some c =
    let first = c.in-Some.first in
    subst (λ (q : Position). IsFrontPassed (longs c.args.bytes.now) first.at q first.entry) (sym c.position.ensures)
    (passed_front first first.at (position_at first) first.entry c.in-Some.ensures nothing)

pub returns : goal.returns
returns c = no_front
