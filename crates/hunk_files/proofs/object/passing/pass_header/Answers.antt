use Rattle.std.proofs.Common.{arith, refl, sym, ◌∙◌}
use Rattle.hunk_words.specs.Longs.{longs}
use Rattle.hunk_words.proofs.LongLaws.{length-longs}
use Rattle.hunk_files.proofs.object_walk.PassedUnits.{header_over}
use Rattle.hunk_files.proofs.object.passing.pass_header.Goals as goal

pub returns-clause-passes : goal.returns-clause-passes
returns-clause-passes c =
    let bytes = c.args.bytes.now in
    header_over (longs bytes) c.args.place.now _ (omega (arith, c.requires.inside, length-longs bytes)) (sym c.requires.word ∙ c.if-word-ne-UNIT_WORD.false) c.in-BetweenHunks.is c.in_ok-place.ensures c.in-BetweenHunks.is refl refl
