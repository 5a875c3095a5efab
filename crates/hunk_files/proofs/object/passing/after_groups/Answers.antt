use Rattle.std.proofs.Common.{◌+◌, arith, sym, ◌∙◌}
use Rattle.hunk_words.specs.Longs.{longs}
use Rattle.hunk_words.proofs.LongLaws.{length-longs}
use Rattle.hunk_files.specs.ObjectPassing.{no_stride}
use Rattle.hunk_files.proofs.object_walk.PassedUnits.{groups_end, one_group}
use Rattle.hunk_files.proofs.object.passing.after_groups.Goals as goal

pub groups-init : goal.groups-init
groups-init c = λ next n. no_stride

pub groups-preserved : goal.groups-preserved
groups-preserved c =
    let bytes = c.args.bytes.now in
    let at = c.groups.at in
    one_group (longs bytes) c.args.from at (at + (c.word_at-count.result + 2)) c.groups.invariant (omega (arith, c.if-count-eq0.false, c.word_at-count.ensures)) (omega (arith, c.word_at-count.ensures))
    (omega (arith, c.if-longs-whole.false, c.groups-test.true, length-longs bytes))

pub returns-then-count-eq0 : goal.returns-then-count-eq0
returns-then-count-eq0 c =
    let bytes = c.args.bytes.now in
    groups_end (longs bytes) c.args.from c.groups.at c.groups.invariant (omega (arith, c.groups-test.true, length-longs bytes)) (sym c.word_at-count.ensures ∙ c.if-count-eq0.true)
