use Rattle.std.proofs.Common.{arith, sym, ◌∙◌}
use Rattle.hunk_words.specs.Longs.{longs}
use Rattle.hunk_words.proofs.LongLaws.{length-longs}
use Rattle.hunk_files.specs.ObjectPassing.{no_stride}
use Rattle.hunk_files.proofs.object_walk.PassedUnits.{entries_end, one_entry}
use Rattle.hunk_files.proofs.object.passing.after_entries.Goals as goal

pub entries-init : goal.entries-init
entries-init c = λ next n. no_stride

pub entries-preserved : goal.entries-preserved
entries-preserved c = one_entry (longs c.args.bytes.now) c.args.from c.entries.at c.in_ok-at.at c.entries.invariant c.in_ok-at.ensures.entry

pub returns-then-word-eq0 : goal.returns-then-word-eq0
returns-then-word-eq0 c =
    let bytes = c.args.bytes.now in
    entries_end (longs bytes) c.args.from c.entries.at c.entries.invariant (omega (arith, c.entries-test.true, length-longs bytes)) (sym c.word_at-word.ensures ∙ c.if-word-eq0.true)
