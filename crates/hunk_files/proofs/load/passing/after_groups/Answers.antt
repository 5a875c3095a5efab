use Rattle.std.proofs.Common.{arith, refl, sym, ◌∙◌}
use Rattle.hunk_words.proofs.LongLaws.{length-longs}
use Rattle.hunk_files.specs.Passing.{no_group, one_group}
use Rattle.hunk_files.proofs.load.passing.after_groups.Goals as goal

pub groups-init : goal.groups-init
groups-init c = no_group

pub groups-preserved : goal.groups-preserved
groups-preserved c = one_group c.groups.at c.in_ok-at.at c.groups.invariant c.in_ok-at.ensures

pub returns-then-count-eq0 : goal.returns-then-count-eq0
returns-then-count-eq0 c = record {
  end = c.groups.at;
  items = c.groups.invariant;
  zero_is = sym c.word_at-count.ensures ∙ c.if-count-eq0.true;
  ends = refl;
  whole = omega (arith, c.groups-test.true, length-longs c.args.bytes.now);
}
