use Rattle.hunk_c.proofs.AnsweredNumbers.{end_strange, feed_strange, want_strange}
use Rattle.hunk_c.proofs.laws.strange_after_no_begin.Goals as goal

pub returns : goal.returns
returns c = record { feed = feed_strange; end = end_strange; want = want_strange }
