use Rattle.hunk_c.proofs.Refused.{end_again, feed_again, has_refused, want_again}
use Rattle.hunk_c.proofs.laws.refusal_stays.Goals as goal

pub returns : goal.returns
returns c = record { refuses = has_refused; feed = feed_again; end = end_again; want = want_again }
