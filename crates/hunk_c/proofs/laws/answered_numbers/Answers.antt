use Rattle.hunk_c.proofs.AnsweredNumbers.{begin_told, build_told, end_told, feed_told, front_told, list_told}
use Rattle.hunk_c.proofs.AnsweredNumbers.{load_at_told, load_told, plain_told, table_told, want_told, warnings_told}
use Rattle.hunk_c.proofs.AnsweredNumbers.{words_told}
use Rattle.hunk_c.specs.{Checks.finding_rows, Strips.stripped_bytes}
use Rattle.hunk_c.proofs.laws.answered_numbers.Goals as goal

pub returns : goal.returns
returns c = record {
  table = table_told;
  load = load_told;
  load_at = load_at_told;
  begin = begin_told;
  feed = feed_told;
  end = end_told;
  want = want_told;
  check = list_told finding_rows (λ n. n);
  warnings = warnings_told;
  build = build_told;
  strip = list_told stripped_bytes (λ n. n);
  plain = plain_told;
  front = front_told;
  name = λ number old new answer h. words_told h.0 old new answer h.2;
  meaning = λ number old new answer h. words_told h.0 old new answer h.2;
}
