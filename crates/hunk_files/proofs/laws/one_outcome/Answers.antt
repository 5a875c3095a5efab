use Rattle.hunk_files.proofs.{walk.Scan.{not_truncated, one_fault, no_fault}, walk.Refusals.refusal_of_word}
use Rattle.hunk_files.proofs.laws.one_outcome.Goals as goal

pub returns-clause-one : goal.returns-clause-one
returns-clause-one c bytes fit = one_fault bytes

pub returns-clause-not_both : goal.returns-clause-not_both
returns-clause-not_both c = no_fault

pub returns-clause-of_word : goal.returns-clause-of_word
returns-clause-of_word c = refusal_of_word

pub returns-clause-not_truncated : goal.returns-clause-not_truncated
returns-clause-not_truncated c bytes fit = not_truncated bytes
