use Rattle.std.proofs.Common.{ℕ, List, subst}
use Rattle.hunk_files.specs.{Fault.Expects, FileSteps.{Finished, role_of}, WordsRead.HasRead}
use Rattle.hunk_files.proofs.{parts.LoadParts.expects_read, walk.ReadFiles.read_of, walk.Scan.expects_of, walk.SpelledText.words_are}
use Rattle.hunk_files.proofs.walk.Reading.{file_read, one_place, read_ended, reads}
use Rattle.hunk_files.proofs.laws.words_read.Goals as goal

pub returns-clause-whole : goal.returns-clause-whole
returns-clause-whole c ws v = (read_ended ws v, λ h. subst (λ (xs : List ℕ). HasRead xs (Finished v)) h.1 (file_read v h.0))

pub returns-clause-some : goal.returns-clause-some
returns-clause-some c = expects_read

pub returns-clause-goes_on : goal.returns-clause-goes_on
returns-clause-goes_on c ws p h = subst (λ (xs : List ℕ). Expects xs (role_of p)) h.all (expects_of p h.done (reads h))

pub returns-clause-one : goal.returns-clause-one
returns-clause-one c = one_place

pub returns-clause-spells : goal.returns-clause-spells
returns-clause-spells c = words_are

pub returns-clause-tells : goal.returns-clause-tells
returns-clause-tells c = read_of
