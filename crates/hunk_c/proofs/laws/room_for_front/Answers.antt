use Rattle.std.proofs.Common.{◌≡◌, ◌≤◌, ℕ, List, length, take, ap, arith}
use Rattle.hunk_words.specs.Longs.{longs}
use Rattle.hunk_words.proofs.LongLaws.{length-longs}
use Rattle.hunk_files.specs.HunkFile.{file_bytes}
use Rattle.hunk_files.specs.declared.hunk_file.HunkFile.{HunkFile}
use Rattle.hunk_c.specs.Files.{hunks_in}
use Rattle.hunk_c.specs.Fronts.{Fronts, HasNone, IsClosed, IsFront, IsMade, LacksRoom}
use Rattle.hunk_c.specs.declared.answer.Answer.{Answer}
use Rattle.hunk_c.proofs.ClosedFiles.{closed_fourfold, closed_size}
use Rattle.hunk_c.proofs.laws.room_for_front.Goals as goal

-- There is room, unless the file is longer.
fits : (bytes old new : List ℕ) (answer : Answer) → Fronts bytes old new answer →
    ((n : ℕ) (file : HunkFile) → IsFront (longs bytes) n → IsClosed (take n (longs bytes)) file → answer.hunk ≡ hunks_in file → length (file_bytes file) ≤ length old) → answer.number ≡ 0
fits bytes old new answer (IsMade n file f closed room same e) enough = ap (λ (a : Answer). a.number) e
fits bytes old new answer (LacksRoom n file f closed less same e) enough = absurd (omega (arith, less, enough n file f closed (ap (λ (a : Answer). a.hunk) e)))
fits bytes old new answer (HasNone none same e) enough = ap (λ (a : Answer). a.number) e

pub returns : goal.returns
returns c = record {
  by_hunks = λ bytes old new answer h room. fits bytes old new answer h (λ n file f closed e. omega (arith, room, e, closed_size (longs bytes) n file f.inside closed, f.inside, length-longs bytes));
  fourfold = λ bytes old new answer h room. fits bytes old new answer h (λ n file f closed e. omega (arith, room, closed_fourfold (longs bytes) n file f.inside closed, f.inside, length-longs bytes));
}
