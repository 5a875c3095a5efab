use Rattle.std.proofs.Common.{◌≡◌, ◌*◌, ◌≤◌, ℕ, List, length, ap, arith}
use Rattle.hunk_wide.proofs.Counted.{at_most_twice}
use Rattle.hunk_c.specs.Plains.{Plains, IsWritten, HasNoRoom}
use Rattle.hunk_c.specs.declared.answer.Answer.{Answer}
use Rattle.hunk_c.proofs.laws.room_for_plain.Goals as goal

pub returns : goal.returns
returns c = fits
  where
    fits : (bytes old new : List ℕ) (answer : Answer) → Plains bytes old new answer → 2 * length bytes ≤ length old → answer.number ≡ 0
    fits bytes old new answer (IsWritten room n e) twice = ap (λ (a : Answer). a.number) e
    fits bytes old new answer (HasNoRoom less n e) twice = absurd (omega (arith, less, twice, at_most_twice bytes))
