-- The front of a piece with which a longword is complete.
use Rattle.std.proofs.Common.{rules, ◌≡◌, ℕ, ◌≤◌, List, [], ◌∷◌, ◌++◌, length, take, Option, Some}
use Rattle.hunk_words.specs.Longs.{bytes_of, Gathers}

pub record Completes (pending piece left : List ℕ) (n w : ℕ) : Type 0 where
  pub long : length (take n piece) ≡ n
  pub spelled : pending ++ take n piece ≡ bytes_of (w ∷ [])
  pub none_left : left ≡ []

pub completes : (pending piece left : List ℕ) (n w : ℕ) (next : Option ℕ) → next ≡ Some w → n ≤ length piece → Gathers (pending ++ take n piece) left next → Completes pending piece left n w
completes pending piece left n w next is inside gathers = search rules
