-- What is counted part by part, as far as 64 bits go. The laws that a counter has to give stand
-- here, too, as code can't cite what is in proofs/.
use Rattle.std.specs.Prelude.{◌≡◌, ◌+◌, ℕ, List, [], ◌++◌, length}
use Rattle.std.proofs.Common.{length-append, ap, ◌∙◌, arith}
use Rattle.hunk_words.specs.Carriers.{saturated}

-- What was the count of some is the count of those and these.
abbrev pub Counts : {A : Type 0} → ℕ → List A → ℕ → Type 0
Counts m xs n = (before : ℕ) → m ≡ saturated before → n ≡ saturated (before + length xs)

pub counts_none : (A : Type 0) (n : ℕ) → Counts {A = A} n [] n
counts_none A n before is = is ∙ ap saturated (omega arith)

pub counts_more : {A : Type 0} (m n k : ℕ) (xs ys : List A) → Counts m xs n → Counts n ys k → Counts m (xs ++ ys) k
counts_more m n k xs ys first next before is =
    next (before + length xs) (first before is) ∙ ap saturated (omega (arith, length-append xs ys))
