-- What a source gave, where its bytes are known.
use Rattle.std.proofs.Common.{◌≡◌, ℕ, List, ◌++◌, Option, Some, None, ap, subst, ◌∙◌, append-nil}
use Rattle.std.specs.Io.KnownBytes.{Consumes, IsAtEnd}

consumed : (input : List ℕ) (b : Option (List ℕ)) (bytes : List ℕ) → Consumes (Some input) b bytes → IsAtEnd b → input ≡ bytes
consumed input (Some rest) bytes split none = split ∙ ap (λ (xs : List ℕ). bytes ++ xs) none ∙ append-nil bytes
consumed input None bytes split none = absurd split

-- it was read to its end
pub consumed_all : (a b : Option (List ℕ)) (input bytes : List ℕ) → a ≡ Some input → Consumes a b bytes → IsAtEnd b → input ≡ bytes
consumed_all a b input bytes known given at_end = consumed input b bytes (subst (λ (o : Option (List ℕ)). Consumes o b bytes) known given) at_end
