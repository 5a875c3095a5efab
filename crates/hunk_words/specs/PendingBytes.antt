-- The bytes of a longword in progress, by their numbers.
use Rattle.std.specs.Prelude.{ℕ, ◌==◌, List, [], ◌∷◌, if◌then◌else◌}
use Rattle.hunk_words.specs.declared.pending.Pending.{Pending}

-- the bytes; a count above 3 is none of a loader's
abbrev pub pending_of : Pending → List ℕ
pending_of p =
    if p.count == 0 then []
    else if p.count == 1 then p.first ∷ []
    else if p.count == 2 then p.first ∷ p.second ∷ []
    else if p.count == 3 then p.first ∷ p.second ∷ p.third ∷ []
    else 0 ∷ 0 ∷ 0 ∷ 0 ∷ []
