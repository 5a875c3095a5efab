-- The room that the warnings of a load file take.
use Rattle.std.specs.Prelude.{ℕ, ◌+◌, List, [], ◌∷◌, length, map, max}
use Rattle.hunk_files.specs.Image.{relocations}
use Rattle.hunk_files.specs.LoadFile.{LoadFileValue}

-- 0 where there is none
abbrev pub greatest : List ℕ → ℕ
greatest [] = 0
greatest (n ∷ rest) = max n (greatest rest)

-- An element for each hunk and, of the hunk with the most relocations, one for each offset.
abbrev pub room_for : LoadFileValue → ℕ
room_for v = length v + greatest (map (λ h. length (relocations h)) v)
