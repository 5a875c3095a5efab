-- The lines on a rewriting.
use Rattle.std.specs.Prelude.{◌==◌, ℕ, List, [], ◌++◌, codes, decimal, if◌then◌else◌}

-- `rest D bytes left out`, where bytes follow the file
unfoldable pub left_out_line : ℕ → List ℕ
left_out_line rest = if rest == 0 then [] else codes "rest " ++ decimal rest ++ codes " bytes left out\n"

-- `wrote D bytes`
unfoldable pub wrote_line : ℕ → List ℕ
wrote_line written = codes "wrote " ++ decimal written ++ codes " bytes\n"
