-- The kind of file that the first longword announces.
use Rattle.std.specs.Prelude.{ℕ, List, [], ◌∷◌, ◌==◌, if◌then◌else◌}
use Rattle.hunk_words.specs.Bits.{header_word, unit_word, library_word}
use Rattle.hunk_grammar.specs.declared.file_kind.Sniff.{Sniff}
use Rattle.hunk_grammar.specs.declared.file_kind.Sniff.TheVariants.{Load, Object, Library, Other}

abbrev pub announced : ℕ → Sniff
announced first =
    if first == header_word then Load
    else if first == unit_word then Object
    else if first == library_word then Library
    else Other

-- of a file with these longwords
abbrev pub sniffed : List ℕ → Sniff
sniffed [] = Other
sniffed (first ∷ words) = announced first
