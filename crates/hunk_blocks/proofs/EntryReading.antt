-- What stands after the name of an EXT entry.
use Rattle.std.proofs.Common.{rules, ◌≡◌, ℕ, List, ◌∷◌, ◌++◌, length, append_assoc, Option}
use Rattle.hunk_words.specs.Bits.{name_longs, entry_type}
use Rattle.hunk_grammar.specs.{declared.ext_shape.ExtShape.ExtShape, ExtKinds.ext_shape}
use Rattle.hunk_blocks.specs.Entries.{IsShaped, shaped_text}
use Rattle.hunk_blocks.specs.{Values.IsExtEntry, Parts.ext_text, Reading.BeginsWithSome}
use Rattle.hunk_blocks.proofs.{Lists.append_same, PartTexts.ext_text_is}

-- what its shape wants
pub shaped_there : (words rest name mid : List ℕ) (word : ℕ) (s : Option ExtShape) → BeginsWithSome IsExtEntry ext_text words → words ≡ word ∷ rest → rest ≡ name ++ mid → length name ≡ name_longs word → ext_shape (entry_type word) ≡ s →
    BeginsWithSome (IsShaped s) (shaped_text s) mid
shaped_there words rest name mid word s b begins split count shape = search (rules, ext_text_is, append_assoc, append_same)
