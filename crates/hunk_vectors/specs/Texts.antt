-- Hexadecimal text of digits alone.
use Rattle.std.specs.Prelude.{◌≡◌, ℕ, List, Ok}
use Rattle.hex.specs.Hex.{decode_of}

-- the text is that of the bytes, two digits a byte
abbrev pub Spells : List ℕ → List ℕ → Type 0
Spells text bytes = decode_of text ≡ Ok bytes
