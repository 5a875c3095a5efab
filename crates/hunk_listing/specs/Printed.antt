-- How numbers and names are printed.
use Rattle.std.specs.Prelude.{◌==◌, ◌&&◌, ℕ, Bool, not, nat_le, List, [], ◌∷◌, ◌++◌, codes, if◌then◌else◌}
use Rattle.std.specs.List.{flat_map}
use Rattle.std.specs.Int.{to_be_bytes, w32}
use Rattle.hunk_words.specs.Longs.{bytes_of}
use Rattle.hex.specs.Hex.{encode_lower}

-- eight hexadecimal digits
abbrev pub digits : ℕ → List ℕ
digits number = encode_lower (to_be_bytes w32 number)

-- `0x` and these
abbrev pub hexadecimal : ℕ → List ℕ
hexadecimal number = codes "0x" ++ digits number

-- a byte that stands for itself: 0x20 to 0x7E, other than the backslash
abbrev pub is_plain : ℕ → Bool
is_plain byte = nat_le 0x20 byte && nat_le byte 0x7E && not (byte == 0x5C)

-- another one is `\x` and its two hexadecimal digits
unfoldable pub character : ℕ → List ℕ
character byte = if is_plain byte then byte ∷ [] else codes "\\x" ++ encode_lower (byte ∷ [])

-- the bytes before the first zero byte
abbrev pub before_zero : List ℕ → List ℕ
before_zero [] = []
before_zero (byte ∷ bytes) = if byte == 0 then [] else byte ∷ before_zero bytes

abbrev pub characters : List ℕ → List ℕ
characters bytes = flat_map character (before_zero bytes)

-- the text of a name, which is kept in longwords
abbrev pub name_text : List ℕ → List ℕ
name_text name = characters (bytes_of name)
