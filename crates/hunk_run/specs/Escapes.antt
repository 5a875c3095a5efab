-- How text of the command line, as the name of a file, is shown on standard error: nothing of it acts on a terminal.
use Rattle.std.specs.Prelude.{◌==◌, ◌&&◌, ◌||◌, ◌/◌, ◌%◌, ◌++◌, ◌∷◌, ℕ, Bool, true, false, not, nat_le, nat_lt, List, [], codes, if◌then◌else◌}
use Rattle.std.specs.Char.{encode_utf8}
use Rattle.std.specs.Fmt.{digit_glyph}
use Rattle.std.specs.List.{flat_map}
use Rattle.std.specs.Str.{chars}

-- a control character, as a terminal obeys it: U+0000 to U+001F and U+007F to U+009F
abbrev pub is_control : ℕ → Bool
is_control c = nat_lt c 0x20 || (nat_le 0x7F c && nat_le c 0x9F)

-- a character that does not stand for itself: the backslash, and a control character, but for a line end where there are lines
abbrev pub is_escaped : Bool → ℕ → Bool
is_escaped lines c = (is_control c || c == 0x5C) && not (lines && c == 0x0A)

-- a byte as `\x` and two hexadecimal digits
abbrev pub escape : ℕ → List ℕ
escape byte = codes "\\x" ++ (digit_glyph false (byte / 16) ∷ digit_glyph false (byte % 16) ∷ [])

-- a character in UTF-8, or each byte that it has there as an escape
unfoldable pub shown : Bool → ℕ → List ℕ
shown lines c = if is_escaped lines c then flat_map escape (encode_utf8 c) else encode_utf8 c

-- a text on one line
abbrev pub escaped : List ℕ → List ℕ
escaped text = flat_map (shown false) (chars text)

-- a text that has line ends of its own
abbrev pub escaped_lines : List ℕ → List ℕ
escaped_lines text = flat_map (shown true) (chars text)
