-- What `relocate` prints of the segments that it loaded.
use Rattle.std.specs.Prelude.{ℕ, zero, suc, ◌+◌, ◌/◌, List, [], ◌++◌, length, take, drop, codes, decimal}
use Rattle.hex.specs.Hex.{encode_lower}
use Rattle.hunk_listing.specs.Printed.{hexadecimal}
use Rattle.hunk_listing.specs.FileLines.{numbered}

pub record Segment : Type 0 where
  pub base : ℕ
  pub bytes : List ℕ

-- `hunk D base X D bytes`: its number, its base, how many bytes it has
unfoldable pub segment_line : ℕ → ℕ → ℕ → List ℕ
segment_line number base size = codes "hunk " ++ decimal number ++ codes " base " ++ hexadecimal base ++ codes " " ++ decimal size ++ codes " bytes\n"

-- two spaces, and two hexadecimal digits a byte
unfoldable pub dump_row : List ℕ → List ℕ
dump_row bytes = codes "  " ++ encode_lower bytes ++ codes "\n"

-- this many rows of sixteen bytes, of which the last may be shorter
unfoldable pub dump_rows : ℕ → List ℕ → List ℕ
dump_rows zero bytes = []
dump_rows (suc count) bytes = dump_row (take 16 bytes) ++ dump_rows count (drop 16 bytes)

abbrev pub dump : List ℕ → List ℕ
dump bytes = dump_rows ((length bytes + 15) / 16) bytes

abbrev pub segment_lines : ℕ → Segment → List ℕ
segment_lines number segment = segment_line number segment.base (length segment.bytes) ++ dump segment.bytes

-- the lines of the segments, numbered from 0
abbrev pub segment_listing : List Segment → List ℕ
segment_listing segments = numbered segment_lines 0 segments
