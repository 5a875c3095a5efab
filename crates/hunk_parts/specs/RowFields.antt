-- The fields of a row.
use Rattle.std.specs.Prelude.{ℕ, ◌+◌, ◌*◌, List}
use Rattle.std.specs.List.{AllByRecursion}
use Rattle.hunk_words.specs.Longs.{IsLong}
use Rattle.hunk_parts.specs.declared.part_row.PartRow.{PartRow}

-- Its numbers fit their fields.
pub record IsRow (r : PartRow) : Type 0 where
  pub word : IsLong r.word
  pub value : IsLong r.value

abbrev pub AreRows : List PartRow → Type 0
AreRows rows = AllByRecursion IsRow rows

-- how many bytes it points at
abbrev pub pointed_bytes : PartRow → ℕ
pointed_bytes r = r.content_bytes + 4 * r.offset_count
