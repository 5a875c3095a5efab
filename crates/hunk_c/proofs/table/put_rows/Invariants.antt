use Rattle.std.specs.Prelude.{◌≡◌, List, length}
use Rattle.hunk_files.specs.LoadFile.{TableEntry}
use Rattle.hunk_scatter.specs.HeaderBytes.{BeginsWithHeader}
use Rattle.hunk_c.specs.{Tables.table_row, Packs.RowStandsAt}
use Rattle.hunk_c.proofs.Filling.{AreFilledTo}
use Rattle.hunk_c.proofs.table.put_rows.Given as goal

abbrev pub invariant-rows : goal.invariant-rows
invariant-rows l = (t : List TableEntry) (h : BeginsWithHeader l.bytes t) → length t ≡ length l.fn.rows → AreFilledTo table_row t l.row-items l.row-index × RowStandsAt l.bytes t h l.row-index l.at
