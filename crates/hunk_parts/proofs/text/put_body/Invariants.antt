use Rattle.std.proofs.Common.{drop, map, IsTrue}
use Rattle.std.specs.List.{AllByRecursion}
use Rattle.std.specs.Prelude.{None, is_some}
use Rattle.hunk_parts.specs.Parts.{seen}
use Rattle.hunk_parts.specs.RowsText.{row_part, text_from}
use Rattle.hunk_parts.proofs.LongBytes.{PutUpTo}
use Rattle.hunk_parts.proofs.text.put_body.Given as goal

abbrev pub invariant-rows : goal.invariant-rows
invariant-rows g l = record {
  seen : AllByRecursion (λ r. IsTrue (is_some (seen l.bytes r))) (drop l.i l.rows);
  text : PutUpTo g.T.TakesBytes.takes l.fn.taker l.taker (text_from l.list (map (row_part l.bytes) (drop l.i l.rows))) (text_from None (map (row_part l.bytes) l.rows));
}
