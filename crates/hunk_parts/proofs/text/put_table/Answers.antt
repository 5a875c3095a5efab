use Rattle.hunk_parts.proofs.LongBytes.{all_left, put_on}
use Rattle.hunk_parts.proofs.RowTexts.{table_row}
use Rattle.hunk_parts.proofs.text.put_table.Goals as goal

pub rows-init : goal.rows-init
rows-init g c = all_left g.T.TakesBytes.takes g.met.T.TakesBytes.more g.met.T.TakesBytes.none c.args.taker.now _

pub rows-preserved : goal.rows-preserved
rows-preserved g c =
    put_on g.T.TakesBytes.takes g.met.T.TakesBytes.more c.args.taker.now c.rows.taker c.put_entry_of.new.taker _ _ _ _ (table_row c.args.rows.now c.rows.i _ c.rows-test.true) c.rows.invariant c.put_entry_of.ensures
