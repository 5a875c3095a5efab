use Rattle.std.proofs.Common.{◌≡◌, ◌+◌, [], List, Option, None, arith, drop, map, subst, sym}
use Rattle.std.proofs.Math.ListN.{drop_of_length-le}
use Rattle.hunk_words.specs.declared.block_word.Kind.{Kind}
use Rattle.hunk_parts.specs.RowsText.{row_part, text_from}
use Rattle.hunk_parts.specs.declared.part_row.PartRow.{PartRow}
use Rattle.hunk_parts.proofs.LongBytes.{PutUpTo, all_left, put_all, put_on}
use Rattle.hunk_parts.proofs.RowTexts.{body_row, no_row, seen_row}
use Rattle.hunk_parts.proofs.text.put_body.Goals as goal

pub rows-init : goal.rows-init
rows-init g c = record { seen = c.requires; text = all_left g.T.TakesBytes.takes g.met.T.TakesBytes.more g.met.T.TakesBytes.none c.args.taker.now _ }

pub put_row-list-requires : goal.put_row-list-requires
put_row-list-requires g c = (seen_row c.args.bytes.now c.args.rows.now c.rows.i no_row c.rows-test.true c.rows.invariant.seen).0

pub rows-preserved : goal.rows-preserved
rows-preserved g c =
    let bytes = c.args.bytes.now in
    let rows = c.args.rows.now in
    let i = c.rows.i in
    record {
      seen = (seen_row bytes rows i no_row c.rows-test.true c.rows.invariant.seen).1;
      text =
          subst (λ (list : Option Kind). PutUpTo g.T.TakesBytes.takes c.args.taker.now c.put_row-list.new.taker (text_from list (map (row_part bytes) (drop (i + 1) rows))) (text_from None (map (row_part bytes) rows))) (sym c.put_row-list.ensures.list)
          (put_on g.T.TakesBytes.takes g.met.T.TakesBytes.more c.args.taker.now c.rows.taker c.put_row-list.new.taker _ _ _ _ (body_row bytes c.rows.list rows i no_row c.rows-test.true) c.rows.invariant.text c.put_row-list.ensures.text);
    }

pub returns : goal.returns
returns g c =
    let bytes = c.args.bytes.now in
    let rows = c.args.rows.now in
    let none : drop c.rows.i rows ≡ [] = drop_of_length-le rows (omega (arith, c.rows-test.false)) in
    put_all g.T.TakesBytes.takes g.met.T.TakesBytes.more c.args.taker.now c.rows.taker c.put_closing.new.taker _ _
    (subst (λ (rs : List PartRow). PutUpTo g.T.TakesBytes.takes c.args.taker.now c.rows.taker (text_from c.rows.list (map (row_part bytes) rs)) (text_from None (map (row_part bytes) rows))) none c.rows.invariant.text) c.put_closing.ensures
