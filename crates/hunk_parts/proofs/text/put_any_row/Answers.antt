use Rattle.std.proofs.Common.{◌++◌, subst, sym}
use Rattle.hunk_words.specs.Longs.{bytes_of}
use Rattle.hunk_parts.specs.Parts.{FilePart}
use Rattle.hunk_parts.specs.RowsText.{closing, part_seen, part_text}
use Rattle.hunk_parts.proofs.LongBytes.{longs_more}
use Rattle.hunk_parts.proofs.RowSizes.{seen_part}
use Rattle.hunk_parts.proofs.text.put_any_row.Goals as goal

pub returns-clause-text : goal.returns-clause-text
returns-clause-text g c =
    let zero = closing c.args.list c.args.row.now.what in
    let q = part_seen c.in-Some.part in
    subst (λ (p : FilePart). g.T.TakesBytes.takes c.args.taker.now (bytes_of (zero ++ part_text p)) c.put_part.new.taker) (sym (seen_part c.args.bytes.now c.args.row.now q c.in-Some.ensures.some))
    (longs_more g.T.TakesBytes.takes g.met.T.TakesBytes.more c.args.taker.now c.put_closing.new.taker c.put_part.new.taker zero (part_text q) c.put_closing.ensures c.put_part.ensures)
