use Rattle.std.proofs.Common.{ℕ, [], ◌∷◌, ◌-◌, ◌∙◌, subst, sym}
use Rattle.std.specs.List.{filter, flat_map}
use Rattle.std.proofs.lemmas.List.{length-map}
use Rattle.hunk_words.specs.Bits.{header_word}
use Rattle.hunk_words.specs.Longs.{bytes_of}
use Rattle.hunk_blocks.specs.Faults.{words}
use Rattle.hunk_files.specs.LoadText.{entry_labelled}
use Rattle.hunk_parts.specs.PartFaults.{is_hunk_row}
use Rattle.hunk_parts.specs.RowsText.{row_entry, rows_table}
use Rattle.hunk_parts.proofs.LongBytes.{longs_more}
use Rattle.hunk_parts.proofs.text.put_header.Goals as goal

pub returns : goal.returns
returns g c =
    let n = c.args.hunks in
    let table = words (flat_map entry_labelled (rows_table c.args.rows.now)) in
    subst (λ (k : ℕ). g.T.TakesBytes.takes c.args.taker.now (bytes_of (header_word ∷ 0 ∷ k ∷ 0 ∷ (k - 1) ∷ table)) c.put_table.new.taker)
    (c.requires.count ∙ sym (length-map (filter is_hunk_row c.args.rows.now) row_entry))
    (longs_more g.T.TakesBytes.takes g.met.T.TakesBytes.more c.args.taker.now c.put_front.new.taker c.put_table.new.taker (header_word ∷ 0 ∷ n ∷ 0 ∷ (n - 1) ∷ []) table c.put_front.ensures c.put_table.ensures)
