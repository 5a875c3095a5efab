use Rattle.std.proofs.Common.{◌++◌, ◌∙◌, map, ap, append_assoc}
use Rattle.hunk_words.specs.Longs.{bytes_of}
use Rattle.hunk_files.specs.Tables.{hunk_of, row_texts}
use Rattle.hunk_files.proofs.cuts.TextParts.{all_blocks, printed_two, text_split}
use Rattle.hunk_files.proofs.load.file.LoadFile.print.Goals as goal

pub returns : goal.returns
returns g c =
    let hunks = c.as_slice-hunks.result.now in
    let rows = bytes_of (row_texts hunks) in
    let blocks = bytes_of (all_blocks hunks) in
    let is = ap (map hunk_of) c.as_slice-hunks.ensures.value ∙ c.self.view_is in (
      c.print_hunks.ensures.0 ∙ c.print_table.ensures.0 ∙ c.print_longs.ensures.0,
      printed_two _ _ _ _ _ _ c.print_longs.ensures.1
          (c.print_hunks.ensures.1 ∙ ap (λ l. l ++ blocks) c.print_table.ensures.1
          ∙ append_assoc c.print_longs.new.page.text rows blocks)
          (text_split hunks c.args.self.now c.hunks-count.result is c.hunks-count.ensures.value),
    )
