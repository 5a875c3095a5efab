use Rattle.std.proofs.Common.{◌++◌, ◌∙◌, ap}
use Rattle.std.specs.List.{flat_map}
use Rattle.hunk_words.specs.Longs.{bytes_of}
use Rattle.hunk_blocks.specs.Parts.{block_text}
use Rattle.hunk_blocks.proofs.TextBytes.{words_printed}
use Rattle.hunk_files.specs.ObjectFile.{unit_header}
use Rattle.hunk_files.proofs.object.unit.print_unit.Goals as goal

pub returns : goal.returns
returns g c =
    let unit = c.args.unit.now in (
      c.print_hunks.ensures.0 ∙ c.print_header.ensures.0,
      words_printed (unit_header unit.name) (flat_map (flat_map block_text) unit.hunks) _ _ _
          (c.print_header.ensures.1 ∙ ap (λ l. c.args.page.now.text ++ bytes_of (unit_header l)) c.name.ensures.value)
          (c.print_hunks.ensures.1 ∙ ap (λ l. c.print_header.new.page.text ++ bytes_of (flat_map (flat_map block_text) l)) c.hunks.ensures.value),
    )
