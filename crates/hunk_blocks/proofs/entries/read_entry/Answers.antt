use Rattle.std.proofs.Common.{◌∙◌, Some, sym}
use Rattle.hunk_words.specs.Longs.{longs}
use Rattle.hunk_blocks.proofs.EntryReading.{shaped_there}
use Rattle.hunk_blocks.proofs.entries.read_entry.Goals as goal

pub read_shaped-value-requires : goal.read_shaped-value-requires
read_shaped-value-requires c =
    shaped_there c.args.reader.now.rest c.long-word.new.self.rest (longs c.name-name.result) c.name-name.new.self.rest c.long-word.result (Some c.in-Some.shape)
    c.requires c.long-word.ensures.front c.name-name.ensures.read.front c.name-name.ensures.count (sym c.shape_of.ensures ∙ c.in-Some.is)
