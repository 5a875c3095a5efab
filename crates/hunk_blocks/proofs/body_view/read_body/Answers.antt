use Rattle.std.proofs.Common.{rules, ◌∙◌, sym}
use Rattle.std.specs.Prelude.{IsTrue}
use Rattle.hunk_words.specs.declared.block_word.Kind.TheVariants as kinds
use Rattle.hunk_words.specs.Bits.{is_relocation}
use Rattle.hunk_blocks.proofs.BodyReading.{body_stands, groups_stand}
use Rattle.hunk_blocks.proofs.body_view.read_body.Goals as goal

pub sized-top-requires : goal.sized-top-requires
sized-top-requires c = body_stands c.args.word c.args.reader.now.rest c.requires kinds.Code (sym c.in-Code.is ∙ c.kind.ensures)

pub sized-top-requires-in-Data : goal.sized-top-requires-in-Data
sized-top-requires-in-Data c = body_stands c.args.word c.args.reader.now.rest c.requires kinds.Data (sym c.in-Data.is ∙ c.kind.ensures)

pub of-requires : goal.of-requires
of-requires c = body_stands c.args.word c.args.reader.now.rest c.requires kinds.Ext (sym c.in-Ext.is ∙ c.kind.ensures)

pub of-requires-in-Symbol : goal.of-requires-in-Symbol
of-requires-in-Symbol c = body_stands c.args.word c.args.reader.now.rest c.requires kinds.Symbol (sym c.in-Symbol.is ∙ c.kind.ensures)

pub of-requires-in_default : goal.of-requires-in_default
of-requires-in_default c = let is : IsTrue (is_relocation c.kind.result) = search rules in groups_stand c.args.word c.args.reader.now.rest c.requires c.kind.result c.kind.ensures is
