use Rattle.std.proofs.Common.{ap, arith, refl, sym, ◌∙◌, Option, Some}
use Rattle.hunk_words.specs.Longs.{longs}
use Rattle.hunk_words.proofs.LongLaws.{length-longs}
use Rattle.hunk_grammar.specs.declared.ext_shape.ExtShape.{ExtShape}
use Rattle.hunk_files.proofs.object_walk.PassedUnits.{common_entry, definition_over, references_entry}
use Rattle.hunk_files.proofs.object.passing.after_entry.Goals as goal

abbrev some : ExtShape → Option ExtShape
some s = Some s

pub returns-in-Definition-clause-entry : goal.returns-in-Definition-clause-entry
returns-in-Definition-clause-entry c =
    let bytes = c.args.bytes.now in
    definition_over (longs bytes) c.args.at c.args.word c.requires.word c.requires.some (sym c.shape_of.ensures ∙ c.in_ok-shape_of.was ∙ ap some c.in-Definition.is) _ refl (omega (arith, c.if-name-bytes.true, length-longs bytes))

pub returns-in-References-clause-entry : goal.returns-in-References-clause-entry
returns-in-References-clause-entry c = references_entry (longs c.args.bytes.now) c.args.at c.args.word c.requires.word c.requires.some (sym c.shape_of.ensures ∙ c.in_ok-shape_of.was ∙ ap some c.in-References.is) c.after_counted.result c.after_counted.ensures

pub returns-in-Common-clause-entry : goal.returns-in-Common-clause-entry
returns-in-Common-clause-entry c =
    common_entry (longs c.args.bytes.now) c.args.at c.args.word c.requires.word c.requires.some (sym c.shape_of.ensures ∙ c.in_ok-shape_of.was ∙ ap some c.in-Common.is) c.after_counted-in-Common.result c.after_counted-in-Common.ensures
