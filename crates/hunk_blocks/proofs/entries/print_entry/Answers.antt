use Rattle.std.proofs.Common.{◌∙◌, ap, refl, sym, ◌++◌, Some}
use Rattle.hunk_words.specs.Longs.{bytes_of}
use Rattle.hunk_grammar.specs.declared.ext_shape.ExtShape.TheVariants.{Definition, References, Common}
use Rattle.hunk_blocks.specs.{Parts.counted_text, Views.entry_of}
use Rattle.hunk_blocks.proofs.TextBytes.{entry_printed, word_printed}
use Rattle.hunk_blocks.proofs.entries.print_entry.Goals as goal

pub returns-in-Some-Definition : goal.returns-in-Some-Definition
returns-in-Some-Definition g c = (
  c.print_long-in-Some-Definition.ensures.prints.0 ∙ c.print_payload.ensures.0 ∙ c.print_long.ensures.prints.0,
  entry_printed (Some Definition) (entry_of c.args.entry.now) _ _ _ _ (sym c.shape.ensures ∙ c.in-Some-Definition.is ∙ ap Some c.in-Some-Definition.field-0-is) c.print_long.ensures.prints.1 c.print_payload.ensures.1 c.print_long-in-Some-Definition.ensures.prints.1,
)

pub returns-in-Some-References : goal.returns-in-Some-References
returns-in-Some-References g c = (
  c.print_counted.ensures.0 ∙ c.print_payload.ensures.0 ∙ c.print_long.ensures.prints.0,
  entry_printed (Some References) (entry_of c.args.entry.now) _ _ _ _ (sym c.shape.ensures ∙ c.in-Some-References.is ∙ ap Some c.in-Some-References.field-0-is) c.print_long.ensures.prints.1 c.print_payload.ensures.1
      (c.print_counted.ensures.1 ∙ ap (λ l. c.print_payload.new.page.text ++ bytes_of (counted_text l)) c.payload.ensures),
)

pub returns-in-Some-Common : goal.returns-in-Some-Common
returns-in-Some-Common g c = (
  c.print_counted-in-Some-Common.ensures.0 ∙ c.print_long-in-Some-Common.ensures.prints.0 ∙ c.print_payload.ensures.0 ∙ c.print_long.ensures.prints.0,
  entry_printed (Some Common) (entry_of c.args.entry.now) _ _ _ _ (sym c.shape.ensures ∙ c.in-Some-Common.is ∙ ap Some c.in-Some-Common.field-0-is) c.print_long.ensures.prints.1 c.print_payload.ensures.1
      (word_printed c.args.entry.now.value c.args.entry.now.value (counted_text c.args.entry.now.offsets) _ _ _ refl c.print_long-in-Some-Common.ensures.prints.1
      (c.print_counted-in-Some-Common.ensures.1 ∙ ap (λ l. c.print_long-in-Some-Common.new.self.text ++ bytes_of (counted_text l)) c.payload-in-Some-Common.ensures)),
)
