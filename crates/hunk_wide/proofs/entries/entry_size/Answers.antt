use Rattle.std.proofs.Common.{suc, ◌∙◌, Some, refl, sym, ap, arith}
use Rattle.hunk_words.specs.Bits.{name_longs}
use Rattle.hunk_grammar.specs.declared.ext_shape.ExtShape.{ExtShape}
use Rattle.hunk_grammar.specs.declared.ext_shape.ExtShape.TheVariants.{References, Common}
use Rattle.hunk_wide.proofs.Bodies.{definition_over, referring_over}
use Rattle.hunk_wide.proofs.entries.entry_size.Goals as goal

pub returns-in-Definition-2 : goal.returns-in-Definition-2
returns-in-Definition-2 c =
    definition_over c.args.bytes.now c.args.word _ c.requires.word c.requires.some (sym c.shape_of.ensures ∙ c.in_ok-shape_of.was ∙ ap (λ (x : ExtShape). Some x) c.in-Definition-2.is)
    refl (omega (arith, c.if-bytes-named.false))

pub returns-in-References : goal.returns-in-References
returns-in-References c =
    referring_over References c.args.bytes.now c.args.word (name_longs c.args.word) _ c.referenced_size.result c.requires.word c.requires.some
    (sym c.shape_of.ensures ∙ c.in_ok-shape_of.was ∙ ap (λ (x : ExtShape). Some x) c.in-References.is) refl refl c.referenced_size.ensures

pub returns-in-Common : goal.returns-in-Common
returns-in-Common c =
    referring_over Common c.args.bytes.now c.args.word (suc (name_longs c.args.word)) _ c.referenced_size-in-Common.result c.requires.word c.requires.some
    (sym c.shape_of.ensures ∙ c.in_ok-shape_of.was ∙ ap (λ (x : ExtShape). Some x) c.in-Common.is) refl (omega arith) c.referenced_size-in-Common.ensures
