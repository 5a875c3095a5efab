use Rattle.std.proofs.Common.{Option, ap, sym, ◌∙◌}
use Rattle.hunk_grammar.specs.declared.ext_shape.ExtShape.{ExtShape}
use Rattle.hunk_parts.specs.RowsText.{part_seen, shape_text}
use Rattle.hunk_parts.proofs.LongBytes.{longs_none}
use Rattle.hunk_parts.proofs.writing.put_after_name.Goals as goal

pub returns-in_default : goal.returns-in_default
returns-in_default g c =
    longs_none g.T.TakesBytes.takes g.met.T.TakesBytes.more g.met.T.TakesBytes.none c.args.taker.now _ (ap (λ (s : Option ExtShape). shape_text s (part_seen c.args.part.now)) (sym c.shape_of_type.ensures ∙ c.in_default.is))
