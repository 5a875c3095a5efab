use Rattle.std.proofs.Common.{rules, ◌++◌, flat_map, sym, ap, ◌∙◌, append_assoc}
use Rattle.std.proofs.Output.{has_written_append}
use Rattle.hunk_run.specs.Escapes.{escape}
use Rattle.hunk_run.proofs.escaped.write_escapes.Goals as goal

pub bytes-preserved : goal.bytes-preserved
bytes-preserved g c =
    λ plain.
    let now = c.bytes.invariant plain in
    let byte = c.in-Some.byte in (
      now.0 ++ escape byte,
      has_written_append _ _ _ _ _ _ now.1 (search rules),
      append_assoc now.0 (escape byte) _ ∙ ap (λ l. now.0 ++ flat_map escape l) (sym c.in-Some.ensures.steps) ∙ now.2,
    )
