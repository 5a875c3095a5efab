use Rattle.std.proofs.Common.{rules, ◌++◌, flat_map, sym, ap, subst, ◌∙◌, append_assoc, append-nil}
use Rattle.std.proofs.Output.{has_written_append}
use Rattle.std.proofs.lemmas.List.{nil_from_length}
use Rattle.std.proofs.lemmas.Str.{IsUtf8-past_char, chars_past_char, chars-nil}
use Rattle.std.specs.Fmt.{HasWritten}
use Rattle.std.specs.Str.{chars}
use Rattle.hunk_run.specs.Escapes.{shown}
use Rattle.hunk_run.proofs.escaped.write_text.Goals as goal

pub text-preserved : goal.text-preserved
text-preserved g c =
    let utf8 = c.text.invariant.0 in
    let step = c.in-Some.ensures.steps.0 in (
      IsUtf8-past_char _ _ _ utf8 step,
      λ plain.
          let now = c.text.invariant.1 plain in (
            now.0 ++ shown c.args.lines c.in-Some.c,
            has_written_append _ _ _ _ _ _ now.1 (search rules),
            append_assoc now.0 (shown c.args.lines c.in-Some.c) _ ∙ ap (λ l. now.0 ++ flat_map (shown c.args.lines) l) (sym (chars_past_char _ _ _ utf8 step)) ∙ now.2,
          ),
    )

pub returns : goal.returns
returns g c =
    λ plain ok.
    let now = c.text.invariant.1 plain in
    let none = nil_from_length _ c.in_default.ensures.steps.0.0 in
    let whole = sym (append-nil now.0) ∙ ap (λ l. now.0 ++ flat_map (shown c.args.lines) l) (sym chars-nil ∙ ap chars (sym none)) ∙ now.2 in
    subst (λ text. HasWritten g.W.Write.write_str_gives c.args.f.now text c.text.f) whole now.1
