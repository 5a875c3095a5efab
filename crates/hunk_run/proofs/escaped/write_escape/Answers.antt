use Rattle.std.proofs.Common.{rules, ◌^◌, ◌-◌, [], List, ℕ, Option, Some, codes, ap, subst, ◌∙◌, false}
use Rattle.std.proofs.lemmas.Fmt.{hex_byte}
use Rattle.std.specs.Fmt.{DisplaysOnOk, ◌++?◌, format_spec, padded_integral, styled_digits_output}
use Rattle.std.specs.Option.{option_map}
use Rattle.hunk_run.proofs.escaped.write_escape.Goals as goal

pub returns : goal.returns
returns g c =
    let digits = ap (styled_digits_output c.in_radix.result) c.laid_out.ensures
    ∙ ap (option_map (padded_integral (format_spec 32 0 4 2 (2 ^ 64 - 1)) false [])) c.in_radix.ensures
    ∙ ap (λ (l : List ℕ). Some l) (hex_byte false c.args.byte (search rules)) in
    subst (λ (o : Option (List ℕ)). DisplaysOnOk g.W.Write.write_str_gives c.args.f.now c.write.result (Some (codes "\\x") ++? o) c.write.new.self) digits c.write.ensures.writes
