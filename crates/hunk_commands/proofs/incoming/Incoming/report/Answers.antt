use Rattle.std.proofs.Common.{◌∙◌, ℕ, List, ap, sym, subst}
use Rattle.hunk_commands.specs.{Engine.PutsOrRefuses, Incoming.kept_bytes, Validated.IsValidated}
use Rattle.hunk_commands.proofs.incoming.Incoming.report.Goals as goal

pub returns-in-Front : goal.returns-in-Front
returns-in-Front g c =
    let same = c.as_slice.ensures.value ∙ sym (ap kept_bytes c.in-Front.is) ∙ c.self.view_is in
    subst (λ (bytes : List ℕ). PutsOrRefuses g.W.Sink.outlet (λ count. IsValidated count bytes) bytes c.args.w.now c.validate_bytes.new.w c.validate_bytes.result) same c.validate_bytes.ensures

pub returns-in-Load : goal.returns-in-Load
returns-in-Load g c =
    let same = sym (ap kept_bytes c.in-Load.is) ∙ c.self.view_is in
    subst (λ (bytes : List ℕ). PutsOrRefuses g.W.Sink.outlet (λ count. IsValidated count bytes) bytes c.args.w.now c.report_load.new.w c.report_load.result) same c.report_load.ensures

pub returns-in-Object : goal.returns-in-Object
returns-in-Object g c =
    let same = c.as_slice-in-Object.ensures.value ∙ sym (ap kept_bytes c.in-Object.is) ∙ c.self.view_is in
    subst (λ (bytes : List ℕ). PutsOrRefuses g.W.Sink.outlet (λ count. IsValidated count bytes) bytes c.args.w.now c.validate_bytes-in-Object.new.w c.validate_bytes-in-Object.result) same c.validate_bytes-in-Object.ensures
