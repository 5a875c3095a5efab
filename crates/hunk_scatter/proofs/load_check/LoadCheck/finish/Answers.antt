use Rattle.std.proofs.Common.{◌≡◌, ◌∙◌, ◌<◌, ℕ, List, length, ap, inl, subst}
use Rattle.hunk_scatter.specs.{HeaderBytes.IsHeader, LoadChecks.{IsBodyAfter, IsRefusedLoad, IsStageAfter, IsSummary, counted_bytes}, LoaderValues.HeaderLoaderValue, declared.load_check.Stage.Stage}
use Rattle.hunk_scatter.proofs.LoadCheckLaws.{body_ends, header_ends, no_file}
use Rattle.hunk_scatter.proofs.load_check.LoadCheck.finish.Goals as goal

pub returns-in-Header-clause-fault : goal.returns-in-Header-clause-fault
returns-in-Header-clause-fault c =
    let inv = subst (λ (s : Stage). IsStageAfter s c.self.inside.history.bytes) c.in-Header.is c.self.invariant in
    let fed : c.in-Header.loader.fed ≡ c.args.self = inv.0 ∙ c.self.view_is in
    (header_ends c.args.self c.truncated.result c.truncated.ensures.reason _ _ _ _ _ (c.loader.invariant.reading (ap (λ (v : HeaderLoaderValue). v.refused) c.loader.view_is ∙ inv.1))
    (ap (λ (v : HeaderLoaderValue). v.fed) c.loader.view_is ∙ fed) (subst (λ (bs : List ℕ). IsHeader bs → ⊥) c.self.view_is inv.3) c.fed.result (c.fed.ensures ∙ ap length fed)
    c.truncated.ensures.place c.truncated.ensures.part).0

pub returns-in-Header-clause-part : goal.returns-in-Header-clause-part
returns-in-Header-clause-part c =
    let inv = subst (λ (s : Stage). IsStageAfter s c.self.inside.history.bytes) c.in-Header.is c.self.invariant in
    let fed : c.in-Header.loader.fed ≡ c.args.self = inv.0 ∙ c.self.view_is in
    (header_ends c.args.self c.truncated.result c.truncated.ensures.reason _ _ _ _ _ (c.loader.invariant.reading (ap (λ (v : HeaderLoaderValue). v.refused) c.loader.view_is ∙ inv.1))
    (ap (λ (v : HeaderLoaderValue). v.fed) c.loader.view_is ∙ fed) (subst (λ (bs : List ℕ). IsHeader bs → ⊥) c.self.view_is inv.3) c.fed.result (c.fed.ensures ∙ ap length fed)
    c.truncated.ensures.place c.truncated.ensures.part).1

pub returns-in-Header-clause-none : goal.returns-in-Header-clause-none
returns-in-Header-clause-none c = no_file _ _ _ (returns-in-Header-clause-fault c)

pub returns-in-Body-clause-fault : goal.returns-in-Body-clause-fault
returns-in-Body-clause-fault c =
    let inv = subst (λ (s : Stage). IsStageAfter s c.self.inside.history.bytes) c.in-Body.is c.self.invariant in
    let after = subst (IsBodyAfter c.in-Body.body) c.self.view_is inv.0 in
    (body_ends c.args.self c.truncated-in-Body.result c.truncated-in-Body.ensures.reason _ _ after.checked inv.1 c.requires.few _ c.from-number.ensures c.truncated-in-Body.ensures.place c.truncated-in-Body.ensures.part).0

pub returns-in-Body-clause-part : goal.returns-in-Body-clause-part
returns-in-Body-clause-part c =
    let inv = subst (λ (s : Stage). IsStageAfter s c.self.inside.history.bytes) c.in-Body.is c.self.invariant in
    let after = subst (IsBodyAfter c.in-Body.body) c.self.view_is inv.0 in
    (body_ends c.args.self c.truncated-in-Body.result c.truncated-in-Body.ensures.reason _ _ after.checked inv.1 c.requires.few _ c.from-number.ensures c.truncated-in-Body.ensures.place c.truncated-in-Body.ensures.part).1

pub returns-in-Body-clause-none : goal.returns-in-Body-clause-none
returns-in-Body-clause-none c = no_file _ _ _ (returns-in-Body-clause-fault c)

pub returns-in-Whole-clause-summary : goal.returns-in-Whole-clause-summary
returns-in-Whole-clause-summary c =
    let inv = subst (λ (s : Stage). IsStageAfter s c.self.inside.history.bytes) c.in-Whole.is c.self.invariant in
    subst (λ (bs : List ℕ). length bs < counted_bytes → IsSummary bs c.in-Whole.summary) c.self.view_is inv c.requires.few

pub returns-in-Refused-clause-none : goal.returns-in-Refused-clause-none
returns-in-Refused-clause-none c =
    let inv = subst (λ (s : Stage). IsStageAfter s c.self.inside.history.bytes) c.in-Refused.is c.self.invariant in
    let refused = subst (λ (bs : List ℕ). length bs < counted_bytes → IsRefusedLoad bs c.in-Refused.refusal) c.self.view_is inv c.requires.few in
    no_file _ _ _ (inl refused.refused)
