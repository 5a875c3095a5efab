use Rattle.std.proofs.Common.{inl, inr, ◌*◌, ◌/◌, ◌++◌, length, sym, ap, subst, ◌∙◌, arith}
use Rattle.hunk_grammar.specs.declared.file_kind.Sniff.TheVariants as sniffs
use Rattle.hunk_files.specs.{Fault.IsTruncated, FileParts.IsPartAt}
use Rattle.hunk_files.specs.declared.part.Part.TheVariants as parts
use Rattle.hunk_scatter.specs.{HeaderBytes.IsHeader, HeaderFaults.ExceedsBudget, LoaderValues.{HeaderLoaderValue, HasNoRefusal}}
use Rattle.hunk_scatter.specs.HeaderOwing.{HasRowsToCome, HasHeaderToCome}
use Rattle.hunk_scatter.proofs.BodyFields.{none_of}
use Rattle.hunk_scatter.proofs.HeaderFields.{heading_clean, heading_truncated, heading_within, heading_not_whole, heading_table, heading_least}
use Rattle.hunk_scatter.proofs.{HeaderOwed.{rows_to_come, header_to_come, no_rows_to_come, no_header_to_come}, PartLaws.header_next}
use Rattle.hunk_scatter.proofs.header_loader.HeaderLoader.want.Goals as goal

pub returns-then-is_after_header-clause-clean : goal.returns-then-is_after_header-clause-clean
returns-then-is_after_header-clause-clean c none = subst (λ (v : HeaderLoaderValue). HasNoRefusal v.fed) c.self.view_is (heading_clean _ _ _ _ _ (c.self.invariant.reading (ap (λ (v : HeaderLoaderValue). v.refused) c.self.view_is ∙ none)))

pub returns-then-is_after_header-clause-truncated : goal.returns-then-is_after_header-clause-truncated
returns-then-is_after_header-clause-truncated c none =
    subst (λ (v : HeaderLoaderValue). IsTruncated v.fed (4 * (length v.fed / 4))) c.self.view_is (heading_truncated _ _ _ _ _ (c.self.invariant.reading (ap (λ (v : HeaderLoaderValue). v.refused) c.self.view_is ∙ none)))

pub returns-then-is_after_header-clause-keeps_to_budget : goal.returns-then-is_after_header-clause-keeps_to_budget
returns-then-is_after_header-clause-keeps_to_budget c none at p =
    heading_within _ _ _ _ _ (c.self.invariant.reading (ap (λ (v : HeaderLoaderValue). v.refused) c.self.view_is ∙ none)) at
    (subst (λ (v : HeaderLoaderValue). ExceedsBudget v.budget v.fed at) (sym c.self.view_is) p)

pub returns-clause-clean : goal.returns-clause-clean
returns-clause-clean c none = subst (λ (v : HeaderLoaderValue). HasNoRefusal v.fed) c.self.view_is (heading_clean _ _ _ _ _ (c.self.invariant.reading (ap (λ (v : HeaderLoaderValue). v.refused) c.self.view_is ∙ none)))

pub returns-clause-truncated : goal.returns-clause-truncated
returns-clause-truncated c none =
    subst (λ (v : HeaderLoaderValue). IsTruncated v.fed (4 * (length v.fed / 4))) c.self.view_is (heading_truncated _ _ _ _ _ (c.self.invariant.reading (ap (λ (v : HeaderLoaderValue). v.refused) c.self.view_is ∙ none)))

pub returns-clause-keeps_to_budget : goal.returns-clause-keeps_to_budget
returns-clause-keeps_to_budget c none at p =
    heading_within _ _ _ _ _ (c.self.invariant.reading (ap (λ (v : HeaderLoaderValue). v.refused) c.self.view_is ∙ none)) at
    (subst (λ (v : HeaderLoaderValue). ExceedsBudget v.budget v.fed at) (sym c.self.view_is) p)

pub returns-clause-over : goal.returns-clause-over
returns-clause-over c none w =
    absurd (heading_not_whole _ _ _ _ _ (c.self.invariant.reading (ap (λ (v : HeaderLoaderValue). v.refused) c.self.view_is ∙ none)) (sym c.is_after_header.ensures ∙ c.if-is_after_header.false)
    (subst (λ (v : HeaderLoaderValue). IsHeader v.fed) (sym c.self.view_is) w))

pub returns-clause-least : goal.returns-clause-least
returns-clause-least c t more is e =
    let o = heading_least _ _ _ _ _ (c.self.invariant.reading (none_of c.self.inside.refused (sym c.is_some.ensures ∙ c.if-is_some.false))) (sym c.is_after_header.ensures ∙ c.if-is_after_header.false) t more is
    (e ∙ ap (λ (v : HeaderLoaderValue). v.fed ++ more) (sym c.self.view_is)) in
    omega (arith, o, c.least_longs.ensures.value, c.bytes_wanted.ensures.to_come)

pub returns-then-is_after_header-clause-finished : goal.returns-then-is_after_header-clause-finished
returns-then-is_after_header-clause-finished c none same =
    let t =
    heading_table _ _ _ _ _ (c.self.invariant.reading (ap (λ (v : HeaderLoaderValue). v.refused) c.self.view_is ∙ none)) (sym c.is_after_header.ensures ∙ c.if-is_after_header.true) in
    subst (λ (v : HeaderLoaderValue). IsHeader v.fed) c.self.view_is (_, t.0, t.1)

pub returns-clause-to_come : goal.returns-clause-to_come
returns-clause-to_come c none p t =
    let o = header_to_come _ _ _ _ _ (c.self.invariant.reading (ap (λ (v : HeaderLoaderValue). v.refused) c.self.view_is ∙ none)) p (sym c.is_after_header.ensures ∙ c.if-is_after_header.false)
    (subst (λ (v : HeaderLoaderValue). HasHeaderToCome v.fed p) (sym c.self.view_is) t) in
    elim c.bytes_wanted.ensures.all [
      | inl all ↦ inl (omega (arith, o, c.least_longs.ensures.value, all))
      | inr most ↦ inr most
    ]

pub returns-then-is_after_header-clause-to_come : goal.returns-then-is_after_header-clause-to_come
returns-then-is_after_header-clause-to_come c none p t =
    let e = no_header_to_come _ _ _ _ _ (c.self.invariant.reading (ap (λ (v : HeaderLoaderValue). v.refused) c.self.view_is ∙ none)) p (sym c.is_after_header.ensures ∙ c.if-is_after_header.true)
    (subst (λ (v : HeaderLoaderValue). HasHeaderToCome v.fed p) (sym c.self.view_is) t) in
    inl (omega (arith, e))

pub returns-clause-rows : goal.returns-clause-rows
returns-clause-rows c none p t =
    let o = rows_to_come _ _ _ _ _ (c.self.invariant.reading (ap (λ (v : HeaderLoaderValue). v.refused) c.self.view_is ∙ none)) p (sym c.is_after_header.ensures ∙ c.if-is_after_header.false)
    (subst (λ (v : HeaderLoaderValue). HasRowsToCome v.fed p) (sym c.self.view_is) t) in
    elim c.bytes_wanted.ensures.all [
      | inl all ↦ inl (omega (arith, o, c.least_longs.ensures.value, all))
      | inr most ↦ inr most
    ]

pub returns-then-is_after_header-clause-rows : goal.returns-then-is_after_header-clause-rows
returns-then-is_after_header-clause-rows c none p t =
    let e = no_rows_to_come _ _ _ _ _ (c.self.invariant.reading (ap (λ (v : HeaderLoaderValue). v.refused) c.self.view_is ∙ none)) p (sym c.is_after_header.ensures ∙ c.if-is_after_header.true)
    (subst (λ (v : HeaderLoaderValue). HasRowsToCome v.fed p) (sym c.self.view_is) t) in
    inl (omega (arith, e))

pub returns-clause-in_header : goal.returns-clause-in_header
returns-clause-in_header c some =
    let h = c.self.invariant.reading (none_of c.self.inside.refused (sym c.is_some.ensures ∙ c.if-is_some.false)) in
    subst (λ (v : HeaderLoaderValue). IsPartAt sniffs.Load v.fed (4 * (length v.fed / 4)) parts.Header) c.self.view_is
    (header_next _ _ _ _ _ h (sym c.is_after_header.ensures ∙ c.if-is_after_header.false))
