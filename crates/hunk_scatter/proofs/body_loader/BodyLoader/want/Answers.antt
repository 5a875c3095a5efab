use Rattle.std.proofs.Common.{inl, inr, ◌++◌, sym, ap, subst, ◌∙◌, arith}
use Rattle.hunk_grammar.specs.Positions.{is_done, least_longs}
use Rattle.hunk_scatter.specs.{LoaderValues.{BodyLoaderValue, IsWholeFile, HasNoRefusal}, Owing.BytesToCome}
use Rattle.hunk_scatter.proofs.BodyFields.{done_unless_open, fed_clean, none_of, none_to_come, owes_bytes, to_come_owed, whole_file}
use Rattle.hunk_scatter.proofs.body_loader.BodyLoader.want.Goals as goal

pub returns-in_default-clause-to_come : goal.returns-in_default-clause-to_come
returns-in_default-clause-to_come c none p t =
    let h = c.self.invariant.reading (none_of c.self.inside.refused (sym c.is_some.ensures ∙ c.if-is_some.false)) in
    let e = none_to_come _ _ _ _ h (done_unless_open _ _ _ _ h c.in_default.not-Body) p (subst (λ (l : BodyLoaderValue). BytesToCome l.fed p) (sym c.self.view_is) t) in
    inl (omega (arith, e))

pub returns-in_default-clause-finished : goal.returns-in_default-clause-finished
returns-in_default-clause-finished c none same =
    let h = c.self.invariant.reading (none_of c.self.inside.refused (sym c.is_some.ensures ∙ c.if-is_some.false)) in
    subst (λ (l : BodyLoaderValue). IsWholeFile l.rows l.fed) c.self.view_is (whole_file _ _ _ _ h (done_unless_open _ _ _ _ h c.in_default.not-Body))

pub returns-in_default-clause-clean : goal.returns-in_default-clause-clean
returns-in_default-clause-clean c none =
    let h = c.self.invariant.reading (none_of c.self.inside.refused (sym c.is_some.ensures ∙ c.if-is_some.false)) in
    subst (λ (l : BodyLoaderValue). HasNoRefusal l.fed) c.self.view_is (fed_clean _ _ _ _ h)

pub returns-clause-least : goal.returns-clause-least
returns-clause-least c v more is e =
    let h = c.self.invariant.reading (none_of c.self.inside.refused (sym c.is_some.ensures ∙ c.if-is_some.false)) in
    let o = owes_bytes _ _ _ _ h (ap is_done c.in-Body.is) v more is (e ∙ ap (λ (l : BodyLoaderValue). l.fed ++ more) (sym c.self.view_is)) in
    omega (arith, o, c.least_longs-longs.ensures.value, ap least_longs c.in-Body.is, c.bytes_wanted.ensures.to_come)

pub returns-clause-to_come : goal.returns-clause-to_come
returns-clause-to_come c none p t =
    let h = c.self.invariant.reading (none_of c.self.inside.refused (sym c.is_some.ensures ∙ c.if-is_some.false)) in
    let o = to_come_owed _ _ _ _ h (ap is_done c.in-Body.is) p (subst (λ (l : BodyLoaderValue). BytesToCome l.fed p) (sym c.self.view_is) t) in
    elim c.bytes_wanted.ensures.all [
      | inl all ↦ inl (omega (arith, o, c.least_longs-longs.ensures.value, ap least_longs c.in-Body.is, all))
      | inr most ↦ inr most
    ]

pub returns-clause-clean : goal.returns-clause-clean
returns-clause-clean c none =
    let h = c.self.invariant.reading (none_of c.self.inside.refused (sym c.is_some.ensures ∙ c.if-is_some.false)) in
    subst (λ (l : BodyLoaderValue). HasNoRefusal l.fed) c.self.view_is (fed_clean _ _ _ _ h)
