use Rattle.std.proofs.Common.{◌≡◌, List, sym, ap, subst, ◌∙◌}
use Rattle.hunk_scatter.specs.{HeaderBytes.{IsHeaderTable, header_bytes}, LoaderValues.HeaderLoaderValue, HeaderLoaderFields.DeclaredInvariant, Rows.entries_of}
use Rattle.hunk_scatter.proofs.{HeaderFields.table_declared, BodyFields.none_of}
use Rattle.hunk_files.specs.declared.row.Row.{Row}
use Rattle.hunk_scatter.proofs.header_loader.HeaderLoader.declared.Goals as goal

pub invariant_of-result : goal.invariant_of-result
invariant_of-result c =
    subst (λ (rows : List Row). DeclaredInvariant rows c.self.inside.state.total c.self.inside.budget c.self.inside.count c.self.inside.history.bytes) (sym c.shrink_to_fit.ensures.items)
    (table_declared _ _ _ _ _ _ _ c.self.invariant (none_of c.self.inside.refused (sym c.is_some.ensures ∙ c.if-is_some.false)) (sym c.is_after_header.ensures ∙ c.if-not-is_after_header.false))

pub returns-clause-table : goal.returns-clause-table
returns-clause-table c =
    let t =
    table_declared _ _ _ _ _ _ _ c.self.invariant (none_of c.self.inside.refused (sym c.is_some.ensures ∙ c.if-is_some.false)) (sym c.is_after_header.ensures ∙ c.if-not-is_after_header.false) in
    let same : entries_of c.self.inside.rows.items ≡ entries_of c.shrink_to_fit.new.self.items = ap entries_of (sym c.shrink_to_fit.ensures.items) in (
      subst IsHeaderTable same t.is_table,
      subst (λ (v : HeaderLoaderValue). v.fed ≡ header_bytes (entries_of c.shrink_to_fit.new.self.items)) c.self.view_is (t.header ∙ ap header_bytes same),
    )
