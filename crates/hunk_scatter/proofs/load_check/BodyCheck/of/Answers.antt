use Rattle.std.proofs.Common.{◌≡◌, ◌∙◌, ℕ, List, [], length, replicate, refl, sym, ap, subst, arith}
use Rattle.std.proofs.lemmas.List.{length-map}
use Rattle.hunk_files.specs.Tables.{row_entry}
use Rattle.hunk_grammar.specs.Positions.{open_next}
use Rattle.hunk_scatter.specs.{BodyReader.state_at, HeaderBytes.header_bytes, LoadChecks.IsBodyAfter, LoaderValues.DeclaredValue, Rows.entries_of}
use Rattle.hunk_scatter.proofs.Starting.{placed_loading}
use Rattle.hunk_scatter.proofs.load_check.BodyCheck.of.Goals as goal

pub returns : goal.returns
returns c = λ fed e.
    let rows = c.declared.inside.rows.items in
    let i = c.declared.invariant in
    let s = c.after_header-standing in
    let hunks : c.len.result ≡ length (entries_of rows) = omega (arith, c.len.ensures, length-map rows row_entry) in
    let placed = placed_loading rows rows c.declared.inside.total c.declared.inside.budget c.declared.inside.count c.declared.inside.history.bytes (replicate {A = ℕ} c.declared.inside.total 0) s.result
    i refl refl (s.ensures.state ∙ ap (λ (n : ℕ). state_at [] (open_next n n)) hunks) (omega (arith, s.ensures.fed, i.counted)) s.ensures.pending in
    let same = i.header ∙ ap (λ (d : DeclaredValue). header_bytes d.table) c.declared.view_is ∙ sym e in
    subst (λ (bs : List ℕ). IsBodyAfter (record { rows = c.declared.inside.rows; total = c.declared.inside.total; standing = s.result }) bs) same
    (record { total_is = i.total_is; checked = (replicate {A = ℕ} c.declared.inside.total 0, placed) })
