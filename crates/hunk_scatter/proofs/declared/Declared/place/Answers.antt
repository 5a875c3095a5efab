use Rattle.std.proofs.Common.{◌≡◌, ℕ, List, [], length, arith, None, sym, ap, subst, ◌∙◌}
use Rattle.hunk_files.specs.{declared.row.Row.Row, Tables.row_entry}
use Rattle.hunk_scatter.specs.{BodyLoaderFields.BodyLoaderInvariant, BodyReader.state_at, Rows.entries_of}
use Rattle.std.proofs.lemmas.List.{length-map}
use Rattle.hunk_grammar.specs.Positions.{open_next}
use Rattle.hunk_scatter.proofs.{BodyFields.written, Starting.placed_loading}
use Rattle.hunk_scatter.proofs.declared.Declared.place.Goals as goal

pub invariant_of-result : goal.invariant_of-result
invariant_of-result g c =
    let rows = written c.table.inside.rows.items c.place_rows.new.rows c.table.inside.rows.len
    (sym c.as_mut_slice.ensures.len ∙ ap length c.as_mut_slice.ensures.value)
    (c.place_rows.auto.rows ∙ ap length c.as_mut_slice.ensures.value) in
    let entries = c.in_default.ensures.entries ∙ ap entries_of c.as_mut_slice.ensures.value in
    let hunks : c.len.result ≡ length (entries_of c.place_rows.new.rows) =
    omega (arith, c.len.ensures, ap length rows, length-map c.place_rows.new.rows row_entry) in
    let standing = c.after_header-standing in
    let placed = placed_loading c.table.inside.rows.items c.place_rows.new.rows c.table.inside.total c.table.inside.budget c.table.inside.count c.table.inside.history.bytes c.in-Ok.store.items standing.result
    c.table.invariant entries (c.in-Ok.ensures.items_if_clones_equal (λ y e. e)) (standing.ensures.state ∙ ap (λ (n : ℕ). state_at [] (open_next n n)) hunks) (omega (arith, standing.ensures.fed, c.table.invariant.counted)) standing.ensures.pending in
    subst (λ (rs : List Row). BodyLoaderInvariant rs c.in-Ok.store.items standing.result None c.table.inside.history.bytes) (sym rows)
    (record { counted = placed.counted; hunks = placed.hunks; size = placed.size; reading = λ e. placed; own_reasons = λ f e. absurd cc })
