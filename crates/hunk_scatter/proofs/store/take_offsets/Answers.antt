use Rattle.std.proofs.{Common.{◌≡◌, ◌≤◌, ◌*◌, ◌∙◌, length, take, length-take, ap, sym, arith}, Math.ListN.get_or-map}
use Rattle.hunk_words.specs.Longs.{longs}
use Rattle.hunk_words.proofs.LongLaws.{length-longs}
use Rattle.hunk_files.specs.declared.row.Row.{Row}
use Rattle.hunk_grammar.specs.declared.phase.Phase.{Phase}
use Rattle.hunk_grammar.specs.declared.position.Position.TheVariants as positions
use Rattle.hunk_scatter.specs.Rows.{words_of, bases_of}
use Rattle.hunk_scatter.proofs.Runs.{offsets_taken}
use Rattle.hunk_scatter.proofs.store.take_offsets.Goals.{then-owed-whole, else-owed-whole}
use Rattle.hunk_scatter.proofs.store.take_offsets.Goals as goal

pub returns-clause-offsets : goal.returns-clause-offsets
returns-clause-offsets c =
    let owed = c.in-Offset.owed in
    let piece = c.args.piece.now in
    let n = c.add_all-taken.result in
    let most : (c.if-owed-whole.most ≤ owed) × (4 * c.if-owed-whole.most ≤ length piece) =
    elim c.if-owed-whole.branch [
      | then-owed-whole w ↦ (omega (arith, w.most-is, w.if-owed-whole), omega (arith, w.most-is, w.if-owed-whole))
      | else-owed-whole w ↦ (omega (arith, w.most-is, w.if-owed-whole), omega (arith, w.most-is, w.if-owed-whole))
    ] in
    let count : length (take n (longs piece)) ≡ n = omega (arith, length-take n (longs piece), length-longs piece, most.1, c.add_all-taken.ensures.bound) in
    let at = ap (λ (f : Phase). positions.Body c.in-Body.hunk f) (sym c.in-Offset.is) ∙ sym c.in-Body.is in
    offsets_taken (words_of c.args.rows.now) (bases_of c.args.rows.now) c.args.state.hunk c.args.state.start c.args.state.position c.in-Body.hunk c.in-Offset.target owed _ _ _ (take n (longs piece)) c.args.store.now c.add_all-taken.new.store
    at (omega (arith, count, most.0, c.add_all-taken.ensures.bound)) c.add_all-taken.ensures.ends_within (omega (arith, c.longs_of-declared.ensures.value)) (sym (get_or-map (λ (r : Row). r.base) c.args.rows.now c.in-Offset.target (record { word = 0; extra = 0; base = 0 }))) (omega (arith, count)) c.add_all-taken.ensures.adds
