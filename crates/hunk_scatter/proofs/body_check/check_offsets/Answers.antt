use Rattle.std.proofs.{Common.{◌≡◌, ◌∙◌, length, take, length-take, refl, ap, sym, arith}}
use Rattle.hunk_words.specs.Longs.{longs}
use Rattle.hunk_words.proofs.LongLaws.{length-longs}
use Rattle.hunk_grammar.specs.declared.phase.Phase.{Phase}
use Rattle.hunk_grammar.specs.declared.position.Position.TheVariants as positions
use Rattle.hunk_scatter.specs.{Rows.{words_of, bases_of}, StoreContent.added_at_each}
use Rattle.std.proofs.Common.{get_or}
use Rattle.hunk_scatter.proofs.Runs.{offsets_taken}
use Rattle.hunk_scatter.proofs.body_check.check_offsets.Goals as goal

pub returns-clause-offsets : goal.returns-clause-offsets
returns-clause-offsets c = λ store.
    let owed = c.in-Offset.owed in
    let piece = c.args.piece.now in
    let rows = c.args.rows.now in
    let n = c.offsets_inside-taken.result in
    let ws = take n (longs piece) in
    let base = get_or (bases_of rows) c.in-Offset.target 0 in
    let count : length ws ≡ n = omega (arith, length-take n (longs piece), length-longs piece, c.min-most.ensures, c.offsets_inside-taken.ensures.bound) in
    let at = ap (λ (f : Phase). positions.Body c.in-Body.hunk f) (sym c.in-Offset.is) ∙ sym c.in-Body.is in (
      added_at_each c.args.state.start base ws store,
      offsets_taken (words_of rows) (bases_of rows) c.args.state.hunk c.args.state.start c.args.state.position c.in-Body.hunk c.in-Offset.target owed _ base _ ws store (added_at_each c.args.state.start base ws store)
          at (omega (arith, count, c.min-most.ensures, c.offsets_inside-taken.ensures.bound)) c.offsets_inside-taken.ensures.ends_within (omega (arith, c.longs_of.ensures.value)) refl (omega (arith, count)) refl,
    )
