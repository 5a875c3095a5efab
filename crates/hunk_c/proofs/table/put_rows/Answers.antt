use Rattle.std.proofs.Common.{◌+◌, ◌<◌, ℕ, length, refl, sym, ap, subst, ◌∙◌, arith}
use Rattle.hunk_c.specs.{Tables.table_row, Packs.RowStandsAt}
use Rattle.hunk_c.proofs.Filling.{filled_more, filled_all}
use Rattle.hunk_c.proofs.TableRows.{no_entry, stands_first, word_room, extra_room, entry_is, stands_next}
use Rattle.hunk_c.proofs.table.put_rows.Goals as goal

pub rows-init : goal.rows-init
rows-init c = λ t h e. (record { size = sym e; front = refl }, stands_first _ t h)

pub at-size-requires-clause-word : goal.at-size-requires-clause-word
at-size-requires-clause-word c =
    let r = c.requires in
    word_room _ r.0 r.1 c.rows.row-index c.rows.at (c.rows.invariant r.0 r.1 r.2).1 (omega (arith, r.2, c.rows-test.true))

pub at-size-requires-clause-extra : goal.at-size-requires-clause-extra
at-size-requires-clause-extra c both =
    let r = c.requires in
    extra_room _ r.0 r.1 c.rows.row-index c.rows.at (c.rows.invariant r.0 r.1 r.2).1 (omega (arith, r.2, c.rows-test.true)) both

pub overflow_add-at : goal.overflow_add-at
overflow_add-at c =
    let r = c.requires in
    omega (arith, word_room _ r.0 r.1 c.rows.row-index c.rows.at (c.rows.invariant r.0 r.1 r.2).1 (omega (arith, r.2, c.rows-test.true)), c.entry_longs-at.ensures.bound)

pub rows-preserved : goal.rows-preserved
rows-preserved c = λ t h e.
    let inv = c.rows.invariant t h e in
    let more : c.rows.row-index < length t = omega (arith, e, c.rows-test.true) in
    let size = c.at-size.result in (
      filled_more table_row t c.rows.row-items c.rows.row-index no_entry c.table_row.result more
          (c.table_row.ensures ∙ ap table_row (sym (entry_is _ t h c.rows.row-index c.rows.at inv.1 more size.word size.extra c.at-size.ensures.word c.at-size.ensures.extra))) inv.0,
      subst (λ (n : ℕ). RowStandsAt c.args.bytes.now t h (c.rows.row-index + 1) (c.rows.at + n)) (sym c.entry_longs-at.ensures.value)
          (stands_next _ t h c.rows.row-index c.rows.at inv.1 more size.word size.extra c.at-size.ensures.word c.at-size.ensures.extra),
    )

pub returns : goal.returns
returns c = λ t h e. filled_all table_row t c.rows.row-items c.rows.row-index (omega (arith, e, c.rows-test.false)) (c.rows.invariant t h e).0
