use Rattle.std.proofs.Common.{take, arith, length-take}
use Rattle.hunk_scatter.proofs.DeclaredBytes.{declared_limit}
use Rattle.hunk_c.proofs.{Packing.row_next, TableRows.{word_room, extra_room}}
use Rattle.hunk_c.proofs.packed.next_row.Goals as goal

pub at-size-requires-clause-word : goal.at-size-requires-clause-word
at-size-requires-clause-word c =
    let r = c.requires in
    word_room c.args.bytes.now r.table r.header r.hunk c.args.place.longword r.is_row.stands (omega (arith, r.inside))

pub at-size-requires-clause-extra : goal.at-size-requires-clause-extra
at-size-requires-clause-extra c both =
    let r = c.requires in
    extra_room c.args.bytes.now r.table r.header r.hunk c.args.place.longword r.is_row.stands (omega (arith, r.inside)) both

pub overflow_add-result : goal.overflow_add-result
overflow_add-result c =
    let r = c.requires in
    omega (arith, word_room c.args.bytes.now r.table r.header r.hunk c.args.place.longword r.is_row.stands (omega (arith, r.inside)), c.entry_longs.ensures.bound)

pub overflow_add-result-2 : goal.overflow_add-result-2
overflow_add-result-2 c =
    let r = c.requires in
    omega (arith, r.few, r.is_row.base_is, declared_limit (take r.hunk r.table), length-take r.hunk r.table, r.header.is_table.most, c.bytes.ensures)

pub returns-clause-row : goal.returns-clause-row
returns-clause-row c = λ t h start i inside r.
    row_next c.args.bytes.now t h start i c.args.place.longword c.args.place.base r inside c.at-size.result.word c.at-size.result.extra c.at-size.ensures.word c.at-size.ensures.extra _ _ c.entry_longs.ensures.value c.bytes.ensures

pub returns-clause-near : goal.returns-clause-near
returns-clause-near c = omega (arith, c.entry_longs.ensures.bound)
