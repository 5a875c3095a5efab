use Rattle.std.proofs.Common.{arith, take, length-take}
use Rattle.std.proofs.lemmas.List.{length-map}
use Rattle.hunk_files.specs.Tables.{row_entry}
use Rattle.hunk_scatter.specs.Rows.{entries_of}
use Rattle.hunk_scatter.proofs.DeclaredBytes.{declared_limit}
use Rattle.hunk_scatter.proofs.image.start_of.Goals as goal

pub overflow_add-bytes : goal.overflow_add-bytes
overflow_add-bytes c =
    let front = take c.loop-row.row-index c.args.rows.now in
    omega (arith, declared_limit (entries_of front), length-map front row_entry, length-take c.loop-row.row-index c.args.rows.now, c.loop-row.invariant, c.bytes-bytes.ensures)
