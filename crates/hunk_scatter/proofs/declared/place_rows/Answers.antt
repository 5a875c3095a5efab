use Rattle.std.proofs.Common.{sym, arith}
use Rattle.hunk_scatter.proofs.PlacingLaws.{placed_next, next_room}
use Rattle.hunk_scatter.proofs.declared.place_rows.Goals as goal

pub overflow_add-before : goal.overflow_add-before
overflow_add-before g c =
    let room = next_room (g.P.Placer.base c.args.placer.now) c.args.rows.now c.loop-hunk.rows c.loop-hunk.hunk c.loop-hunk.before c.size.result.word c.bytes-before.result
    (omega arith) c.requires.unplaced c.loop-hunk.invariant c.requires.few c.size.ensures.word c.bytes-before.ensures in
    omega (arith, room)

pub loop-hunk-preserved : goal.loop-hunk-preserved
loop-hunk-preserved g c =
    placed_next (g.P.Placer.base c.args.placer.now) c.args.rows.now c.loop-hunk.rows c.loop-hunk.hunk c.loop-hunk.before c.in-Some.base c.size.result.word c.bytes-before.result _ _
    (omega arith) c.requires.unplaced c.loop-hunk.invariant (sym c.in-Some.ensures) c.size.ensures.word c.bytes-before.ensures (omega arith) (omega arith)
