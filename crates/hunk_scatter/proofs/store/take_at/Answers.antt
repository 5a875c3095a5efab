use Rattle.std.proofs.Common.{◌<◌, ◌≤◌, length, refl, arith}
use Rattle.hunk_scatter.proofs.{Runs.read_offsets, OneByte.stands_as, WithinStore.{offsets_stay, run_stays, stays_as}, WholeLongs.{room_at, read_at, run_taken}}
use Rattle.hunk_scatter.proofs.store.take_at.Goals as goal

pub returns-then-run-gt0 : goal.returns-then-run-gt0
returns-then-run-gt0 c =
    let some : 0 < c.min-count.result = omega (arith, c.min-count.ensures, c.requires.whole_long, c.if-run-gt0.true) in
    let inside : c.min-count.result ≤ length c.args.piece.now = omega (arith, c.min-count.ensures) in
    record {
      takes = record {
        some = some;
        inside = inside;
        reads =
            λ fed r.
            let here = read_at _ _ _ _ _ c.requires.position_is r in
            let taken = run_taken _ _ _ _ here (room_at _ _ _ _ c.requires.position_is c.requires.in_store) c.args.piece.now c.min-count.result (λ k. omega (arith, c.type_inv.piece k))
            inside (omega (arith, c.min-count.ensures)) some (omega (arith, c.min-count.ensures, c.run-run.ensures.value)) in
            stands_as _ _ _ _ _ _ _ _ c.take_run.ensures.stores c.take_run.ensures.steps refl taken;
        stays = stays_as _ _ _ _ _ c.take_run.auto.store c.take_run.ensures.steps (run_stays _ _ _ _ (room_at _ _ _ _ c.requires.position_is c.requires.in_store));
      };
      refuses = tt;
    }

pub returns-in-Some : goal.returns-in-Some
returns-in-Some c = record {
  takes = record {
    some = omega (arith, c.in-Some.ensures.positive);
    inside = c.in-Some.ensures.inside;
    reads =
        λ fed r.
        read_offsets c.args.rows.now c.args.store.now c.take_offsets.new.store _ c.in-Some.next fed c.args.piece.now c.in-Some.count
        (read_at _ _ _ _ _ c.requires.position_is r) (λ k. omega (arith, c.type_inv.piece k)) c.in-Some.ensures.inside c.in-Some.ensures.offsets;
    stays = stays_as _ _ _ _ _ c.take_offsets.auto.store refl (offsets_stay _ _ _ _ _ _ _ _ (room_at _ _ _ _ c.requires.position_is c.requires.in_store) c.in-Some.ensures.offsets);
  };
  refuses = tt;
}
