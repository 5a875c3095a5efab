use Rattle.std.proofs.Common.{◌++◌, refl, sym, subst}
use Rattle.hunk_scatter.specs.{Streaming.{StopsAt, StopsForBody, StopsAtLong}, declared.stream.Stop.Stop}
use Rattle.hunk_c.specs.Streams.{HasRefused, IsStrange}
use Rattle.hunk_c.proofs.{Readying.{stands_ready, tells_position}, Streamed.{stands_at, stands_so}}
use Rattle.hunk_c.proofs.stream.feed_ready.Goals as goal

pub returns-in_default : goal.returns-in_default
returns-in_default c =
    absurd (tells_position c.args.rows.now _ c.args.loader.now c.requires (sym c.in_default.ensures))

pub feed_fitting-requires : goal.feed_fitting-requires
feed_fitting-requires c =
    (stands_ready c.args.rows.now _ c.args.loader.now c.requires c.in-Some.position _ (sym c.in-Some.ensures) c.standing_at.ensures).1

pub returns-then-ends_early-clause-answers : goal.returns-then-ends_early-clause-answers
returns-then-ends_early-clause-answers c =
    let l = c.args.loader.now in
    let at = stands_ready c.args.rows.now _ l c.requires c.in-Some.position _ (sym c.in-Some.ensures) c.standing_at.ensures in
    IsStrange c.standing_at.result at.0
    (λ fed h.
    c.ends_early.ensures.nowhere c.if-ends_early.true c.args.rows.now _ _
    (c.in-Ok.ensures.takes fed (stands_at c.args.rows.now l c.args.memory.now fed c.standing_at.result at.0 h)))
    refl c.strange-then-ends_early.ensures

pub returns-else-ends_early-clause-takes : goal.returns-else-ends_early-clause-takes
returns-else-ends_early-clause-takes c =
    let l = c.args.loader.now in
    let at = stands_ready c.args.rows.now _ l c.requires c.in-Some.position _ (sym c.in-Some.ensures) c.standing_at.ensures in
    let e = c.in-Ok.ensures in
    record {
      from = c.standing_at.result;
      to = c.in-Ok.to;
      stood = at.0;
      fits = at.1;
      numbers = c.of.ensures;
      fits_still = e.fits_still;
      counted = e.counted;
      inside = e.inside;
      all = e.all;
      not_early = c.ends_early.ensures.late c.if-ends_early.false;
      takes = λ fed h.
          stands_so _ _ _ _ _ c.of.ensures (e.takes fed (stands_at c.args.rows.now l c.args.memory.now fed c.standing_at.result at.0 h));
    }

pub returns-in-Err-Strange-clause-answers : goal.returns-in-Err-Strange-clause-answers
returns-in-Err-Strange-clause-answers c =
    let l = c.args.loader.now in
    let at = stands_ready c.args.rows.now _ l c.requires c.in-Some.position _ (sym c.in-Some.ensures) c.standing_at.ensures in
    IsStrange c.standing_at.result at.0
    (λ fed h.
    subst (λ (s : Stop). StopsAt (fed ++ c.args.piece.now) s) c.in-Err-Strange.field-0-is
    (c.in-Err-Strange.ensures.takes fed (stands_at c.args.rows.now l c.args.memory.now fed c.standing_at.result at.0 h)))
    refl c.strange-in-Err-Strange.ensures

pub returns-in-Err-Refused-clause-answers : goal.returns-in-Err-Refused-clause-answers
returns-in-Err-Refused-clause-answers c =
    let l = c.args.loader.now in
    let at = stands_ready c.args.rows.now _ l c.requires c.in-Some.position _ (sym c.in-Some.ensures) c.standing_at.ensures in
    let e = c.in-Err-Refused.ensures in
    HasRefused c.in-Err-Refused.fault
    (record {
      from = c.standing_at.result;
      stood = at.0;
      fits = at.1;
      own_reason = subst StopsForBody c.in-Err-Refused.field-0-is e.own_reasons;
      whole_longs = subst StopsAtLong c.in-Err-Refused.field-0-is e.whole_longs;
      refuses = λ fed h.
          subst (λ (s : Stop). StopsAt (fed ++ c.args.piece.now) s) c.in-Err-Refused.field-0-is
          (e.takes fed (stands_at c.args.rows.now l c.args.memory.now fed c.standing_at.result at.0 h));
    })
    c.refusing.ensures c.refused.ensures
