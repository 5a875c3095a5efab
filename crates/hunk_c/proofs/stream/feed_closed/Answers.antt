use Rattle.std.proofs.Common.{ℕ, List, refl, sym, ap, subst, arith, append-nil}
use Rattle.hunk_grammar.specs.{Positions.is_done, declared.position.Position.Position}
use Rattle.hunk_scatter.proofs.StreamLaws.{open_unless_done}
use Rattle.hunk_c.specs.Loaders.{MayStandAt, Stands}
use Rattle.hunk_c.specs.Streams.{HadRefused, IsStrange}
use Rattle.hunk_c.proofs.{Readying.is_ready, Streamed.{stands_at, stands_so}}
use Rattle.hunk_c.proofs.stream.feed_closed.Goals as goal

pub returns-in-Err : goal.returns-in-Err
returns-in-Err c = record { takes = tt; answers = HadRefused c.in-Err.ensures.tells refl refl }

pub returns-then-not-fits : goal.returns-then-not-fits
returns-then-not-fits c =
    let l = c.args.loader.now in
    let stands = c.in-Ok.ensures.stands in
    record {
      takes = tt;
      answers =
          IsStrange c.in-Ok.at stands
          (λ fed h. absurd (cc (c.fits.ensures.complete c.args.memory.now fed (stands_at c.args.rows.now l c.args.memory.now fed c.in-Ok.at stands h) refl, c.if-not-fits.true)))
          refl c.strange.ensures;
    }

pub returns-in_default : goal.returns-in_default
returns-in_default c =
    let stands = c.in-Ok.ensures.stands in
    let fits = c.fits.ensures.sound c.if-not-fits.false in
    absurd (c.requires (is_ready c.args.rows.now _ c.args.loader.now c.in-Ok.at stands fits (open_unless_done _ c.in_default.not-Done)))

pub returns-in-Done : goal.returns-in-Done
returns-in-Done c =
    let l = c.args.loader.now in
    let at = c.in-Ok.at in
    let stands = c.in-Ok.ensures.stands in
    let fits = c.fits.ensures.sound c.if-not-fits.false in
    let whole = subst (λ (p : Position). MayStandAt at.state.hunk at.fed p) c.in-Done.is stands.may_stand.position in
    record {
      takes = record {
        from = at;
        to = at;
        stood = stands;
        fits = fits;
        numbers = c.of.ensures;
        fits_still = fits;
        counted = omega arith;
        inside = omega arith;
        all = λ less. ap is_done c.in-Done.is;
        not_early = λ done. whole.2;
        takes = λ fed h.
            subst (λ (bs : List ℕ). Stands c.args.rows.now c.of.result c.args.memory.now bs) (sym (append-nil fed))
            (stands_so _ _ at _ _ c.of.ensures (stands_at c.args.rows.now l c.args.memory.now fed at stands h));
      };
      answers = tt;
    }
