use Rattle.std.proofs.Common.{ℕ, ◌+◌, ◌<◌, ◌≤◌, ◌++◌, length, length-append, sym, subst, refl, ◌∙◌, arith}
use Rattle.std.proofs.KnownBytes.{Consumes-trans}
use Rattle.hunk_scatter.specs.LoadOutcomes.{GoesPastNoHeader, IsHeaderStop}
use Rattle.hunk_scatter.proofs.Feeding.{gives_more}
use Rattle.hunk_scatter.proofs.loading.load_header.Goals as goal

pub feed_header_next-requires-clause-cut_short : goal.feed_header_next-requires-clause-cut_short
feed_header_next-requires-clause-cut_short g c =
    let i = c.reading.invariant in
    let some : 0 < c.want-want.result = omega arith in
    record {
      clean = c.want-want.ensures.clean i.reading;
      truncated = c.want-want.ensures.truncated i.reading;
      keeps_to_budget = c.want-want.ensures.keeps_to_budget i.reading;
      of_header = c.want-want.ensures.in_header some;
      not_whole = λ w. let none = c.want-want.ensures.over i.reading w in absurd (omega (arith, some, none));
      in_header = i.in_header;
      least = c.want-want.ensures.least;
    }

pub reading-preserved : goal.reading-preserved
reading-preserved g c =
    let i = c.reading.invariant in
    let f = c.in-Ok.ensures.feeds in
    let room : length c.reading.loader.fed + length f.piece ≤ c.args.limits.file_bytes = omega (arith, f.within, length-append c.reading.loader.fed f.piece) in
    record {
      buffer = c.in-Ok.ensures.buffer_kept ∙ i.buffer;
      reading = f.fed.0;
      works = λ e. f.works ∙ i.works e;
      shows = λ all. c.in-Ok.ensures.shows (i.shows all);
      budget_is = f.budget ∙ i.budget_is;
      given = gives_more _ _ _ _ c.reading.loader.fed f.piece _ i.given f.consumed room f.fed.1;
      in_header = subst GoesPastNoHeader (sym f.fed.1) f.in_header;
    }

pub returns-in-Err-clause-ends : goal.returns-in-Err-clause-ends
returns-in-Err-clause-ends g c =
    let i = c.reading.invariant in
    let f = c.in-Err.ensures.feeds in
    let room : length c.reading.loader.fed + length f.piece ≤ c.args.limits.file_bytes = omega (arith, f.within, length-append c.reading.loader.fed f.piece) in (
      c.reading.loader.fed ++ f.piece,
      gives_more _ _ _ _ c.reading.loader.fed f.piece (c.reading.loader.fed ++ f.piece) i.given f.consumed room refl,
      f.in_header,
      (
        subst (λ (b : ℕ). IsHeaderStop (record { budget = b; file_bytes = c.args.limits.file_bytes }) (g.R.Source.supply c.feed_header_next.new.r) (c.reading.loader.fed ++ f.piece) c.in-Err.fault) i.budget_is f.stops.0,
        f.stops.1,
      ),
    )

pub returns-in-Err-clause-no_further : goal.returns-in-Err-clause-no_further
returns-in-Err-clause-no_further g c all =
    let i = c.reading.invariant in
    let t = c.in-Err.ensures.no_further (i.shows all) in
    (c.reading.loader.fed ++ t.0, Consumes-trans _ _ _ c.reading.loader.fed t.0 i.given.consumed t.1, t.2)
