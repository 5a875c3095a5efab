use Rattle.std.proofs.Common.{◌≡◌, ℕ, ◌<◌, List, ◌++◌, length, sym, ap, subst, ◌∙◌, append_assoc, arith}
use Rattle.std.proofs.KnownBytes.{Consumes-trans}
use Rattle.hunk_words.specs.declared.fault.Fault.{Fault}
use Rattle.hunk_scatter.specs.{LoadOutcomes.{GoesPastNoFile, IsBodyStop}, LoadRefusals.{NamesPart, fault_of}}
use Rattle.hunk_scatter.proofs.loading.load_body.Goals as goal

pub feed_next-requires-clause-cut_short : goal.feed_next-requires-clause-cut_short
feed_next-requires-clause-cut_short g c =
    let i = c.reading.invariant in
    let some : 0 < c.want-want.result = omega arith in
    record {
      clean = c.want-want.ensures.clean i.reading;
      truncated = c.want-want.ensures.truncated some;
      of_hunk = c.want-want.ensures.next_hunk some;
      least = c.want-want.ensures.least;
    }

pub reading-preserved : goal.reading-preserved
reading-preserved g c =
    let i = c.reading.invariant in
    let f = c.in-Ok.ensures.feeds in
    record {
      buffer = c.in-Ok.ensures.buffer_kept ∙ i.buffer;
      reading = f.fed.0;
      works = λ e. f.works ∙ i.works e;
      shows = λ all. c.in-Ok.ensures.shows (i.shows all);
      rows_are = f.rows ∙ i.rows_are;
      given = (
        i.given.0 ++ f.piece,
        Consumes-trans _ _ _ i.given.0 f.piece i.given.1 f.consumed,
        f.fed.1 ∙ ap (λ (xs : List ℕ). xs ++ f.piece) i.given.2 ∙ append_assoc c.args.loader.fed i.given.0 f.piece,
      );
      within = omega (arith, ap length f.fed.1, f.within);
      in_file = subst GoesPastNoFile (sym f.fed.1) f.in_file;
    }

pub returns-in-Err-clause-ends : goal.returns-in-Err-clause-ends
returns-in-Err-clause-ends g c =
    let i = c.reading.invariant in
    let f = c.in-Err.ensures.feeds in
    let told = c.refused_in_hunk in
    let is : c.reading.loader.fed ++ f.piece ≡ c.args.loader.fed ++ (i.given.0 ++ f.piece) = ap (λ (xs : List ℕ). xs ++ f.piece) i.given.2 ∙ append_assoc c.args.loader.fed i.given.0 f.piece in (
      i.given.0 ++ f.piece,
      Consumes-trans _ _ _ i.given.0 f.piece i.given.1 f.consumed,
      omega (arith, ap length is, f.within),
      subst GoesPastNoFile is f.in_file,
      subst (λ (bs : List ℕ). IsBodyStop c.args.limit (g.R.Source.supply c.feed_next.new.r) bs (fault_of told.result) × NamesPart bs told.result) is (
        subst (IsBodyStop c.args.limit (g.R.Source.supply c.feed_next.new.r) (c.reading.loader.fed ++ f.piece)) (sym told.ensures.fault) f.stops.0,
        told.ensures.names (c.reading.loader.fed ++ f.piece) f.stops.1,
      ),
    )

pub returns-in-Err-clause-no_further : goal.returns-in-Err-clause-no_further
returns-in-Err-clause-no_further g c all =
    let i = c.reading.invariant in
    let t = c.in-Err.ensures.no_further (i.shows all) in
    let is : c.reading.loader.fed ++ t.0 ≡ c.args.loader.fed ++ (i.given.0 ++ t.0) = ap (λ (xs : List ℕ). xs ++ t.0) i.given.2 ∙ append_assoc c.args.loader.fed i.given.0 t.0 in (
      i.given.0 ++ t.0,
      Consumes-trans _ _ _ i.given.0 t.0 i.given.1 t.1,
      omega (arith, t.2, ap length is, ap (λ (f : Fault). f.place) c.refused_in_hunk.ensures.fault),
    )
