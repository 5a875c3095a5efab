use Rattle.std.proofs.Common.{◌-◌, ◌*◌, ◌/◌, ◌++◌, ◌∙◌, ℕ, List, Option, length, take, refl, sym, ap, subst, append_assoc, arith}
use Rattle.hunk_words.specs.declared.reason.Reason.{Reason}
use Rattle.hunk_files.specs.{Fault.HasRefusal, FileParts.IsPartAt}
use Rattle.hunk_files.specs.declared.part.Part.TheVariants as parts
use Rattle.hunk_grammar.specs.Positions.{is_done}
use Rattle.hunk_grammar.specs.declared.file_kind.Sniff.TheVariants as sniffs
use Rattle.hunk_scatter.specs.{Streaming.{RefusesLong, IsFedAfter}, declared.store.BodyState.BodyState}
use Rattle.hunk_scatter.proofs.{PartLaws.hunk_next, StreamLaws.any_count, WholeLongs.{leaves_more, length_so_far, whole_piece}}
use Rattle.hunk_scatter.proofs.stream.feed_all.Goals as goal

pub parts-preserved : goal.parts-preserved
parts-preserved c =
    let i = c.parts.invariant in
    let e = c.in-Ok.ensures.takes in
    let n = length c.args.piece.now - length c.parts.rest.now in
    let more = leaves_more _ _ i.leaves _ c.in-Ok.count e.some e.inside refl in
    record {
      leaves = more.0;
      uncounted = c.feed_part.ensures.uncounted ∙ i.uncounted;
      within = record { few = e.within.few; in_store = e.within.in_store };
      takes = λ fed h.
          let front = fed ++ take n c.args.piece.now in
          subst (λ (bs : List ℕ). IsFedAfter c.args.rows.now c.feed_part.new.store c.feed_part.new.at bs)
          (append_assoc fed (take n c.args.piece.now) (take c.in-Ok.count c.parts.rest.now) ∙ ap (λ (bs : List ℕ). fed ++ bs) more.1) (e.takes front (i.takes fed h));
    }

pub returns-in-Err-None-clause-takes : goal.returns-in-Err-None-clause-takes
returns-in-Err-None-clause-takes c = λ fed h.
    let front = fed ++ take (length c.args.piece.now - length c.parts.rest.now) c.args.piece.now in
    subst (λ (o : Option Reason). RefusesLong front c.parts.rest.now o) c.in-Err-None.field-0-is
    (c.in-Err-None.ensures.refuses.refuses front (c.parts.invariant.takes fed (any_count _ _ _ fed h)))

pub returns-in-Err-Some-clause-takes : goal.returns-in-Err-Some-clause-takes
returns-in-Err-Some-clause-takes c = λ fed h.
    let i = c.parts.invariant in
    let n = length c.args.piece.now - length c.parts.rest.now in
    let front = fed ++ take n c.args.piece.now in
    let at = 4 * (length front / 4) in
    let stands = i.takes fed (any_count _ _ _ fed h) in
    let refused = subst (λ (o : Option Reason). RefusesLong front c.parts.rest.now o) c.in-Err-Some.field-0-is (c.in-Err-Some.ensures.refuses.refuses front stands) in
    let whole = whole_piece _ _ i.leaves fed in
    record {
      refusal = (
        at,
        subst (λ (bs : List ℕ). HasRefusal bs at c.in-Err-Some.reason) whole refused,
        omega (arith, length_so_far _ _ i.leaves fed, h.counted, i.uncounted, c.feed_part.ensures.uncounted),
      );
      of_hunk =
          subst (λ (n : ℕ). IsPartAt sniffs.Load (fed ++ c.args.piece.now) at (parts.Hunk n)) (sym (ap (λ (s : BodyState). s.hunk) c.in-Err-Some.ensures.refuses.same))
          (subst (λ (bs : List ℕ). IsPartAt sniffs.Load bs at (parts.Hunk c.parts.at.state.hunk)) whole (hunk_next _ _ _ _ front c.parts.rest.now stands.stands (ap is_done c.in-Body.is)));
    }
