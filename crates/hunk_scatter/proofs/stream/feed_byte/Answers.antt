use Rattle.std.proofs.Common.{◌≡◌, ◌≤◌, ◌++◌, ◌∙◌, List, [], ◌∷◌, ℕ, Option, length, take, append-nil, refl, sym, ap, subst, arith}
use Rattle.std.proofs.lemmas.List.{take_all}
use Rattle.std.specs.Int.{w32, to_be_bytes}
use Rattle.hunk_words.specs.{Longs.{bytes_of, Gathers}, PendingBytes.pending_of}
use Rattle.hunk_words.proofs.{LongLaws.length-bytes_of, PendingLaws.few_pending}
use Rattle.hunk_scatter.specs.BodyLoaderFields.{ReadsOn, StandsAfter}
use Rattle.hunk_scatter.proofs.{BodyFields.gone, Faults.refusal_front, OneByte.{more_pending, stands_as}, StreamLaws.{first_byte, stands_more, strange}}
use Rattle.hunk_scatter.proofs.WholeLongs.{gathered_reads, gathered_refused}
use Rattle.hunk_scatter.proofs.stream.feed_byte.Goals.{in-Some+else-is_between_hunks+in-Ok, in_default}
use Rattle.hunk_scatter.proofs.stream.feed_byte.Goals as goal

pub returns-then-not-is_in_store : goal.returns-then-not-is_in_store
returns-then-not-is_in_store c =
    strange _ _ _ _ c.requires.goes_on (λ i. absurd (cc (c.is_in_store.ensures.complete i c.requires.goes_on, c.if-not-is_in_store.true)))

pub returns-in-Err : goal.returns-in-Err
unfolding bytes_of
returns-in-Err c =
    let at = c.args.at.now in
    let bytes = take 1 c.args.piece.now in
    let one = first_byte c.args.piece.now c.requires.nonempty in
    let whole =
    subst (λ (o : Option ℕ). Gathers (pending_of at.pending ++ bytes) (pending_of c.take-next.result.0) o) c.in-Some.is
    (subst (λ (xs : List ℕ). Gathers (pending_of at.pending ++ xs) (pending_of c.take-next.result.0) c.take-next.result.1) one c.take-next.ensures.gathers) in
    let four = whole.0 ∙ append-nil (to_be_bytes w32 c.in-Some.word) ∙ sym (c.as_slice.ensures ∙ c.to_be_bytes-four.ensures) in
    record {
      takes = tt;
      refuses = record {
        refuses = λ fed h. refusal_front fed c.args.piece.now 1 _ c.in-Err.reason (gathered_refused _ _ _ _ fed bytes _ h.stands four c.in-Err.reason c.in-Err.ensures.takes.refuses.refuses);
        own_reasons = c.in-Err.ensures.takes.refuses.own_reasons;
        same = c.in-Err.ensures.takes.refuses.same;
      };
      uncounted = refl;
    }

pub returns : goal.returns
unfolding bytes_of
returns c =
    let at = c.args.at.now in
    let bytes = take 1 c.args.piece.now in
    let one = first_byte c.args.piece.now c.requires.nonempty in
    let gathers = subst (λ (xs : List ℕ). Gathers (pending_of at.pending ++ xs) (pending_of c.take-next.result.0) c.take-next.result.1) one c.take-next.ensures.gathers in
    elim c.match-next.branch [
      | in-Some+else-is_between_hunks+in-Ok w ↦
          let whole = subst (λ (o : Option ℕ). Gathers (pending_of at.pending ++ bytes) (pending_of c.take-next.result.0) o) w.in-Some.is gathers in
          let four = whole.0 ∙ append-nil (to_be_bytes w32 w.in-Some.word) ∙ sym (w.as_slice.ensures ∙ w.to_be_bytes-four.ensures) in
          let long : length w.as_slice.result.now ≤ w.in-Ok.field-0 =
          omega (arith, ap length four, ap length whole.0, length-bytes_of (w.in-Some.word ∷ []), w.in-Ok.ensures.four) in
          let took = w.in-Ok.ensures.takes.takes in
          let reads = subst (λ (xs : List ℕ). ReadsOn c.args.rows.now c.args.store.now at.state xs w.take_word.new.store w.take_word.new.state) (take_all w.in-Ok.field-0 w.as_slice.result.now long) took.reads in
          rw (w.store-is, w.at-is)
          (record {
            takes = record {
              some = omega arith;
              inside = omega (arith, c.requires.nonempty);
              within = record { few = c.take-next.ensures.few; in_store = took.stays };
              takes =
                  λ fed h.
                  stands_more _ _ _ at w.take_word.new.state c.take-next.result.0 fed bytes h w.take_word.auto.store
                  (stands_as _ _ _ _ _ _ _ _ refl refl whole.1 (gathered_reads _ _ _ _ fed bytes _ h.stands four _ _ reads));
            };
            refuses = tt;
            uncounted = refl;
          })
      | in_default w ↦
          let none : pending_of c.take-next.result.0 ≡ pending_of at.pending ++ bytes =
          subst (λ (o : Option ℕ). Gathers (pending_of at.pending ++ bytes) (pending_of c.take-next.result.0) o) w.in_default.is gathers in
          rw (w.store-is, w.at-is)
          (record {
            takes = record {
              some = omega arith;
              inside = omega (arith, c.requires.nonempty);
              within = record { few = c.take-next.ensures.few; in_store = c.requires.within.in_store };
              takes =
                  λ fed h.
                  stands_more _ _ _ at at.state c.take-next.result.0 fed bytes h refl
                  (subst (λ (xs : List ℕ). StandsAfter c.args.rows.now c.args.store.now at.state xs (fed ++ bytes)) (sym none)
                  (more_pending _ _ _ _ _ (gone _ _ _ fed h c.requires.goes_on) bytes (omega (arith, ap length none, few_pending c.take-next.result.0 c.take-next.ensures.few))));
            };
            refuses = tt;
            uncounted = refl;
          })
    ]
