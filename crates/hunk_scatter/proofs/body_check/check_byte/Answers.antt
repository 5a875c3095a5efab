use Rattle.std.proofs.Common.{◌≡◌, ◌≤◌, ◌++◌, ◌∙◌, List, [], ◌∷◌, ℕ, Option, length, take, append-nil, refl, sym, ap, subst, arith}
use Rattle.std.proofs.lemmas.List.{take_all}
use Rattle.std.specs.Int.{w32, to_be_bytes}
use Rattle.hunk_words.specs.{Longs.{bytes_of, Gathers}, PendingBytes.pending_of}
use Rattle.hunk_words.proofs.{LongLaws.length-bytes_of, PendingLaws.few_pending}
use Rattle.hunk_scatter.specs.{BodyLoaderFields.StandsAfter, Checking.IsReadTo}
use Rattle.hunk_scatter.proofs.{BodyChecks.{checked_more, checked_open}, BodyFields.gone, Faults.refusal_front, OneByte.{more_pending, stands_as}, StreamLaws.first_byte}
use Rattle.hunk_scatter.proofs.WholeLongs.{gathered_checked, gathered_refused}
use Rattle.hunk_scatter.proofs.body_check.check_byte.Goals.{in-Some+in-Ok, in_default}
use Rattle.hunk_scatter.proofs.body_check.check_byte.Goals as goal

pub check_word-requires-clause-ready : goal.check_word-requires-clause-ready
check_word-requires-clause-ready c = record {
  position_is = refl;
  is_open = checked_open c.args.rows.now c.args.at.now _ c.requires.checked c.requires.goes_on;
  whole_long = omega (arith, ap length (c.as_slice.ensures ∙ c.to_be_bytes-four.ensures));
}

pub returns-in-Err : goal.returns-in-Err
unfolding bytes_of
returns-in-Err c =
    let at = c.args.at.now in
    let bytes = take 1 c.args.piece.now in
    let one = first_byte c.args.piece.now c.requires.nonempty in
    let whole =
    subst (λ (o : Option ℕ). Gathers (pending_of at.pending ++ bytes) (pending_of c.take-next.result.0) o) c.in-Some.is
    (subst (λ (xs : List ℕ). Gathers (pending_of at.pending ++ xs) (pending_of c.take-next.result.0) c.take-next.result.1) one c.take-next.ensures.gathers) in
    let four = whole.0 ∙ append-nil (to_be_bytes w32 c.in-Some.word) ∙ sym (c.as_slice.ensures ∙ c.to_be_bytes-four.ensures) in
    record {
      takes = tt;
      refuses = record {
        refuses = λ fed h. refusal_front fed c.args.piece.now 1 _ c.in-Err.reason (gathered_refused _ _ _ _ fed bytes _ h.1.stands four c.in-Err.reason (λ front s. c.in-Err.ensures.checks.refuses front (h.0, s)));
        own_reasons = c.in-Err.ensures.checks.own_reasons;
        same = c.in-Err.ensures.checks.same;
      };
      uncounted = refl;
    }

pub returns : goal.returns
unfolding bytes_of
returns c =
    let at = c.args.at.now in
    let bytes = take 1 c.args.piece.now in
    let one = first_byte c.args.piece.now c.requires.nonempty in
    let gathers = subst (λ (xs : List ℕ). Gathers (pending_of at.pending ++ xs) (pending_of c.take-next.result.0) c.take-next.result.1) one c.take-next.ensures.gathers in
    elim c.match-next.branch [
      | in-Some+in-Ok w ↦
          let whole = subst (λ (o : Option ℕ). Gathers (pending_of at.pending ++ bytes) (pending_of c.take-next.result.0) o) w.in-Some.is gathers in
          let four = whole.0 ∙ append-nil (to_be_bytes w32 w.in-Some.word) ∙ sym (w.as_slice.ensures ∙ w.to_be_bytes-four.ensures) in
          let long : length w.as_slice.result.now ≤ w.in-Ok.field-0 =
          omega (arith, ap length four, ap length whole.0, length-bytes_of (w.in-Some.word ∷ []), w.in-Ok.ensures.four) in
          let took = w.in-Ok.ensures.checks in
          let all = take_all w.in-Ok.field-0 w.as_slice.result.now long in
          rw (w.at-is)
          (record {
            takes = record {
              some = omega arith;
              inside = omega (arith, c.requires.nonempty);
              takes =
                  λ fed h.
                  let r = gathered_checked _ _ _ _ fed bytes _ h.1.stands four w.check_word.new.state
                  (λ front s. subst (λ (xs : List ℕ). IsReadTo c.args.rows.now w.check_word.new.state (front ++ xs)) all (took.reads front s)) in
                  checked_more c.args.rows.now at w.check_word.new.state c.take-next.result.0 fed bytes h
                  (r.0, stands_as _ _ _ _ _ _ _ _ refl refl whole.1 r.1);
            };
            refuses = tt;
            uncounted = refl;
          })
      | in_default w ↦
          let none : pending_of c.take-next.result.0 ≡ pending_of at.pending ++ bytes =
          subst (λ (o : Option ℕ). Gathers (pending_of at.pending ++ bytes) (pending_of c.take-next.result.0) o) w.in_default.is gathers in
          rw (w.at-is)
          (record {
            takes = record {
              some = omega arith;
              inside = omega (arith, c.requires.nonempty);
              takes =
                  λ fed h.
                  checked_more c.args.rows.now at at.state c.take-next.result.0 fed bytes h (
                    h.0,
                    subst (λ (xs : List ℕ). StandsAfter c.args.rows.now h.0 at.state xs (fed ++ bytes)) (sym none)
                        (more_pending _ _ _ _ _ (gone _ _ _ fed h.1 c.requires.goes_on) bytes (omega (arith, ap length none, few_pending c.take-next.result.0 c.take-next.ensures.few))),
                  );
            };
            refuses = tt;
            uncounted = refl;
          })
    ]
