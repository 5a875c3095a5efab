use Rattle.std.proofs.Common.{rules, ◌+◌, ◌-◌, ◌<◌, List, ℕ, ◌++◌, take, drop, length-append, take-append-drop, append_assoc, arith, sym, ap, subst, ◌∙◌}
use Rattle.hunk_scatter.specs.{HeaderLoaderFields.HeaderStop, LoaderValues.HeaderLoaderValue}
use Rattle.hunk_scatter.proofs.CompletedLongs.{completes}
use Rattle.hunk_scatter.proofs.HeaderFields.{heading_as, heading_word, heading_stop, heading_four, heading_unrefused, heading_seen_whole, heading_seen_not_whole, heading_feeds}
use Rattle.hunk_scatter.proofs.header_loader.HeaderLoader.take_long.Goals as goal

pub invariant_of-self-in-Ok : goal.invariant_of-self-in-Ok
invariant_of-self-in-Ok c =
    let none = heading_unrefused _ _ _ _ _ _ _ c.self.invariant _ c.self.view_is c.requires.reading in
    let front = completes _ c.args.piece.now _ _ _ _ c.in-Some.is c.take_front-taken.ensures.inside c.take_front-taken.ensures.gathers in
    heading_as _ _ _ _ _ _ _ _ _ _ _ c.in-Ok.ensures.rows c.in-Ok.ensures.passes.position_is c.in-Ok.ensures.passes.total_is front.none_left c.and-self-inside-in-Ok.ensures
    (heading_word _ _ _ _ _ _ _ c.self.invariant none (sym c.is_after_header.ensures ∙ c.if-is_after_header.false)
    _ _ front.long c.in-Some.word c.in-Ok.ensures.long front.spelled c.in-Ok.ensures.passes.accepted c.in-Ok.ensures.passes.within)

pub overflow_sub-place : goal.overflow_sub-place
overflow_sub-place c =
    let none = heading_unrefused _ _ _ _ _ _ _ c.self.invariant _ c.self.view_is c.requires.reading in
    let front = completes _ c.args.piece.now _ _ _ _ c.in-Some.is c.take_front-taken.ensures.inside c.take_front-taken.ensures.gathers in
    heading_four _ _ _ _ _ _ _ c.self.invariant none (sym c.is_after_header.ensures ∙ c.if-is_after_header.false)
    _ _ front.long c.in-Some.word c.in-Err.ensures.long front.spelled

pub returns-in_default-clause-feeds_or_stops : goal.returns-in_default-clause-feeds_or_stops
returns-in_default-clause-feeds_or_stops c =
    heading_feeds _ _ _ _ (search rules) (search rules) (search rules)
    (heading_seen_not_whole _ _ _ _ _ _ _ c.self.invariant _ c.self.view_is c.requires.reading (sym c.is_after_header.ensures ∙ c.if-is_after_header.false))

pub returns-in-Ok-clause-feeds_or_stops : goal.returns-in-Ok-clause-feeds_or_stops
returns-in-Ok-clause-feeds_or_stops c =
    heading_feeds _ _ _ _ (search rules) (search rules) (search rules)
    (heading_seen_not_whole _ _ _ _ _ _ _ c.self.invariant _ c.self.view_is c.requires.reading (sym c.is_after_header.ensures ∙ c.if-is_after_header.false))

pub returns-in-Err-clause-feeds_or_stops : goal.returns-in-Err-clause-feeds_or_stops
returns-in-Err-clause-feeds_or_stops c =
    let none = heading_unrefused _ _ _ _ _ _ _ c.self.invariant _ c.self.view_is c.requires.reading in
    let more = sym c.is_after_header.ensures ∙ c.if-is_after_header.false in
    let front = completes _ c.args.piece.now _ _ _ _ c.in-Some.is c.take_front-taken.ensures.inside c.take_front-taken.ensures.gathers in
    record {
      budget = search rules;
      taken = search rules;
      goes_on = search rules;
      complete = λ w. absurd (heading_seen_not_whole _ _ _ _ _ _ _ c.self.invariant _ c.self.view_is c.requires.reading more w);
      stops =
          let fed = c.args.self.now.fed in
          let n = c.take_front-taken.result.1 in
          let bytes = take n c.args.piece.now in
          let some : 0 < n = c.take_front-taken.ensures.positive in (
            fed ++ bytes,
            drop n c.args.piece.now,
            ap (λ (bs : List ℕ). fed ++ bs) (sym (take-append-drop n c.args.piece.now)) ∙ sym (append_assoc fed bytes (drop n c.args.piece.now)),
            omega (arith, length-append fed bytes, front.long, some),
            subst (λ (v : HeaderLoaderValue). HeaderStop v.budget (v.fed ++ bytes) (record { place = c.self.inside.count + n - 4; reason = c.in-Err.reason })) c.self.view_is
                (heading_stop _ _ _ _ _ _ _ c.self.invariant none more bytes n front.long c.in-Some.word c.in-Err.ensures.long front.spelled c.in-Err.reason c.in-Err.ensures.refusal),
          );
      remembers = search rules;
    }

pub returns-then-is_after_header-clause-ends : goal.returns-then-is_after_header-clause-ends
returns-then-is_after_header-clause-ends c same =
    heading_seen_whole _ _ _ _ _ _ _ c.self.invariant _ c.self.view_is c.requires.reading (sym c.is_after_header.ensures ∙ c.if-is_after_header.true)
