use Rattle.std.proofs.Common.{rules, ℕ, ap, sym, arith, ◌∙◌}
use Rattle.hunk_grammar.specs.{Positions.role_at, Roles.refuse}
use Rattle.hunk_scatter.proofs.BodyChecks.{start_fits, word_passes, word_stops}
use Rattle.hunk_scatter.proofs.body_check.check_word.Goals as goal

pub overflow_add-state-2 : goal.overflow_add-state-2
overflow_add-state-2 c = omega (arith, start_fits _ _ c.requires.ready.is_open, c.longs_of-longs.ensures.value, c.from.ensures)

pub returns-in-Some-clause-checks : goal.returns-in-Some-clause-checks
returns-in-Some-clause-checks c =
    word_stops _ _ _ _ c.requires.ready c.requires.goes_on (λ k. omega (arith, c.type_inv.piece k)) _ (omega (arith, c.ranges.word.fits)) c.requires.first_long c.in-Some.reason
    (sym (c.refuse.ensures ∙ ap (λ (n : ℕ). refuse (role_at n c.args.position) c.args.word) c.longs_of-longs.ensures.value) ∙ c.in-Some.is)

pub returns-then-not-is_between_hunks-clause-checks : goal.returns-then-not-is_between_hunks-clause-checks
returns-then-not-is_between_hunks-clause-checks c =
    word_passes _ _ _ _ c.requires.ready c.requires.goes_on (λ k. omega (arith, c.type_inv.piece k)) _ (omega (arith, c.ranges.word.fits)) c.requires.first_long
    (sym (c.refuse.ensures ∙ ap (λ (n : ℕ). refuse (role_at n c.args.position) c.args.word) c.longs_of-longs.ensures.value) ∙ c.in_default.is) _ (search rules)

pub returns-clause-checks : goal.returns-clause-checks
returns-clause-checks c =
    word_passes _ _ _ _ c.requires.ready c.requires.goes_on (λ k. omega (arith, c.type_inv.piece k)) _ (omega (arith, c.ranges.word.fits)) c.requires.first_long
    (sym (c.refuse.ensures ∙ ap (λ (n : ℕ). refuse (role_at n c.args.position) c.args.word) c.longs_of-longs.ensures.value) ∙ c.in_default.is) _ (search rules)
