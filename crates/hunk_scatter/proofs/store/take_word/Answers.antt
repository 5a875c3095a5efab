use Rattle.std.proofs.Common.{rules, ℕ, ap, sym, arith, ◌∙◌}
use Rattle.hunk_grammar.specs.{Positions.role_at, Roles.refuse}
use Rattle.hunk_scatter.proofs.WholeLongs.{first_refused, first_taken}
use Rattle.hunk_scatter.proofs.store.take_word.Goals as goal

pub returns-in-Some-clause-takes : goal.returns-in-Some-clause-takes
returns-in-Some-clause-takes c =
    first_refused _ _ _ _ _ _ c.requires.ready c.requires.goes_on (λ k. omega (arith, c.type_inv.piece k)) (omega (arith, c.ranges.word.fits)) c.requires.first_long c.in-Some.reason
    (sym (c.refuse.ensures ∙ ap (λ (n : ℕ). refuse (role_at n c.args.position) c.args.word) c.longs_of.ensures.value) ∙ c.in-Some.is)

pub returns-then-not-is_between_hunks-clause-takes : goal.returns-then-not-is_between_hunks-clause-takes
returns-then-not-is_between_hunks-clause-takes c =
    first_taken _ _ _ _ _ _ c.requires.ready c.requires.goes_on (λ k. omega (arith, c.type_inv.piece k)) (omega (arith, c.ranges.word.fits)) c.requires.first_long
    (sym (c.refuse.ensures ∙ ap (λ (n : ℕ). refuse (role_at n c.args.position) c.args.word) c.longs_of.ensures.value) ∙ c.in_default.is)
    _ _ c.store_word.ensures c.store_word.auto.store (search rules)

pub returns-clause-takes : goal.returns-clause-takes
returns-clause-takes c =
    first_taken _ _ _ _ _ _ c.requires.ready c.requires.goes_on (λ k. omega (arith, c.type_inv.piece k)) (omega (arith, c.ranges.word.fits)) c.requires.first_long
    (sym (c.refuse.ensures ∙ ap (λ (n : ℕ). refuse (role_at n c.args.position) c.args.word) c.longs_of.ensures.value) ∙ c.in_default.is)
    _ _ c.store_word.ensures c.store_word.auto.store (search rules)
