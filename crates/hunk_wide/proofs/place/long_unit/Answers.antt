use Rattle.std.proofs.Common.{ℕ, ap, sym, subst, ◌∙◌}
use Rattle.hunk_wide.specs.declared.spot.Spot.{Spot}
use Rattle.hunk_wide.specs.declared.spot.Spot.TheVariants.{Long}
use Rattle.hunk_wide.specs.Places.{GoesBy, count_long}
use Rattle.hunk_wide.specs.Longwords.{behind_long, given}
use Rattle.hunk_wide.proofs.Placing.{front_word, long_few, long_in_front}
use Rattle.hunk_wide.proofs.place.long_unit.Goals as goal

pub returns-then-rest-lt4-clause-none : goal.returns-then-rest-lt4-clause-none
returns-then-rest-lt4-clause-none c = long_few c.args.position c.args.rest.now c.args.n c.if-rest-lt4.true

pub returns-clause-some : goal.returns-clause-some
returns-clause-some c =
    subst (λ (next : Spot). GoesBy (Long c.args.position) c.args.rest.now c.args.n 4 c.given_len.result next)
    (sym (c.behind_long.ensures ∙ ap (behind_long c.args.position) c.from_be_bytes-word.ensures))
    (subst (λ (k : ℕ). GoesBy (Long c.args.position) c.args.rest.now c.args.n 4 k (behind_long c.args.position (front_word c.args.rest.now)))
    (sym (c.given_len.ensures ∙ ap count_long (c.of.ensures ∙ ap (given c.args.position) c.from_be_bytes-word.ensures)))
    (long_in_front c.args.position c.args.rest.now c.args.n c.if-rest-lt4.false))
