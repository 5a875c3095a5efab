use Rattle.std.proofs.Common.{◌≡◌, ℕ, ap, refl, ◌∙◌}
use Rattle.hunk_wide.specs.declared.spot.Spot.TheVariants.{Long}
use Rattle.hunk_wide.specs.declared.spot.Given.{Given}
use Rattle.hunk_wide.specs.Places.{count_long}
use Rattle.hunk_wide.specs.Longwords.{behind_long, given}
use Rattle.hunk_wide.specs.Spellings.{has_end, is_short, one_if}
use Rattle.hunk_wide.proofs.{Counted.{counts_are, long_begins, long_ends}, ManyEnds.{ends_begin, one_byte}}
use Rattle.hunk_wide.proofs.Placing.{front_word}
use Rattle.hunk_wide.proofs.spelling.long_at.Goals as goal

pub returns-then-rest-lt4-clause-none : goal.returns-then-rest-lt4-clause-none
returns-then-rest-lt4-clause-none c = long_ends c.args.position c.args.rest.now c.if-rest-lt4.true

pub returns-then-part-gt0-clause-some : goal.returns-then-part-gt0-clause-some
returns-then-part-gt0-clause-some c =
    let part = c.part_at-part.result in
    ends_begin (Long c.args.position) (Long part.next) c.args.rest.now part.size _ part.ends c.if-part-gt0.true c.part_at-part.ensures.inside refl c.part_at-part.ensures.with_ends

pub returns-clause-some : goal.returns-clause-some
returns-clause-some c =
    let word : ℕ = front_word c.args.rest.now in
    let g : Given = given c.args.position word in
    let put_in : c.of-put_in.result ≡ g = c.of-put_in.ensures ∙ ap (given c.args.position) c.from_be_bytes-word.ensures in
    let given_is : c.given_len.result ≡ count_long g = c.given_len.ensures ∙ ap count_long put_in in
    let short : c.from.result ≡ one_if (is_short g) = c.from.ensures ∙ one_byte c.is_short.result ∙ ap one_if (c.is_short.ensures ∙ ap is_short put_in) in
    let ends : c.from-2.result ≡ one_if (has_end g) = c.from-2.ensures ∙ one_byte c.has_end.result ∙ ap one_if (c.has_end.ensures ∙ ap has_end put_in) in
    let next : c.behind_long.result ≡ behind_long c.args.position word = c.behind_long.ensures ∙ ap (behind_long c.args.position) c.from_be_bytes-word.ensures in
    counts_are (Long c.args.position) c.args.rest.now _ _ _ _ _ _ _ _ _ given_is short ends next (long_begins c.args.position c.args.rest.now c.if-rest-lt4.false)
