use Rattle.std.proofs.Common.{◌≡◌, ◌+◌, ◌-◌, ◌*◌, ℕ, refl, subst, ◌∙◌, arith}
use Rattle.hunk_words.specs.Longs.{longs}
use Rattle.hunk_words.proofs.LongLaws.{length-longs}
use Rattle.hunk_files.specs.Passing.{HasHeaderFront}
use Rattle.hunk_scatter.specs.HeaderLoaderFields.{PassesWords, at_start}
use Rattle.hunk_scatter.proofs.HeaderEntries.{at_entry, front_passes, short_passed}
use Rattle.hunk_scatter.proofs.header_state.pass_front.Goals as goal

pub returns-in-Some-short_total : goal.returns-in-Some-short_total
returns-in-Some-short_total c =
    let bytes = c.args.bytes.now in
    let hunks : ℕ = c.in-Some.hunks in
    let total : ℕ = c.in-Some-short_total.total in
    let header : HasHeaderFront (longs bytes) hunks = c.in-Some.ensures in
    let p = short_passed c.args.budget bytes hunks header (hunks - 1) total c.in-Some-short_total.ensures.short (omega (arith, header.some)) c.in-Some-short_total.ensures.within in
    let place : 4 * (5 + (hunks - 1)) ≡ 20 + 4 * (hunks - 1) = omega arith in
    let none : hunks - 1 - (hunks - 1) ≡ 0 = omega arith in
    record {
      passes = (p.count, place ∙ p.at_is, subst (λ (n : ℕ). PassesWords c.args.budget bytes 0 at_start p.count (at_entry hunks n total)) none p.passes);
      inside = omega (arith, place, p.inside);
    }

pub returns : goal.returns
returns c =
    let bytes = c.args.bytes.now in
    let header : HasHeaderFront (longs bytes) c.in-Some.hunks = c.in-Some.ensures in
    record {
      passes = (5, refl, front_passes c.args.budget bytes c.in-Some.hunks header);
      inside = omega (arith, header.whole, length-longs bytes);
    }
