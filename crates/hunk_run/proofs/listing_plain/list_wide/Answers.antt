use Rattle.std.proofs.Common.{ℕ, List, subst}
use Rattle.hunk_run.specs.Wide.{IsSpellingOf, ListsPlain}
use Rattle.hunk_run.proofs.Plainly.{lists_wide}
use Rattle.hunk_run.proofs.listing_plain.list_wide.Goals as goal

pub returns : goal.returns
returns g c =
    let input = c.in-Ok.input.items in
    let result = c.list_plain-answer.result in
    let spelling = c.spelling_of-spelling.result in
    let told = subst (λ (xs : List ℕ). IsSpellingOf spelling xs) c.as_slice.ensures.value (c.spelling_of-spelling.ensures.short_blocks, c.spelling_of-spelling.ensures.ends) in
    let lists =
    subst (λ (xs : List ℕ). ListsPlain g.W.Sink.outlet c.args.listing xs 67108864 c.args.out.now c.list_plain-answer.new.out result) c.as_slice-2.ensures.value c.list_plain-answer.ensures in
    lists_wide g.W.Sink.outlet _ _ _ c.args.out.now c.list_plain-answer.new.out input c.in-Ok.input spelling c.in-Ok.ensures.tells_read told c.args.hex c.args.listing result
    c.in-Ok.ensures.reads lists
