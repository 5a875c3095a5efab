use Rattle.std.proofs.Common.{ℕ, List, subst}
use Rattle.hunk_run.specs.Wide.{IsSpellingOf, RewritesPlain}
use Rattle.hunk_run.proofs.Plainly.{rewrites_wide}
use Rattle.hunk_run.proofs.rewriting_plain.rewrite_wide.Goals as goal

pub returns : goal.returns
returns g c =
    let input = c.in-Ok.input.items in
    let result = c.rewrite_plain-answer.result in
    let spelling = c.spelling_of-spelling.result in
    let told = subst (λ (xs : List ℕ). IsSpellingOf spelling xs) c.as_slice.ensures.value (c.spelling_of-spelling.ensures.short_blocks, c.spelling_of-spelling.ensures.ends) in
    let writes =
    subst (λ (xs : List ℕ). RewritesPlain g.W.Sink.outlet c.args.strip xs 67108864 c.args.writer.now c.rewrite_plain-answer.new.writer result) c.as_slice-2.ensures.value
    c.rewrite_plain-answer.ensures in
    rewrites_wide g.W.Sink.outlet _ _ _ c.args.writer.now c.rewrite_plain-answer.new.writer input c.in-Ok.input spelling c.in-Ok.ensures.tells_read told c.args.strip result
    c.in-Ok.ensures.reads writes
