use Rattle.std.proofs.Common.{◌≡◌, ℕ, true, false, refl, sym, ap, subst, ◌∙◌, arith}
use Rattle.hunk_words.specs.declared.reason.Reason.TheVariants as reasons
use Rattle.hunk_scatter.specs.Streaming.{EndsLoading}
use Rattle.hunk_c.specs.{Answers.{done, refused}, Streams.{IsWhole, IsCutShort, IsStreamed, HasNoEnd}}
use Rattle.hunk_c.proofs.{Loaded.same_answer, Streamed.{cut_short, streamed}}
use Rattle.hunk_c.proofs.stream.hunk_end.Goals as goal

pub returns-then-is_whole : goal.returns-then-is_whole
returns-then-is_whole c =
    let at = c.in-Ok.here in
    let stands = c.in-Ok.ensures.stands in
    let ends : EndsLoading at true = subst (EndsLoading at) c.if-is_whole.true c.is_whole.ensures in
    let answered : c.done.result ≡ done c.args.loader.now.hunk c.args.loader.now.fed c.args.loader.now.start =
    c.done.ensures ∙ same_answer 0 _ _ _ _ _ _ refl refl (omega arith) in
    IsWhole at stands answered
    (λ rows memory fed h. subst (IsStreamed rows memory fed) (sym answered) (streamed rows c.args.loader.now memory fed at stands ends h))

pub returns : goal.returns
returns c =
    let at = c.in-Ok.here in
    let stands = c.in-Ok.ensures.stands in
    let ends : EndsLoading at false = subst (EndsLoading at) c.if-is_whole.false c.is_whole.ensures in
    IsCutShort at stands (λ rows memory fed h. cut_short rows c.args.loader.now memory fed at stands ends h)
    (c.refused.ensures ∙ ap (λ (n : ℕ). refused (record { place = n; reason = reasons.Truncated })) (omega arith))

pub returns-in-Err : goal.returns-in-Err
returns-in-Err c = HasNoEnd c.in-Err.ensures.tells
