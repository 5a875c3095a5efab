use Rattle.std.proofs.Common.{refl, ◌∙◌, arith}
use Rattle.hunk_c.specs.Streams.{HasWant, HasNoWant}
use Rattle.hunk_c.proofs.{Loaded.same_answer, Streamed.stands_at}
use Rattle.hunk_c.proofs.stream.hunk_want.Goals as goal

pub returns : goal.returns
returns c =
    let at = c.in-Ok.here in
    HasWant at c.want.result c.in-Ok.ensures.stands
    (λ rows memory fed h. c.want.ensures rows memory fed (stands_at rows c.args.loader.now memory fed at c.in-Ok.ensures.stands h))
    (c.done.ensures ∙ same_answer 0 _ _ _ _ _ _ refl refl (omega arith))

pub returns-in-Err : goal.returns-in-Err
returns-in-Err c = HasNoWant c.in-Err.ensures.tells
