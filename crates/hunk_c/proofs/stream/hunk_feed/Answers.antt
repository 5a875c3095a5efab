use Rattle.std.proofs.Common.{length, refl, subst, ◌∙◌, arith}
use Rattle.hunk_c.specs.declared.loader.Loader.{Loader}
use Rattle.hunk_c.specs.Streams.{Feeds, PassesOver, TakesPiece, HasTaken}
use Rattle.hunk_c.proofs.{Loaded.same_answer}
use Rattle.hunk_c.proofs.stream.hunk_feed.Goals as goal

pub returns-then-pass_byte : goal.returns-then-pass_byte
returns-then-pass_byte c =
    HasTaken (length c.args.piece.now) (c.pass_byte.ensures.passes c.if-pass_byte.true c.args.memory.now refl)
    (c.done.ensures ∙ same_answer 0 _ _ _ _ _ _ refl refl (omega arith))

pub returns-then-pass_payload : goal.returns-then-pass_payload
returns-then-pass_payload c =
    let same = c.pass_byte.ensures.stays c.if-pass_byte.false in
    let passes = c.pass_payload.ensures.passes c.if-pass_payload.true in
    HasTaken (length c.args.piece.now)
    (subst (λ (l : Loader). PassesOver c.args.rows.now (length c.args.memory.now) l c.args.piece.now c.pass_payload.new.self) same passes c.args.memory.now refl)
    (c.done-then-pass_payload.ensures ∙ same_answer 0 _ _ _ _ _ _ refl refl (omega arith))

pub returns-in-Err : goal.returns-in-Err
returns-in-Err c =
    let same = c.pass_payload.ensures.stays c.if-pass_payload.false ∙ c.pass_byte.ensures.stays c.if-pass_byte.false in
    subst (λ (l : Loader). Feeds c.args.rows.now l c.feed_on.new.loader c.args.memory.now c.feed_on.new.memory c.args.piece.now c.in-Err.answer) same c.in-Err.ensures.answers

pub returns-in-Ok : goal.returns-in-Ok
returns-in-Ok c =
    let same = c.pass_payload.ensures.stays c.if-pass_payload.false ∙ c.pass_byte.ensures.stays c.if-pass_byte.false in
    HasTaken c.in-Ok.count
    (subst (λ (l : Loader). TakesPiece c.args.rows.now l c.feed_on.new.loader c.args.memory.now c.feed_on.new.memory c.args.piece.now c.in-Ok.count) same c.in-Ok.ensures.takes)
    (c.done-in-Ok.ensures ∙ same_answer 0 _ _ _ _ _ _ refl refl (omega arith))
