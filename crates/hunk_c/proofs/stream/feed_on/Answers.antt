use Rattle.std.proofs.Common.{ℕ, List, length, subst, sym, ◌∙◌, IfErr, IfOk}
use Rattle.hunk_c.specs.declared.loader.Loader.{Loader}
use Rattle.hunk_c.specs.Loaders.{IsReady}
use Rattle.hunk_c.specs.Streams.{Feeds, TakesPiece}
use Rattle.hunk_c.proofs.stream.feed_on.Goals as goal

pub take_content-requires : goal.take_content-requires
take_content-requires c =
    let rows = c.args.rows.now in
    let same = c.take_last.ensures.stays c.if-take_last.false in
    let kept = c.take_last.ensures.keeps c.if-take_last.false in
    subst (λ (l : Loader). IsReady rows (length c.take_last.new.memory) l) (sym same)
    (subst (λ (memory : List ℕ). IsReady rows (length memory) c.args.loader.now) (sym kept) (c.is_ready.ensures.0 c.if-not-is_ready.false))

pub returns-then-take_content-clause-takes : goal.returns-then-take_content-clause-takes
returns-then-take_content-clause-takes c =
    let rows = c.args.rows.now in
    let piece = c.args.piece.now in
    let same = c.take_last.ensures.stays c.if-take_last.false in
    let kept = c.take_last.ensures.keeps c.if-take_last.false in
    let new = c.take_content.new in
    subst (λ (l : Loader). TakesPiece rows l new.self c.args.memory.now new.memory piece (length piece)) same
    (subst (λ (memory : List ℕ). TakesPiece rows c.take_last.new.self new.self memory new.memory piece (length piece)) kept (c.take_content.ensures.takes c.if-take_content.true))

pub feed_ready-requires : goal.feed_ready-requires
feed_ready-requires c =
    let rows = c.args.rows.now in
    let same = c.take_content.ensures.stays c.if-take_content.false ∙ c.take_last.ensures.stays c.if-take_last.false in
    let kept = c.take_content.ensures.keeps c.if-take_content.false ∙ c.take_last.ensures.keeps c.if-take_last.false in
    subst (λ (l : Loader). IsReady rows (length c.take_content.new.memory) l) (sym same)
    (subst (λ (memory : List ℕ). IsReady rows (length memory) c.args.loader.now) (sym kept) (c.is_ready.ensures.0 c.if-not-is_ready.false))

pub returns-clause-takes : goal.returns-clause-takes
returns-clause-takes c =
    let rows = c.args.rows.now in
    let same = c.take_content.ensures.stays c.if-take_content.false ∙ c.take_last.ensures.stays c.if-take_last.false in
    let kept = c.take_content.ensures.keeps c.if-take_content.false ∙ c.take_last.ensures.keeps c.if-take_last.false in
    let new = c.feed_ready.new in
    let result = c.feed_ready.result in
    subst (λ (l : Loader). IfOk result (λ count. TakesPiece rows l new.loader c.args.memory.now new.memory c.args.piece.now count)) same
    (subst (λ (memory : List ℕ). IfOk result (λ count. TakesPiece rows c.take_content.new.self new.loader memory new.memory c.args.piece.now count)) kept c.feed_ready.ensures.takes)

pub returns-clause-answers : goal.returns-clause-answers
returns-clause-answers c =
    let rows = c.args.rows.now in
    let same = c.take_content.ensures.stays c.if-take_content.false ∙ c.take_last.ensures.stays c.if-take_last.false in
    let kept = c.take_content.ensures.keeps c.if-take_content.false ∙ c.take_last.ensures.keeps c.if-take_last.false in
    let new = c.feed_ready.new in
    let result = c.feed_ready.result in
    subst (λ (l : Loader). IfErr result (Feeds rows l new.loader c.args.memory.now new.memory c.args.piece.now)) same
    (subst (λ (memory : List ℕ). IfErr result (Feeds rows c.take_content.new.self new.loader memory new.memory c.args.piece.now)) kept c.feed_ready.ensures.answers)
