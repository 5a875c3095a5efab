use Rattle.std.proofs.Common.{◌≡◌, ◌∙◌, ◌++◌, ◌-◌, ℕ, List, length, take, drop, refl, ap, subst, append_assoc, take-append-drop}
use Rattle.std.proofs.lemmas.List.{take_rest}
use Rattle.hunk_scatter.specs.{HeaderFaults.IsHeaderFault, LoadChecks.IsStageAfter}
use Rattle.hunk_scatter.proofs.Feeding.{header_wants}
use Rattle.hunk_scatter.proofs.LoadCheckLaws.{header_refused}
use Rattle.hunk_scatter.proofs.load_check.feed_header.Goals as goal

pub returns-in_default-clause-stage : goal.returns-in_default-clause-stage
returns-in_default-clause-stage c = λ few.
    header_refused _ c.in-Err.fault (subst (λ (b : ℕ). IsHeaderFault b (c.args.loader.fed ++ c.args.piece.now) c.in-Err.fault) c.requires.budget (c.in-Err.ensures.refusal c.requires.reading))
    c.in_default.not-OutOfMemory c.in-Err.ensures.own_reasons (c.in-Err.ensures.in_header c.requires.reading)

pub feed-requires-in-Ok-declared : goal.feed-requires-in-Ok-declared
feed-requires-in-Ok-declared c = (_, c.of.ensures _ refl)

pub returns-in-Ok-declared-clause-stage : goal.returns-in-Ok-declared-clause-stage
returns-in-Ok-declared-clause-stage c =
    let piece = c.args.piece.now in
    let n = c.in-Ok.taken in
    let h = c.feed-in-Ok-declared.ensures c.feed.new.self.fed (c.of.ensures c.feed.new.self.fed c.in-Ok-declared.ensures.table.1) in
    let whole : c.feed.new.self.fed ++ take (length piece - n) (drop n piece) ≡ c.args.loader.fed ++ piece =
    ap (λ (xs : List ℕ). xs ++ take (length piece - n) (drop n piece)) c.in-Ok.ensures.taken.1
    ∙ ap (λ (xs : List ℕ). (c.args.loader.fed ++ take n piece) ++ xs) (take_rest piece n)
    ∙ append_assoc c.args.loader.fed (take n piece) (drop n piece)
    ∙ ap (λ (xs : List ℕ). c.args.loader.fed ++ xs) (take-append-drop n piece) in
    subst (λ (bs : List ℕ). IsStageAfter c.feed-in-Ok-declared.result bs) whole h

pub returns-in-OutOfMemory-clause-wants : goal.returns-in-OutOfMemory-clause-wants
returns-in-OutOfMemory-clause-wants c =
    let e = c.in-Err.ensures in
    let memory = c.in-OutOfMemory.is in
    (c.in-Err.fault.place, header_wants c.in-Err.fault c.args.loader.budget (c.args.loader.fed ++ c.args.piece.now) memory (e.refusal c.requires.reading), e.out_of_memory c.requires.reading memory)
