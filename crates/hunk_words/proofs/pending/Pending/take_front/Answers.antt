use Rattle.std.proofs.Common.{ℕ, List, ◌∷◌, [], ◌++◌, take, sym, ap, ◌∙◌, arith}
use Rattle.hunk_words.specs.Longs.{bytes_of, IsBytes}
use Rattle.hunk_words.proofs.{PendingLaws.pending_none, LongLaws.in_place}
use Rattle.hunk_words.proofs.pending.Pending.take_front.Goals as goal

pub returns-then-piece-ge4-clause-gathers : goal.returns-then-piece-ge4-clause-gathers
returns-then-piece-ge4-clause-gathers c =
    let none = pending_none c.args.self (omega arith) in
    let bytes : IsBytes c.args.piece.now = λ k. omega (arith, c.type_inv.piece k) in
    (ap (λ (xs : List ℕ). xs ++ take 4 c.args.piece.now) none ∙ in_place c.args.piece.now bytes (omega arith) ∙ ap (λ (w : ℕ). bytes_of (w ∷ [])) (sym c.word_at.ensures), none)
