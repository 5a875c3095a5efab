use Rattle.std.proofs.Common.{ℕ, Bool, List, ◌+◌, [], ◌∷◌, ap, sym, ◌∙◌, length, subst, if◌then◌else◌}
use Rattle.hunk_words.specs.Longs.{bytes_of}
use Rattle.hunk_parts.specs.RowsText.{part_seen}
use Rattle.hunk_parts.proofs.LongBytes.{longs_none}
use Rattle.hunk_parts.proofs.writing.put_payload.Goals as goal

pub returns-then-has_payload : goal.returns-then-has_payload
returns-then-has_payload g c =
    let q = part_seen c.args.part.now in
    let all : Bool → List ℕ = λ b. if b then (q.value + length q.content) ∷ q.content else [] in
    subst (λ (xs : List ℕ). g.T.TakesBytes.takes c.args.taker.now (bytes_of xs) c.put_sized.new.taker) (ap all (sym c.if-has_payload.true) ∙ sym (c.has_payload.ensures q)) c.put_sized.ensures

pub returns-else-has_payload : goal.returns-else-has_payload
returns-else-has_payload g c =
    let q = part_seen c.args.part.now in
    let all : Bool → List ℕ = λ b. if b then (q.value + length q.content) ∷ q.content else [] in
    longs_none g.T.TakesBytes.takes g.met.T.TakesBytes.more g.met.T.TakesBytes.none c.args.taker.now _ (c.has_payload.ensures q ∙ ap all c.if-has_payload.false)
