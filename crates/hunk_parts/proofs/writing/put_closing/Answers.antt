use Rattle.std.proofs.Common.{Bool, List, ℕ, [], ◌∷◌, ap, sym, ◌∙◌, if◌then◌else◌}
use Rattle.hunk_parts.proofs.LongBytes.{longs_none}
use Rattle.hunk_parts.proofs.writing.put_closing.Goals as goal

pub returns-else-closes : goal.returns-else-closes
returns-else-closes g c =
    let zero : Bool → List ℕ = λ b. if b then 0 ∷ [] else [] in
    longs_none g.T.TakesBytes.takes g.met.T.TakesBytes.more g.met.T.TakesBytes.none c.args.taker.now _ (ap zero (sym c.closes.ensures ∙ c.if-closes.false))
