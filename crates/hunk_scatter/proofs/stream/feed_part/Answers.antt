use Rattle.hunk_scatter.proofs.StreamLaws.{strange}
use Rattle.hunk_scatter.proofs.stream.feed_part.Goals as goal

pub returns-then-not-is_in_store : goal.returns-then-not-is_in_store
returns-then-not-is_in_store c =
    strange _ _ _ _ c.requires.goes_on (λ i. absurd (cc (c.is_in_store.ensures.complete i c.requires.goes_on, c.if-not-is_in_store.true)))
