use Rattle.std.proofs.Common.{[], ◌∙◌, List, ℕ, arith, subst}
use Rattle.hunk_words.specs.Longs.{bytes_of}
use Rattle.hunk_parts.proofs.LongBytes.{longs_none}
use Rattle.hunk_parts.proofs.RowTexts.{header_begun, header_none}
use Rattle.hunk_parts.proofs.text.put_head.Goals as goal

pub put_header-requires-clause-count : goal.put_header-requires-clause-count
put_header-requires-clause-count g c = c.requires ∙ (header_begun [] c.args.rows.now (omega (arith, c.requires, c.if-hunks-gt0.true))).1

pub returns-then-hunks-gt0 : goal.returns-then-hunks-gt0
returns-then-hunks-gt0 g c =
    λ bytes.
    subst (λ (xs : List ℕ). g.T.TakesBytes.takes c.args.taker.now (bytes_of xs) c.put_header.new.taker) (header_begun bytes c.args.rows.now (omega (arith, c.requires, c.if-hunks-gt0.true))).0 c.put_header.ensures

pub returns-else-hunks-gt0 : goal.returns-else-hunks-gt0
returns-else-hunks-gt0 g c =
    λ bytes.
    longs_none g.T.TakesBytes.takes g.met.T.TakesBytes.more g.met.T.TakesBytes.none c.args.taker.now _ (header_none bytes c.args.rows.now (omega (arith, c.requires, c.if-hunks-gt0.false)))
