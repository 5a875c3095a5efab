use Rattle.std.proofs.Common.{List, length, ap, subst}
use Rattle.std.specs.List.{AllByRecursion}
use Rattle.hunk_words.specs.Bits.{size_longs}
use Rattle.hunk_blocks.specs.{Parts.block_text, Placed.Placed, Values.BlockValue}
use Rattle.hunk_files.specs.LoadFile.{FitsHunk}
use Rattle.hunk_lint.specs.{Known.seen, Warnings.block_warnings}
use Rattle.hunk_lint.proofs.InTurn.{part_listed}
use Rattle.hunk_lint.proofs.listing.list_blocks.Goals as goal

pub listing-preserved : goal.listing-preserved
listing-preserved g c =
    let hunk = c.args.hunk.now in
    let steps = c.in-Some.ensures.steps in
    let Fits = λ (b : BlockValue). FitsHunk (length hunk.sizes.now) (size_longs hunk.size.word) b.body in (
      (subst (AllByRecursion Fits) (ap (λ (p : Placed (List BlockValue)). p.value) steps.0) c.listing.invariant.0).1,
      part_listed g.T.Takes.takes g.met.T.Takes.more (block_warnings (seen hunk)) block_text _ _ _ _ c.listing.blocks c.next.new.self c.in-Some.block steps c.listing.invariant.1 c.list_block.ensures,
    )
