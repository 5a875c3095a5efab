use Rattle.std.proofs.Common.{length, subst}
use Rattle.std.specs.List.{AllByRecursion}
use Rattle.hunk_words.specs.Bits.{size_longs}
use Rattle.hunk_blocks.specs.{Parts.group_text, Views.group_of}
use Rattle.hunk_files.specs.LoadFile.{FitsGroup}
use Rattle.hunk_lint.specs.{Known.seen, Warnings.group_warnings}
use Rattle.hunk_lint.proofs.InTurn.{item_listed}
use Rattle.hunk_lint.proofs.listing.list_groups.Goals as goal

pub listing-preserved : goal.listing-preserved
listing-preserved g c =
    let hunk = c.args.hunk.now in
    let steps = c.in-Some.ensures.steps in (
      c.place-after.ensures,
      (subst (AllByRecursion (FitsGroup (length hunk.sizes.now) (size_longs hunk.size.word))) steps.0 c.listing.invariant.1).1,
      item_listed g.T.Takes.takes g.met.T.Takes.more (group_warnings (seen hunk)) group_text _ _ _ _ group_of c.listing.groups c.next.new.self c.in-Some.group c.listing.place steps
          c.listing.invariant.0 c.listing.invariant.2 c.list_group.ensures,
    )
