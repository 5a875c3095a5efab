use Rattle.std.proofs.Common.{◌+◌, ℕ, List, length, ap, subst, arith}
use Rattle.std.specs.List.{AllByRecursion}
use Rattle.hunk_words.specs.Bits.{size_longs}
use Rattle.hunk_files.specs.LoadFile.{IsInside}
use Rattle.hunk_files.proofs.findings.FindingSteps.{taken_on}
use Rattle.hunk_lint.specs.{Known.seen, Warnings.{offset_warnings, offsets_warnings}}
use Rattle.hunk_lint.proofs.listing.list_group.Goals as goal

pub listing-preserved : goal.listing-preserved
listing-preserved g c =
    let f = seen c.args.hunk.now in
    let target = c.args.group.now.target in
    let left = offsets_warnings f target in
    let place = c.listing.place in
    let old = c.listing.offset-iterator in
    let new = c.next.new.self in
    let steps = c.in-Some.ensures.steps in (
      omega (arith, c.listing.invariant.0, ap (λ (os : List ℕ). length os) steps),
      (subst (AllByRecursion (IsInside (size_longs c.args.hunk.now.size.word))) steps c.listing.invariant.1).1,
      taken_on g.T.Takes.takes g.met.T.Takes.more _ _ _ (offset_warnings f target place c.in-Some.offset) (left (place + 4) new) (left place old)
          (left (c.args.start + 8) c.args.group.now.offsets) (ap (λ (os : List ℕ). left place os) steps) c.listing.invariant.2 c.list_offset.ensures,
    )
