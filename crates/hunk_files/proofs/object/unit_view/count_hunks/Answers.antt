use Rattle.std.proofs.Common.{◌≡◌, List, length, drop, false, ap, arith}
use Rattle.hunk_words.specs.Longs.{longs}
use Rattle.hunk_files.specs.{ObjectFile.ObjectHunk, UnitCuts.ends_unit}
use Rattle.hunk_files.proofs.keeping.HunkKeeping.{hunks_after, nearer, one_more}
use Rattle.hunk_files.proofs.views.ObjectViewLaws.{next_hunk, no_hunk, tested}
use Rattle.hunk_files.proofs.object.unit_view.count_hunks.Goals as goal

pub at-requires : goal.at-requires
at-requires c = next_hunk c.args.bytes.now c.counting.at c.counting.invariant.0 (tested c.args.bytes.now c.counting.at c.ends_unit.result c.ends_unit.ensures (let test = c.counting-test.true in cc))

pub counting-smaller : goal.counting-smaller
counting-smaller c =
    nearer c.args.bytes.now c.counting.at c.counting.invariant.0 (tested c.args.bytes.now c.counting.at c.ends_unit.result c.ends_unit.ensures (let test = c.counting-test.true in cc)) c.at.result c.at.ensures
    c.end-at.result c.end-at.ensures

pub overflow_add-hunks : goal.overflow_add-hunks
overflow_add-hunks c = omega (arith, c.counting.invariant.2, counting-smaller c, c.end-at.type_inv)

pub counting-preserved : goal.counting-preserved
counting-preserved c =
    let bytes = c.args.bytes.now in
    let at = c.counting.at in
    let here = c.counting.invariant.0 in
    let goes_on : ends_unit (longs (drop at bytes)) ≡ false = tested bytes at c.ends_unit.result c.ends_unit.ensures (let test = c.counting-test.true in cc) in (
      hunks_after bytes at here goes_on c.at.result c.at.ensures c.end-at.result c.end-at.ensures,
      omega (arith, c.counting.invariant.1, one_more bytes at here goes_on c.at.result c.at.ensures c.end-at.result c.end-at.ensures),
      omega (arith, c.counting.invariant.2, counting-smaller c),
    )

pub returns : goal.returns
returns c =
    omega (
      arith,
      c.counting.invariant.1,
      ap (λ (hs : List ObjectHunk). length hs)
          (no_hunk c.args.bytes.now c.counting.at c.counting.invariant.0 (tested c.args.bytes.now c.counting.at c.ends_unit.result c.ends_unit.ensures (let test = c.counting-test.false in cc))),
    )
