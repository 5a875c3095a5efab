use Rattle.std.proofs.Common.{◌≡◌, ◌++◌, length}
use Rattle.std.specs.Slice.Iter.{chunks_rest, chunks_size}
use Rattle.hunk_listing.specs.SegmentLines.{dump, segment_line}
use Rattle.hunk_listing.proofs.segment.print_segment.Given as goal

-- the rows so far, and then those of the rest
abbrev pub invariant-loop-part : goal.invariant-loop-part
invariant-loop-part g l = record {
  same : l.page.origin ≡ l.fn.page.origin;
  sixteen : chunks_size l.part-iterator ≡ 16;
  rows : l.page.text ++ dump (chunks_rest l.part-iterator) ≡ l.fn.page.text ++ (segment_line l.number l.base (length l.bytes) ++ dump l.bytes);
}
