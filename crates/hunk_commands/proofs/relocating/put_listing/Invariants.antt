use Rattle.std.proofs.Common.{◌≡◌, ◌+◌, ◌++◌, length}
use Rattle.std.specs.Iterator.Adapters.{zip_first, zip_second}
use Rattle.hunk_scatter.specs.Rows.{bases_of}
use Rattle.hunk_listing.specs.{FileLines.numbered, SegmentLines.segment_lines}
use Rattle.hunk_commands.specs.Relocating.{image_listing, segments_of}
use Rattle.hunk_commands.proofs.relocating.put_listing.Given as goal

abbrev pub ghost-new : goal.ghost-new
ghost-new g a = a.out.now

-- the lines so far and those of the segments that are left, one for each hunk to come
abbrev pub invariant-hunks : goal.invariant-hunks
invariant-hunks g l =
    let hunks = zip_first l.hunk-iterator in
    let left = zip_second l.hunk-iterator in
    record {
      same : l.page.origin ≡ l.initial.page.origin;
      lines : l.page.text ++ numbered segment_lines hunks.start (segments_of (bases_of left.rows) left.segments) ≡ l.initial.page.text ++ image_listing l.image;
      count : hunks.start + length left.rows ≡ hunks.end;
    }
