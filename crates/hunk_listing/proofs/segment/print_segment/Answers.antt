use Rattle.std.proofs.Common.{◌++◌, length, ◌∙◌, arith, rules}
use Rattle.std.specs.Slice.Iter.{chunks_rest}
use Rattle.hunk_listing.specs.SegmentLines.{dump, dump_row, segment_line}
use Rattle.hunk_listing.proofs.Lines.{shown_next}
use Rattle.hunk_listing.proofs.RowLaws.{dump-nil, dump-append}
use Rattle.hunk_listing.proofs.segment.print_segment.Goals as goal

pub loop-part-preserved : goal.loop-part-preserved
loop-part-preserved g c =
    let steps = c.in-Some.ensures.steps in
    let part = c.in-Some.part.now in
    let rest = chunks_rest c.next.new.self in
    let rows = dump-append (chunks_rest c.loop-part.part-iterator) part rest steps.1.0 (omega (arith, steps.1.1, c.loop-part.invariant.sixteen)) steps.1.2 in
    let all = c.args.page.now.text ++ (segment_line c.args.number c.args.base (length c.args.bytes.now) ++ dump c.args.bytes.now) in
    record {
      same = c.print_row.ensures.0 ∙ c.loop-part.invariant.same;
      sixteen = steps.0 ∙ c.loop-part.invariant.sixteen;
      rows = shown_next _ (dump_row part) (dump rest) c.loop-part.page.text c.print_row.new.page.text all rows c.loop-part.invariant.rows c.print_row.ensures.1;
    }

pub returns : goal.returns
returns g c =
    let none = dump-nil (chunks_rest c.loop-part.part-iterator) c.in-None.ensures.steps.1.0 in
    search (rules, none)
