use Rattle.std.proofs.Common.{◌+◌, ◌*◌, ◌≤◌, List, ℕ, arith, sym, ◌∙◌, length}
use Rattle.hunk_words.specs.Longs.{longs}
use Rattle.hunk_words.proofs.LongLaws.{length-longs}
use Rattle.hunk_c.proofs.LastHunks.{at_hunk, at_none, hunk_within, last_found, last_none, leads_on}
use Rattle.hunk_c.proofs.PassedRows.{rows_on}
use Rattle.hunk_c.proofs.front.last_hunk.Goals as goal

whole : (bytes : List ℕ) (end : ℕ) → 4 * end ≤ length bytes → end ≤ length (longs bytes)
whole bytes end inside = omega (arith, inside, length-longs bytes)

pub returns-then-stride-end : goal.returns-then-stride-end
returns-then-stride-end c =
    let w = c.longwords in
    let s = c.load_stride-stride in
    let ws : List ℕ = longs c.args.bytes.now in
    let last =
    hunk_within ws w.at c.args.end w.position w.last w.invariant.1 w.invariant.2 c.longwords-test.true (whole c.args.bytes.now c.args.end c.requires) _ c.word_at.ensures s.result.run s.ensures.run s.result.after s.ensures.after
    (omega (arith, c.if-stride-end.true)) in
    record { found = last_found ws c.args.end w.last last; none = last_none ws c.args.end w.last last }

pub longwords-preserved-in-Some : goal.longwords-preserved-in-Some
longwords-preserved-in-Some c =
    let w = c.longwords in
    let s = c.load_stride-stride in
    let r = c.pass_rows-after in
    let ws : List ℕ = longs c.args.bytes.now in
    let less : w.at + 1 + s.result.run ≤ c.args.end = omega (arith, c.if-stride-end.false, c.longwords-test.true) in (
      (rows_on ws (w.at + 1 + s.result.run) c.args.end s.result.after r.result.0 r.result.1 less r.ensures).1,
      leads_on ws w.at c.args.end w.position w.last w.invariant.1 w.invariant.2 c.longwords-test.true (whole c.args.bytes.now c.args.end c.requires) _ c.word_at.ensures s.result.run s.ensures.run s.result.after s.ensures.after less
          r.result.0 r.result.1 r.ensures,
      at_hunk ws w.at c.args.end w.position w.last w.invariant.1 w.invariant.2 c.longwords-test.true (whole c.args.bytes.now c.args.end c.requires) _ c.word_at.ensures s.result.run s.ensures.run s.result.after s.ensures.after less
          r.result.0 r.result.1 r.ensures c.in-Some.hunk (sym c.hunk_between.ensures ∙ c.in-Some.is),
    )

pub longwords-preserved : goal.longwords-preserved
longwords-preserved c =
    let w = c.longwords in
    let s = c.load_stride-stride in
    let r = c.pass_rows-after in
    let ws : List ℕ = longs c.args.bytes.now in
    let less : w.at + 1 + s.result.run ≤ c.args.end = omega (arith, c.if-stride-end.false, c.longwords-test.true) in (
      (rows_on ws (w.at + 1 + s.result.run) c.args.end s.result.after r.result.0 r.result.1 less r.ensures).1,
      leads_on ws w.at c.args.end w.position w.last w.invariant.1 w.invariant.2 c.longwords-test.true (whole c.args.bytes.now c.args.end c.requires) _ c.word_at.ensures s.result.run s.ensures.run s.result.after s.ensures.after less
          r.result.0 r.result.1 r.ensures,
      at_none ws w.at c.args.end w.position w.last w.invariant.1 w.invariant.2 c.longwords-test.true (whole c.args.bytes.now c.args.end c.requires) _ c.word_at.ensures s.result.run s.ensures.run s.result.after s.ensures.after less
          r.result.0 r.result.1 r.ensures (sym c.hunk_between.ensures ∙ c.in_default.is),
    )
