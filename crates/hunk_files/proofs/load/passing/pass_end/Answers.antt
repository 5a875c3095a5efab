use Rattle.std.proofs.Common.{◌+◌, ◌-◌, false, ap, arith}
use Rattle.hunk_words.proofs.LongLaws.{length-longs}
use Rattle.hunk_files.specs.declared.load.passing.BlockPlace.{BlockPlace}
use Rattle.hunk_files.specs.declared.load.walk.DeclaredHunk.{DeclaredHunk}
use Rattle.hunk_files.proofs.load.passing.pass_end.Goals as goal

pub returns-clause-passes : goal.returns-clause-passes
returns-clause-passes c =
    let p = c.args.place.now in
    let opened : DeclaredHunk → BlockPlace = λ entry. record {
      at = p.at + 1;
      hunk = record { hunks = p.hunk.hunks; ahead = p.hunk.ahead - 1; has_content = false };
      begun = false;
      entry = entry;
    } in
    record {
      ahead = omega (arith, c.if-place-eq0.false);
      entry_inside = omega (arith, c.if-next-bytes.false, length-longs c.args.bytes.now);
      opens = ap opened c.at-place.ensures;
    }
