use Rattle.std.proofs.Common.{ℕ, ◌-◌, ◌≡◌, arith, subst, ap, false}
use Rattle.hunk_words.specs.Longs.{longs}
use Rattle.hunk_files.specs.declared.load.passing.BlockPlace.{BlockPlace}
use Rattle.hunk_files.specs.declared.load.walk.DeclaredHunk.{DeclaredHunk}
use Rattle.hunk_files.specs.Passing.{AreRows}
use Rattle.hunk_files.proofs.load.header.first_place.Goals as goal

pub returns : goal.returns
returns c =
    let hunks = c.in_ok-hunks.hunks in
    let rows = c.after_rows-at in
    let all : rows.result.1 ≡ hunks = omega (arith, rows.ensures.few, c.if-count-hunks.false) in
    let opened : DeclaredHunk → BlockPlace = λ entry. record {
      at = rows.result.0;
      hunk = record { hunks = hunks; ahead = hunks - 1; has_content = false };
      begun = false;
      entry = entry;
    } in
    record {
      header = c.in_ok-hunks.ensures;
      table = subst (λ (n : ℕ). AreRows (longs c.args.bytes.now) 5 n rows.result.0) all rows.ensures.rows;
      opens = ap opened c.at.ensures;
    }
