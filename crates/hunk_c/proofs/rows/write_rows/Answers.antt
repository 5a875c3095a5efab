use Rattle.std.proofs.Common.{◌≡◌, length, refl, ◌∙◌, arith}
use Rattle.hunk_files.specs.{FileView.file_of}
use Rattle.hunk_c.specs.Rows.{HasNoRoom, HasRows}
use Rattle.hunk_c.proofs.{Loaded.same_answer, OneFile.file_size, Tabulated.{counted, none_left, none_written, what_fits}}
use Rattle.hunk_c.proofs.rows.write_rows.Goals as goal

pub put_rows-count-requires : goal.put_rows-count-requires
put_rows-count-requires g c =
    let file = file_of c.args.file.now in
    let most = c.most_rows.ensures c.args.bytes.now file c.requires.file (omega (arith, c.rest.ensures, file_size c.args.bytes.now file c.requires.file)) in
    omega (arith, most, c.if-most_rows-room.true)

pub returns-then-most_rows-room-clause-outcome : goal.returns-then-most_rows-room-clause-outcome
returns-then-most_rows-room-clause-outcome g c =
    let file = file_of c.args.file.now in
    let most = c.most_rows.ensures c.args.bytes.now file c.requires.file (omega (arith, c.rest.ensures, file_size c.args.bytes.now file c.requires.file)) in
    HasRows file c.requires.file (omega (arith, most, c.if-most_rows-room.true)) c.put_rows-count.ensures.rows
    (c.done.ensures
    ∙ same_answer 0 _ _ _ _ _ _ c.hunks_in-hunks.ensures (omega (arith, c.rest.ensures, file_size c.args.bytes.now file c.requires.file)) c.put_rows-count.ensures.count)

pub returns-then-count-room-clause-outcome : goal.returns-then-count-room-clause-outcome
returns-then-count-room-clause-outcome g c =
    let file = file_of c.args.file.now in
    HasNoRoom file c.requires.file (omega (arith, c.count-count.ensures, c.if-count-room.true)) refl
    (c.no_room.ensures
    ∙ same_answer _ _ _ _ _ _ _ c.hunks_in-hunks.ensures (omega (arith, c.rest.ensures, file_size c.args.bytes.now file c.requires.file)) c.count-count.ensures)

pub returns-then-count-room-clause-succeeds : goal.returns-then-count-room-clause-succeeds
returns-then-count-room-clause-succeeds g c = what_fits g.R.FileRow.rows _ _ _ _ _ (returns-then-count-room-clause-outcome g c)

pub returns-then-count-eq0-clause-outcome : goal.returns-then-count-eq0-clause-outcome
returns-then-count-eq0-clause-outcome g c =
    let file = file_of c.args.file.now in
    let rows = g.R.FileRow.rows file in
    let exact : c.count-count.result ≡ length rows = counted _ _ _ c.count-count.ensures (omega (arith, c.if-count-room.false)) c.requires.small in
    HasRows file c.requires.file (omega (arith, exact, c.if-count-room.false)) (none_written rows c.args.rows.now (none_left rows (omega (arith, exact, c.if-count-eq0.true))))
    (c.done-then-count-eq0.ensures ∙ same_answer 0 _ _ _ _ _ _ c.hunks_in-hunks.ensures (omega (arith, c.rest.ensures, file_size c.args.bytes.now file c.requires.file)) exact)

pub returns-clause-outcome : goal.returns-clause-outcome
returns-clause-outcome g c =
    let file = file_of c.args.file.now in
    let exact : c.count-count.result ≡ length (g.R.FileRow.rows file) = counted _ _ _ c.count-count.ensures (omega (arith, c.if-count-room.false)) c.requires.small in
    HasRows file c.requires.file (omega (arith, exact, c.if-count-room.false)) c.put_rows.ensures.rows
    (c.done-2.ensures ∙ same_answer 0 _ _ _ _ _ _ c.hunks_in-hunks.ensures (omega (arith, c.rest.ensures, file_size c.args.bytes.now file c.requires.file)) exact)
