use Rattle.std.proofs.Common.{◌≡◌, ◌∙◌, ◌++◌, List, [], length, drop, refl, sym, ap, arith}
use Rattle.std.proofs.lemmas.{List.length-map}
use Rattle.hunk_files.specs.FileView.{file_of}
use Rattle.hunk_files.specs.declared.file_view.FileView.{FileView}
use Rattle.hunk_lint.specs.Warnings.{warnings}
use Rattle.hunk_c.specs.{Warnings.{load_rows, room_in, warning_row, warning_rows}, declared.warnings.WarningRow.WarningRow}
use Rattle.hunk_c.proofs.{OneFile.file_size, Tabulated.none_written, Warned.{few, lacking, listed, long_enough, short}}
use Rattle.hunk_c.proofs.warnings.write_warnings.Goals as goal

abbrev rows_of : FileView → List WarningRow
rows_of file = warning_rows (file_of file)

pub returns-in_default : goal.returns-in_default
returns-in_default c =
    let file = file_of c.args.file.now in
    let none : warning_rows file ≡ [] = ap rows_of c.in_default.is in
    let count = ap (λ (rows : List WarningRow). length rows) none in
    listed _ _ _ file c.requires.file _ _ 0 c.hunks_in-hunks.ensures (omega (arith, c.rest.ensures, file_size c.args.bytes.now file c.requires.file)) _
    (sym count) (omega (arith, count)) _ (none_written (warning_rows file) c.args.rows.now none) c.done.ensures

pub most_warnings-requires : goal.most_warnings-requires
most_warnings-requires c =
    let file = file_of c.args.file.now in
    record {
      few = omega (
        arith,
        few c.args.bytes.now file c.requires.file,
        c.rest.ensures,
        file_size c.args.bytes.now file c.requires.file,
        ap (λ (file : FileView). length (rows_of file)) c.in-Load.is,
        length-map {B = WarningRow} (warnings c.in-Load.file) warning_row,
      );
      longs = omega (
        arith,
        long_enough c.args.bytes.now file c.requires.file,
        c.rest.ensures,
        file_size c.args.bytes.now file c.requires.file,
        ap (λ (file : FileView). room_in (file_of file)) c.in-Load.is,
      );
    }

pub returns-in-Err : goal.returns-in-Err
returns-in-Err c =
    let file = file_of c.args.file.now in
    lacking _ _ _ file c.requires.file _ _ 0 c.hunks_in-hunks.ensures (omega (arith, c.rest.ensures, file_size c.args.bytes.now file c.requires.file)) _
    (omega (arith, c.in-Err.ensures.too_small, ap (λ (file : FileView). room_in (file_of file)) c.in-Load.is)) _ refl c.no_room.ensures

pub returns-then-count-most : goal.returns-then-count-most
returns-then-count-most c =
    let file = file_of c.args.file.now in
    let count = ap (λ (file : FileView). length (rows_of file)) c.in-Load.is in
    let exact = c.in-Ok.ensures.exact c.if-count-most.true in
    let size = length-map {B = WarningRow} (warnings c.in-Load.file) warning_row in
    short _ _ _ file c.requires.file _ _ c.in-Ok.count c.hunks_in-hunks.ensures (omega (arith, c.rest.ensures, file_size c.args.bytes.now file c.requires.file)) _
    (omega (arith, count, exact, size)) (omega (arith, count, exact, size, c.if-count-most.true)) c.no_room-then-count-most.ensures

pub put_warnings-requires-clause-longs : goal.put_warnings-requires-clause-longs
put_warnings-requires-clause-longs c =
    let file = file_of c.args.file.now in
    omega (
      arith,
      long_enough c.args.bytes.now file c.requires.file,
      c.rest.ensures,
      file_size c.args.bytes.now file c.requires.file,
      ap (λ (file : FileView). room_in (file_of file)) c.in-Load.is,
    )

pub returns-in-Ok-put_warnings : goal.returns-in-Ok-put_warnings
returns-in-Ok-put_warnings c =
    let file = file_of c.args.file.now in
    let rows : rows_of c.args.file.now ≡ load_rows c.in-Load.file = ap rows_of c.in-Load.is in
    let count = ap (λ (rows : List WarningRow). length rows) rows in
    let size = length-map {B = WarningRow} (warnings c.in-Load.file) warning_row in
    listed _ _ _ file c.requires.file _ _ c.in-Ok-put_warnings.count c.hunks_in-hunks.ensures
    (omega (arith, c.rest.ensures, file_size c.args.bytes.now file c.requires.file)) _ (omega (arith, count, c.in-Ok-put_warnings.ensures.count))
    (omega (arith, count, size, c.in-Ok.ensures.all, c.if-count-most.false)) _
    (c.in-Ok-put_warnings.ensures.rows ∙ ap (λ (xs : List WarningRow). xs ++ drop (length xs) c.args.rows.now) (sym rows)) c.done-in-Ok-put_warnings.ensures

pub returns-in-Err-put_warnings : goal.returns-in-Err-put_warnings
returns-in-Err-put_warnings c =
    let file = file_of c.args.file.now in
    lacking _ _ _ file c.requires.file _ _ 0 c.hunks_in-hunks.ensures (omega (arith, c.rest.ensures, file_size c.args.bytes.now file c.requires.file)) _
    (omega (arith, c.in-Err-put_warnings.ensures.too_small, c.most_warnings.auto.room, ap (λ (file : FileView). room_in (file_of file)) c.in-Load.is)) _
    c.in-Err-put_warnings.ensures.stays c.no_room-in-Err-put_warnings.ensures
