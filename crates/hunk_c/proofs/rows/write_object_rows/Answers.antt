use Rattle.std.proofs.Common.{◌≡◌, ◌∙◌, List, length, sym, ap, subst, arith}
use Rattle.hunk_files.specs.{FileView.file_of, HunkFile.IsFileOf}
use Rattle.hunk_files.specs.declared.file_view.FileView.{FileView}
use Rattle.hunk_files.specs.declared.hunk_file.HunkFile.{HunkFile}
use Rattle.hunk_files.specs.declared.hunk_file.HunkFile.TheVariants as files
use Rattle.hunk_c.specs.Rows.{HasRows}
use Rattle.hunk_c.proofs.{Loaded.same_answer, OneFile.file_size, Tabulated.none_written}
use Rattle.hunk_c.proofs.rows.write_object_rows.Goals as goal

pub returns-in-Load-clause-outcome : goal.returns-in-Load-clause-outcome
returns-in-Load-clause-outcome g c =
    let file : HunkFile = files.Load c.in-Load.file c.in-Load.rest in
    let same : file_of c.args.file.now ≡ file = ap (λ (v : FileView). file_of v) c.in-Load.is in
    let is : IsFileOf c.args.bytes.now file = subst (λ (f : HunkFile). IsFileOf c.args.bytes.now f) same c.requires.file in
    let none = c.requires.none _ _ same in
    let nothing : length (g.R.FileRow.rows file) ≡ 0 = ap (λ (rows : List _). length rows) none in
    HasRows file is (omega (arith, nothing)) (none_written (g.R.FileRow.rows file) c.args.rows.now none)
    (c.done.ensures ∙ same_answer 0 _ _ _ _ _ _ c.hunks.ensures.value (omega (arith, file_size c.args.bytes.now file is)) (sym nothing))
