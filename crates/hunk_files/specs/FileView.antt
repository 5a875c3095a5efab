-- A file of either kind, read where it lies.
use Rattle.hunk_files.specs.declared.file_view.FileView.{FileView}
use Rattle.hunk_files.specs.declared.file_view.FileView.TheVariants as views
use Rattle.hunk_files.specs.declared.hunk_file.HunkFile.{HunkFile}
use Rattle.hunk_files.specs.declared.hunk_file.HunkFile.TheVariants as files

-- the file that is seen
abbrev pub file_of : FileView → HunkFile
file_of (views.Load value rest) = files.Load value rest
file_of (views.Object value) = files.Object value
