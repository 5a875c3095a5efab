use Rattle.hunk_files.specs.FileView.{file_of}
use Rattle.hunk_files.proofs.FileKinds.{file_lacks}
use Rattle.hunk_files.proofs.hunk_file.HunkFile.decode.Goals as goal

pub returns-clause-memory : goal.returns-clause-memory
returns-clause-memory c = file_lacks c.args.bytes.now (file_of c.in_ok-read.field-0) c.keep.result c.in_ok-read.ensures.file c.keep.ensures.place
