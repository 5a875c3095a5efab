use Rattle.hunk_files.proofs.object.file.ObjectFile.encode.Given as goal

abbrev pub ghost-new : goal.ghost-new
ghost-new g a = a.out.now
