use Rattle.std.proofs.Common.{List, map, ap, sym, ◌∙◌, subst, arith}
use Rattle.hunk_files.specs.{declared.load.hunk.LoadHunk.LoadHunk, Image.HasMemoryOf, LoadFile.{LoadFileValue, IsLoadFile}}
use Rattle.hunk_files.specs.{Strip.strip_file, Tables.hunk_of}
use Rattle.hunk_files.proofs.{strip.StripLaws.{file_kept, memory_kept}, views.FileViews.whole_slice}
use Rattle.hunk_files.proofs.load.file.LoadFile.strip.Goals as goal

pub invariant_of-result : goal.invariant_of-result
invariant_of-result c =
    let items = c.self.inside.hunks.items in
    let strips = c.strip_hunks.ensures ∙ ap (λ (hs : List LoadHunk). strip_file (map hunk_of hs)) c.deref_mut.ensures.value in
    let value = whole_slice items c.strip_hunks.new.hunks c.self.inside.hunks.len (omega arith) strips in
    subst (λ (v : LoadFileValue). IsLoadFile v × HasMemoryOf v c.self.inside.view) (sym value)
    (file_kept (map hunk_of items) c.self.invariant.0, memory_kept (map hunk_of items) c.self.inside.view c.self.invariant.1)
