use Rattle.std.proofs.Common.{length, sym, ap, subst, ◌∙◌, arith}
use Rattle.std.proofs.lemmas.List.{length-map}
use Rattle.hunk_files.specs.LoadFile.{HunkValue, LoadFileValue, IsLoadFile}
use Rattle.hunk_files.proofs.{cuts.LoadCuts.load_value, cuts.TableReading.size_is}
use Rattle.hunk_files.proofs.load.view.LoadView.hunks.Goals as goal

pub word_at-requires : goal.word_at-requires
word_at-requires c = omega (arith, (size_is c.self.inside.bytes.now c.self.invariant.file).1)

pub returns-clause-value : goal.returns-clause-value
returns-clause-value c =
    let file = c.self.invariant.file in
    c.word_at.ensures ∙ (size_is c.self.inside.bytes.now file).0 ∙ length-map file.value (λ (h : HunkValue). h.entry)
    ∙ ap (λ (v : LoadFileValue). length v) (sym (load_value c.self.inside.bytes.now file) ∙ c.self.view_is)

pub returns-clause-file : goal.returns-clause-file
returns-clause-file c =
    let file = c.self.invariant.file in
    subst IsLoadFile (sym (load_value c.self.inside.bytes.now file) ∙ c.self.view_is) file.is_load_file
