use Rattle.std.specs.Prelude.{IfErr}
use Rattle.std.proofs.Common.{◌≢◌, ◌∙◌, refl, sym, inl, inr}
use Rattle.std.proofs.lemmas.{List.length-drop, Result.err_from_is_err_and}
use Rattle.hunk_words.specs.Longs.{longs}
use Rattle.hunk_grammar.specs.{declared.file_kind.Sniff.Sniff, declared.file_kind.Sniff.TheVariants.{Load, Object}}
use Rattle.hunk_grammar.specs.FileKind.{sniffed}
use Rattle.hunk_files.specs.{Fault.BeginsWithLoadFile, FileParts.IsPartAt, HunkFile.{AreObjectFile, IsLoadRefusal, IsRefusal}}
use Rattle.hunk_files.proofs.FileKinds.{load_of, no_load, no_object, not_object}
use Rattle.hunk_files.proofs.file_view.FileView.read.Goals as goal

pub returns-in_ok-file-in-Object-clause-file : goal.returns-in_ok-file-in-Object-clause-file
returns-in_ok-file-in-Object-clause-file c =
    let ok = c.in_ok-file-in-Object in
    (record { value = ok.file; is_object_file = ok.ensures.file; text_is = ok.ensures.text }, refl)

pub returns-in_err-file-in-Object-clause-none : goal.returns-in_err-file-in-Object-clause-none
returns-in_err-file-in-Object-clause-none c =
    let p = err_from_is_err_and c.from_residual.result c.from_residual.ensures.1 in
    let none : IfErr c.from_residual.result (λ fault. AreObjectFile c.args.bytes.now → ⊥) = rw p.1 (λ file. c.in_err-file-in-Object.ensures.none file.value file.is_object_file file.text_is) in
    no_object c.args.bytes.now c.from_residual.result (sym c.sniff.ensures ∙ c.in-Object.is) none

pub returns-in_ok-file-in-Load : goal.returns-in_ok-file-in-Load
returns-in_ok-file-in-Load c =
    let ok = c.in_ok-file-in-Load in
    record {
      file = load_of c.args.bytes.now ok.file ok.size ok.ensures.valid ok.ensures.text ok.ensures.inside _ (sym (length-drop ok.size c.args.bytes.now));
      none = tt;
      refused = tt;
      part = tt;
      memory = tt;
    }

pub returns-in_err-file-in-Load : goal.returns-in_err-file-in-Load
returns-in_err-file-in-Load c =
    let kind : c.sniff.result ≢ Object = λ object. elim c.in-Load.is [ inl load ↦ cc | inr others ↦ elim others [ inl library ↦ cc | inr other ↦ cc ] ] in
    let bytes = c.args.bytes.now in
    let announced : sniffed (longs bytes) ≢ Object = λ object. kind (c.sniff.ensures ∙ object) in
    let result = c.from_residual-in_err-file-in-Load.result in
    let p = err_from_is_err_and result c.from_residual-in_err-file-in-Load.ensures.1 in
    let err = c.in_err-file-in-Load.ensures in
    let refused : IfErr result (λ r. IsLoadRefusal bytes r.fault) = rw (p.1, p.2) (err.fault, err.own_reasons) in
    let part : IfErr result (λ r. IsPartAt Load bytes r.fault.place r.part) = rw (p.1, p.2) err.part in
    let none : IfErr result (λ fault. BeginsWithLoadFile bytes → ⊥) = rw p.1 err.none in
    record {
      file = rw p.1 tt;
      none = no_load bytes result announced none;
      refused = not_object (λ (kind : Sniff). IfErr result (λ r. IsRefusal kind bytes r.fault)) (sniffed (longs bytes)) announced refused refused refused;
      part = not_object (λ (kind : Sniff). IfErr result (λ r. IsPartAt kind bytes r.fault.place r.part)) (sniffed (longs bytes)) announced part part part;
      memory = rw (p.1, p.2) err.memory;
    }
