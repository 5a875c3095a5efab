use Rattle.std.proofs.Common.{ℕ, List, [], take, refl, sym, ap, subst, ◌∙◌, append-nil}
use Rattle.std.proofs.lemmas.Result.{err_from_is_err_and}
use Rattle.hunk_words.specs.Longs.{bytes_of}
use Rattle.hunk_files.specs.{Fault.HasLoadText, InPlace.AreLoadFile, LoadFile.{LoadFileValue, IsLoadFile}, LoadText.text}
use Rattle.hunk_files.proofs.{cuts.LoadCuts.load_value, walk.Refusals.{fault_not_memory, fault_of_load}, walk.Scan.no_fault}
use Rattle.hunk_files.proofs.load.view.LoadView.read.Goals as goal

pub returns-in_err-size-clause-none : goal.returns-in_err-size-clause-none
returns-in_err-size-clause-none c =
    let p = err_from_is_err_and c.from_residual.result c.from_residual.ensures.1 in
    rw p.1 (λ file. no_fault c.args.bytes.now c.in_err-size.field-0.0.fault.place c.in_err-size.field-0.0.fault.reason file c.in_err-size.ensures.0)

pub returns-in_err-size-clause-memory : goal.returns-in_err-size-clause-memory
returns-in_err-size-clause-memory c =
    let p = err_from_is_err_and c.from_residual.result c.from_residual.ensures.1 in
    rw (p.1, p.2) (fault_not_memory c.args.bytes.now c.in_err-size.field-0.0.fault.place c.in_err-size.field-0.0.fault.reason c.in_err-size.ensures.0)

pub returns-in_err-size-clause-own_reasons : goal.returns-in_err-size-clause-own_reasons
returns-in_err-size-clause-own_reasons c =
    let p = err_from_is_err_and c.from_residual.result c.from_residual.ensures.1 in
    rw (p.1, p.2) (fault_of_load c.args.bytes.now c.in_err-size.field-0.0.fault.place c.in_err-size.field-0.0.fault.reason c.in_err-size.ensures.0)

-- The bytes up to the end of the file are the file.
whole : (bytes : List ℕ) (size : ℕ) → HasLoadText bytes size → AreLoadFile (take size bytes)
whole bytes size h = record { file = record { value = h.value; is_load_file = h.is_load_file; rest = []; split = h.text_is ∙ sym (append-nil (bytes_of (text h.value))) }; ends = refl }

pub invariant_of-result : goal.invariant_of-result
invariant_of-result c = whole c.args.bytes.now c.in_ok-size.size c.in_ok-size.ensures

pub returns-clause-valid : goal.returns-clause-valid
returns-clause-valid c =
    let file = (whole c.args.bytes.now c.in_ok-size.size c.in_ok-size.ensures).file in
    subst IsLoadFile (sym (load_value (take c.in_ok-size.size c.args.bytes.now) file)) file.is_load_file

pub returns-clause-text : goal.returns-clause-text
unfolding whole
returns-clause-text c =
    let file = (whole c.args.bytes.now c.in_ok-size.size c.in_ok-size.ensures).file in
    c.in_ok-size.ensures.text_is ∙ ap (λ (v : LoadFileValue). bytes_of (text v)) (sym (load_value (take c.in_ok-size.size c.args.bytes.now) file))
