use Rattle.std.proofs.Common.{sym, ap, subst, ◌∙◌}
use Rattle.std.proofs.lemmas.Result.{err_from_is_err_and}
use Rattle.hunk_words.specs.Longs.{bytes_of}
use Rattle.hunk_files.specs.ObjectFile.{IsObjectFile, ObjectFileValue, object_text}
use Rattle.hunk_files.proofs.{object_walk.ObjectRefusals.{fault_other, fault_own}, object_walk.OneObjectFault.no_object, views.UnitViewLaws.units_of_is}
use Rattle.hunk_files.proofs.object.view.ObjectView.read.Goals as goal

pub returns-in_err-walk_object-clause-none : goal.returns-in_err-walk_object-clause-none
returns-in_err-walk_object-clause-none c =
    let p = err_from_is_err_and c.from_residual.result c.from_residual.ensures.1 in
    let r = c.in_err-walk_object.field-0.0 in
    rw p.1 (no_object c.args.bytes.now r.fault.place r.fault.reason c.in_err-walk_object.ensures.0)

pub returns-in_err-walk_object-clause-memory : goal.returns-in_err-walk_object-clause-memory
returns-in_err-walk_object-clause-memory c =
    let p = err_from_is_err_and c.from_residual.result c.from_residual.ensures.1 in
    let r = c.in_err-walk_object.field-0.0 in
    rw (p.1, p.2) (fault_other c.args.bytes.now r.fault.place r.fault.reason c.in_err-walk_object.ensures.0)

pub returns-in_err-walk_object-clause-own_reasons : goal.returns-in_err-walk_object-clause-own_reasons
returns-in_err-walk_object-clause-own_reasons c =
    let p = err_from_is_err_and c.from_residual.result c.from_residual.ensures.1 in
    let r = c.in_err-walk_object.field-0.0 in
    rw (p.1, p.2) (fault_own c.args.bytes.now r.fault.place r.fault.reason c.in_err-walk_object.ensures.0)

pub returns-clause-file : goal.returns-clause-file
returns-clause-file c =
    let file = c.in_ok-walk_object.ensures in
    subst IsObjectFile (sym (units_of_is c.args.bytes.now file)) file.is_object_file

pub returns-clause-text : goal.returns-clause-text
returns-clause-text c =
    let file = c.in_ok-walk_object.ensures in
    file.text_is ∙ ap (λ (o : ObjectFileValue). bytes_of (object_text o)) (sym (units_of_is c.args.bytes.now file))
