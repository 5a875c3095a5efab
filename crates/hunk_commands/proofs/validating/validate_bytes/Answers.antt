use Rattle.std.proofs.Common.{rules, ◌≡◌, ℕ, sym, subst}
use Rattle.std.proofs.lemmas.Result.{err_from_is_err_and}
use Rattle.hunk_files.specs.FileView.{file_of}
use Rattle.hunk_commands.specs.{Reports.{finding_count, report}, Validated.IsValidated}
use Rattle.hunk_commands.specs.declared.fault.RunFault.TheVariants.{RefusedIn}
use Rattle.hunk_commands.proofs.{FileLaws.validated_file, Engines.{put_all, put_first, refuses}}
use Rattle.hunk_commands.proofs.validating.validate_bytes.Goals as goal

pub returns-in-Err : goal.returns-in-Err
returns-in-Err g c =
    refuses g.W.Sink.outlet (λ count. IsValidated count c.args.bytes.now) c.args.bytes.now c.args.w.now (RefusedIn c.in-Err.refusal) c.in-Err.ensures.none (c.in-Err.ensures.refused, c.in-Err.ensures.part)

pub returns-in_err-printed : goal.returns-in_err-printed
returns-in_err-printed g c =
    let bytes = c.args.bytes.now in
    let file = file_of c.in-Ok.file in
    put_first g.W.Sink.outlet (λ count. IsValidated count bytes) bytes c.args.w.now {S = Unit} _ (report file) (finding_count file)
    (validated_file bytes file c.in-Ok.ensures.file) c.from_residual.result c.in_err-printed.field-0.0 (search rules)
    (err_from_is_err_and c.from_residual.result c.from_residual.ensures.1)

pub returns : goal.returns
returns g c =
    let bytes = c.args.bytes.now in
    let file = file_of c.in-Ok.file in
    let told : c.match-file.count ≡ finding_count file = search rules in
    put_all g.W.Sink.outlet (λ count. IsValidated count bytes) bytes c.args.w.now _ (report file) c.match-file.count
    (subst (λ (n : ℕ). IsValidated n bytes (report file)) (sym told) (validated_file bytes file c.in-Ok.ensures.file))
    c.in_ok-printed.field-0 (search rules)
