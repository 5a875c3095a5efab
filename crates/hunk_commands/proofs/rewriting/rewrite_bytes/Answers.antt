use Rattle.std.proofs.Common.{◌-◌, refl, length}
use Rattle.std.proofs.lemmas.Result.{err_from_is_err_and}
use Rattle.hunk_files.specs.{FileView.file_of, HunkFile.{bytes_after, file_bytes}}
use Rattle.hunk_commands.specs.{Rewritten.{IsRewritten, stripped_where}, declared.rewriting.Rewritten.Rewritten}
use Rattle.hunk_commands.specs.declared.fault.RunFault.TheVariants.{RefusedIn}
use Rattle.hunk_commands.proofs.{RewriteLaws.{rewritten, tells_sizes}, Engines.{put_all, put_first, refuses}}
use Rattle.hunk_commands.proofs.rewriting.rewrite_bytes.Goals as goal

pub returns-in-Err-clause-rewrites : goal.returns-in-Err-clause-rewrites
returns-in-Err-clause-rewrites g c =
    refuses g.W.Sink.outlet (λ (done : Rewritten). IsRewritten c.args.strip done c.args.bytes.now) c.args.bytes.now c.args.w.now (RefusedIn c.in-Err.refusal) c.in-Err.ensures.none (c.in-Err.ensures.refused, c.in-Err.ensures.part)

pub returns-in_err-put_file-clause-rewrites : goal.returns-in_err-put_file-clause-rewrites
returns-in_err-put_file-clause-rewrites g c =
    let bytes = c.args.bytes.now in
    let file = file_of c.in-Ok.file in
    let done : Rewritten = record { written = 0; read = length bytes - bytes_after file; rest = bytes_after file } in
    put_first g.W.Sink.outlet (λ (done : Rewritten). IsRewritten c.args.strip done bytes) bytes c.args.w.now c.put_file.new.w
    (file_bytes (stripped_where c.args.strip file)) done (rewritten c.args.strip done bytes file c.in-Ok.ensures.file (tells_sizes done bytes file c.in-Ok.ensures.file refl refl))
    c.from_residual.result c.in_err-put_file.field-0.0 c.in_err-put_file.ensures (err_from_is_err_and c.from_residual.result c.from_residual.ensures.1)

pub returns-clause-rewrites : goal.returns-clause-rewrites
returns-clause-rewrites g c =
    let bytes = c.args.bytes.now in
    let file = file_of c.in-Ok.file in
    let done : Rewritten = record { written = c.written.result; read = length bytes - c.rest-rest.result; rest = c.rest-rest.result } in
    let text = file_bytes (stripped_where c.args.strip file) in
    put_all g.W.Sink.outlet (λ (done : Rewritten). IsRewritten c.args.strip done bytes) bytes c.args.w.now c.put_file.new.w text done
    (rewritten c.args.strip done bytes file c.in-Ok.ensures.file (tells_sizes done bytes file c.in-Ok.ensures.file c.rest-rest.ensures refl))
    c.in_ok-put_file.field-0 c.in_ok-put_file.ensures
