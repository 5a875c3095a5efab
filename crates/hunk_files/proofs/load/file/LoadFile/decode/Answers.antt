use Rattle.std.proofs.lemmas.Result.{err_from_is_err_and}
use Rattle.hunk_files.proofs.cuts.LoadCuts.{begins}
use Rattle.hunk_files.proofs.load.file.LoadFile.decode.Goals as goal

pub returns-in_err-file-clause-memory : goal.returns-in_err-file-clause-memory
returns-in_err-file-clause-memory c =
    let p = err_from_is_err_and c.from_residual-in_err-file.result c.from_residual-in_err-file.ensures.1 in
    let read = c.in_ok-view.ensures in
    let file = begins c.args.bytes.now c.in_ok-view.size (record { value = c.in_ok-view.view; is_load_file = read.valid; text_is = read.text; whole = read.inside }) in
    rw (p.1, p.2) (λ memory. record { file = file; ends = c.in_err-file.ensures.place })
