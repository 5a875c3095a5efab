use Rattle.std.proofs.Common.{rules, ◌++◌}
use Rattle.std.proofs.lemmas.Result.{err_from_is_err_and}
use Rattle.hunk_listing.specs.FileLines.{load_line, where_rest}
use Rattle.hunk_commands.specs.{Validated.IsValidated, declared.fault.RunFault.TheVariants.RefusedIn}
use Rattle.hunk_commands.proofs.{Engines.{put_all, put_first, refuses}, IncomingLaws.{load_refusal, no_file, summed_up}}
use Rattle.hunk_commands.proofs.incoming.report_load.Goals as goal

pub returns-in-Err : goal.returns-in-Err
returns-in-Err g c =
    let e = c.in-Err.ensures in
    let announced = c.requires.announced.1 in
    refuses g.W.Sink.outlet (λ count. IsValidated count c.args.check) c.args.check c.args.w.now (RefusedIn c.in-Err.refusal)
    (no_file c.args.check c.in-Err.refusal announced e.none) (load_refusal c.args.check c.in-Err.refusal announced e.fault e.own_reasons e.part)

pub returns-in_err-printed : goal.returns-in_err-printed
returns-in_err-printed g c =
    let s = c.in-Ok.summary in
    put_first g.W.Sink.outlet (λ count. IsValidated count c.args.check) c.args.check c.args.w.now {S = Unit} _ (load_line s.hunks s.bytes ++ where_rest s.rest) 0
    (summed_up c.args.check s c.in-Ok.ensures.summary) c.from_residual.result c.in_err-printed.field-0.0 (search rules)
    (err_from_is_err_and c.from_residual.result c.from_residual.ensures.1)

pub returns : goal.returns
returns g c =
    let s = c.in-Ok.summary in
    put_all g.W.Sink.outlet (λ count. IsValidated count c.args.check) c.args.check c.args.w.now _ (load_line s.hunks s.bytes ++ where_rest s.rest) 0
    (summed_up c.args.check s c.in-Ok.ensures.summary) c.in_ok-printed.field-0 (search rules)
