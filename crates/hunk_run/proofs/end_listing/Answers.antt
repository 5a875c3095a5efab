use Rattle.std.proofs.Common.{◌≡◌, ℕ, Result, subst, sym, rules}
use Rattle.hunk_commands.specs.declared.fault.RunFault.{RunFault}
use Rattle.hunk_commands.specs.declared.fault.RunFault.TheVariants.{Write}
use Rattle.hunk_run.specs.Notes.{EndsListing}
use Rattle.hunk_run.proofs.Noting.{ends_listing}
use Rattle.hunk_run.proofs.end_listing.Goals as goal

pub returns-in-Err : goal.returns-in-Err
returns-in-Err g c =
    let other : (written : ℕ) → c.in-Err.fault ≡ Write written → ⊥ = λ written is. search rules in
    subst (λ (answer : Result ℕ RunFault). EndsListing g.W.Sink.outlet c.args.out.now c.report.new.out answer c.args.name c.args.cause c.args.wide c.report.result) (sym c.in-Err.is)
    (ends_listing g.W.Sink.outlet c.args.out.now c.report.new.out c.in-Err.fault c.args.name c.args.cause c.args.wide c.report.result other c.report.ensures)
