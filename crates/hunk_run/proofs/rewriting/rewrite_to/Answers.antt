use Rattle.std.proofs.Common.{rules, ◌≡◌, ◌∙◌, ℕ, Result, Ok, ap, refl, subst}
use Rattle.std.specs.Prelude.{IfOk, OnOk}
use Rattle.hunk_commands.specs.Engine.{IsTextOfSome}
use Rattle.hunk_commands.specs.Rewritten.{IsRewritten}
use Rattle.hunk_commands.specs.declared.fault.RunFault.{RunFault}
use Rattle.hunk_commands.specs.declared.rewriting.Rewritten.{Rewritten}
use Rattle.hunk_run.specs.Orders.{RewritesFirst}
use Rattle.hunk_run.specs.OutFile.{OutFile, file_outlet}
use Rattle.hunk_run.specs.Wide.{meant}
use Rattle.hunk_run.proofs.Telling.{makes_first, rewrites_to}
use Rattle.hunk_run.proofs.rewriting.rewrite_to.Goals as goal

-- what is known where the answer is this value
of_ok : {T E : Type 0} (result : Result T E) (value : T) (Holds : T → Type 0) → result ≡ Ok value → IfOk result Holds → Holds value
of_ok {T} {E} result value Holds is holds = subst (λ (r : Result T E). IfOk r Holds) is holds

pub returns-in-Ok-kept-clause-rewrites : goal.returns-in-Ok-kept-clause-rewrites
returns-in-Ok-kept-clause-rewrites g c =
    let all = of_ok c.rewrite_asked-answer.result.0 c.in-Ok.done _ c.in-Ok.is c.rewrite_asked-answer.ensures.done in
    let counted = of_ok c.rewrite_asked-answer.result.0 c.in-Ok.done _ c.in-Ok.is c.rewrite_asked-answer.ensures.counted in
    record {
      input = all.input;
      read = all.read;
      holds = rewrites_to c.new-writer.result c.rewrite_asked-answer.new.writer c.sync-kept.new.self (g.S.Store.made c.args.store) g.K.Outset.made (g.S.Store.made c.finish-store-2.result.0) g.K.Outset.name
          c.args.output.now c.in-Ok.done.written (ap (λ (o : OutFile). o.taken) c.new-writer.ensures.holds ∙ c.new.ensures.empty) c.new-writer.ensures.unwritten (c.sync-kept.ensures.same ∙ ap (λ (o : OutFile). o.taken) c.into_inner-out.ensures) counted c.requires.1 c.requires.2 c.finish-store-2.ensures.made
          c.args.way.strip c.args.way.wide c.in-Ok.done all.input refl c.in-Ok-kept.ensures.settled all.holds;
    }

-- all was written, and some of it is lost

pub returns-in-Err-kept-clause-write : goal.returns-in-Err-kept-clause-write
returns-in-Err-kept-clause-write g c = λ written is.
    let all = of_ok c.rewrite_asked-answer.result.0 c.in-Ok.done _ c.in-Ok.is c.rewrite_asked-answer.ensures.done in
    let counted = of_ok c.rewrite_asked-answer.result.0 c.in-Ok.done _ c.in-Ok.is c.rewrite_asked-answer.ensures.counted in
    let (puts, whole) = all.holds in
    let same : c.in-Ok.done.written ≡ written = cc in
    record {
      input = all.input;
      read = all.read;
      holds = subst (λ (n : ℕ). RewritesFirst (g.S.Store.made c.args.store) (g.S.Store.made c.finish-store-2.result.0) c.args.output.now c.args.way.strip c.args.way.wide n all.input) same
          (makes_first c.new-writer.result c.rewrite_asked-answer.new.writer c.sync-kept.new.self (g.S.Store.made c.args.store) g.K.Outset.made (g.S.Store.made c.finish-store-2.result.0) g.K.Outset.name
          c.args.output.now c.in-Ok.done.written (ap (λ (o : OutFile). o.taken) c.new-writer.ensures.holds ∙ c.new.ensures.empty) c.new-writer.ensures.unwritten
          (c.sync-kept.ensures.same ∙ ap (λ (o : OutFile). o.taken) c.into_inner-out.ensures) counted c.requires.1 c.requires.2 c.finish-store-2.ensures.made
          (IsTextOfSome (λ (done : Rewritten). IsRewritten c.args.way.strip done (meant c.args.way.wide all.input))) c.finish-store-2.ensures.makes
          (record { text = puts.text; is_text = (c.in-Ok.done, puts.is_text); puts = puts.puts }));
    }

pub returns-in-Ok-kept-clause-error : goal.returns-in-Ok-kept-clause-error
returns-in-Ok-kept-clause-error g c =
    let works = subst (λ (r : Result Rewritten RunFault). OnOk r ((file_outlet c.rewrite_asked-answer.new.writer.sink).failed ≡ (file_outlet c.new-writer.result.sink).failed)) c.in-Ok.is c.rewrite_asked-answer.ensures.no_failure in
    search rules
