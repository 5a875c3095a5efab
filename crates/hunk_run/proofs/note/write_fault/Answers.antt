use Rattle.std.proofs.Common.{ℕ, List, Some, codes, sym, subst}
use Rattle.std.specs.Fmt.{DisplaysOnOk}
use Rattle.hunk_commands.specs.declared.fault.RunFault.{RunFault}
use Rattle.hunk_run.specs.Notes.{fault_note, said_with, shown_name, verdict_line}
use Rattle.hunk_run.proofs.note.write_fault.Goals as goal

pub returns-in-RefusedIn : goal.returns-in-RefusedIn
returns-in-RefusedIn g c =
    let Writes : List ℕ → Type 0 =
    λ hint. DisplaysOnOk g.W.Write.write_str_gives c.args.f.now c.write_verdict-in-RefusedIn.result
    (Some (said_with (shown_name c.args.name.now (codes "standard input")) (verdict_line (record { refusal = c.in-RefusedIn.refusal.fault; part = Some c.in-RefusedIn.refusal.part })) hint c.args.untouched.now))
    c.write_verdict-in-RefusedIn.new.f in
    subst (λ (fault : RunFault). DisplaysOnOk g.W.Write.write_str_gives c.args.f.now c.write_verdict-in-RefusedIn.result (fault_note fault c.args.name.now c.args.cause.now c.args.untouched.now c.args.wide) c.write_verdict-in-RefusedIn.new.f)
    (sym c.in-RefusedIn.is) (subst Writes c.hint.ensures c.write_verdict-in-RefusedIn.ensures)

pub returns-in-Read : goal.returns-in-Read
returns-in-Read g c =
    subst (λ (fault : RunFault). DisplaysOnOk g.W.Write.write_str_gives c.args.f.now c.write_reading.result (fault_note fault c.args.name.now c.args.cause.now c.args.untouched.now c.args.wide) c.write_reading.new.f)
    (sym c.in-Read.is) (c.write_reading.ensures c.in-Read.place c.args.wide)
