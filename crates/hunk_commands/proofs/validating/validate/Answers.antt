use Rattle.std.proofs.Common.{refl}
use Rattle.hunk_commands.proofs.Engines.{reads_then_puts}
use Rattle.hunk_commands.specs.{Incoming.WantsMemory, Inputs.WantedFor, Validated.IsValidated}
use Rattle.hunk_commands.proofs.IncomingLaws.{no_memory}
use Rattle.hunk_commands.proofs.validating.validate.Goals as goal

pub returns-clause-puts : goal.returns-clause-puts
returns-clause-puts g c =
    reads_then_puts g.W.Sink.outlet IsValidated (g.R.Source.supply c.args.r.now) (g.R.Source.supply c.read.new.source) c.args.file_bytes c.args.w.now c.report.new.w
    c.in_ok-input.input c.in_ok-input.input c.report.result c.in_ok-input.ensures.reads refl
    c.in_ok-input.ensures.reads_at_most.sound c.in_ok-input.ensures.reads_at_most.limit c.report.ensures

pub returns-clause-wants : goal.returns-clause-wants
returns-clause-wants g c =
    no_memory (WantedFor WantsMemory (g.R.Source.supply c.args.r.now) (g.R.Source.supply c.read.new.source)) c.in_ok-input.input c.report.result c.report.ensures.refused
