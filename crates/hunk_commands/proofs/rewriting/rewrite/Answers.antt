use Rattle.hunk_commands.proofs.Engines.{reads_then_puts}
use Rattle.hunk_commands.specs.Rewritten.{IsRewritten}
use Rattle.hunk_commands.proofs.rewriting.rewrite.Goals as goal

pub returns-clause-rewrites : goal.returns-clause-rewrites
returns-clause-rewrites g c =
    reads_then_puts g.W.Sink.outlet (IsRewritten c.args.strip) (g.R.Source.supply c.args.r.now) (g.R.Source.supply c.read_all.new.source) c.args.file_bytes
    c.args.w.now c.rewrite_bytes.new.w c.read_all.new.taker.items c.as_slice.result.now c.rewrite_bytes.result c.in_ok-read_all.ensures.reads c.as_slice.ensures.value
    c.in_ok-read_all.ensures.reads_at_most.sound c.in_ok-read_all.ensures.reads_at_most.limit c.rewrite_bytes.ensures.rewrites
