use Rattle.hunk_run.proofs.Plainly.{rewrites_same}
use Rattle.hunk_run.proofs.rewriting.rewrite_asked.Goals as goal

pub returns-else-way : goal.returns-else-way
returns-else-way g c =
    rewrites_same g.W.Sink.outlet c.args.way.strip c.args.way.wide _ _ 67108864 c.args.writer.now c.rewrite-answer.new.w c.rewrite-answer.result c.if-way.false
    c.rewrite-answer.ensures.rewrites c.rewrite-answer.ensures.written
