use Rattle.std.proofs.Common.{◌∙◌, Err, ap, sym}
use Rattle.hunk_run.proofs.Plainly.{told_of, writes_plain}
use Rattle.hunk_run.proofs.rewriting_plain.rewrite_plain.Goals as goal

pub returns-in-Ok-rewrite_bytes : goal.returns-in-Ok-rewrite_bytes
returns-in-Ok-rewrite_bytes g c =
    writes_plain g.W.Sink.outlet c.args.strip c.args.input.now 67108864 c.args.writer.now c.rewrite_bytes.new.w c.as_slice.result.now c.rewrite_bytes.result _
    (c.as_slice.ensures ∙ c.in-Ok.ensures.plain) (sym (ap (told_of c.args.input.now) c.in-Ok-rewrite_bytes.is)) c.rewrite_bytes.ensures.rewrites c.rewrite_bytes.ensures.written

pub returns : goal.returns
returns g c =
    writes_plain g.W.Sink.outlet c.args.strip c.args.input.now 67108864 c.args.writer.now c.rewrite_bytes.new.w c.as_slice.result.now c.rewrite_bytes.result _
    (c.as_slice.ensures ∙ c.in-Ok.ensures.plain)
    (ap Err c.in_input-in-Err-rewrite_bytes.ensures ∙ sym (ap (told_of c.args.input.now) c.in-Err-rewrite_bytes.is)) c.rewrite_bytes.ensures.rewrites c.rewrite_bytes.ensures.written
