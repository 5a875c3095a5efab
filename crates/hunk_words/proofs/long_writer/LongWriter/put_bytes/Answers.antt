use Rattle.std.proofs.Common.{rules, arith}
use Rattle.std.proofs.lemmas.Grind.{common_steps}
use Rattle.hunk_words.proofs.PutLaws.{puts_more}
use Rattle.hunk_words.proofs.long_writer.LongWriter.put_bytes.Goals as goal

pub loop-rest-preserved : goal.loop-rest-preserved
loop-rest-preserved g c = (
  search rules,
  search rules,
  grind (arith, common_steps),
  puts_more _ _ _ _ _ _ _ _ _ c.loop-rest.invariant.3 c.in-Ok.ensures.inside (grind (arith, common_steps)) c.in-Ok.ensures.bytes,
)
