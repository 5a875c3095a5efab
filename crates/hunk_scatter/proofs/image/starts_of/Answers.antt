use Rattle.std.proofs.Common.{arith, rules, ◌+◌, ◌*◌}
use Rattle.std.proofs.lemmas.Grind.{common_steps}
use Rattle.hunk_scatter.proofs.DeclaredBytes.{next_rows}
use Rattle.hunk_scatter.proofs.image.starts_of.Goals as goal

pub starts-preserved : goal.starts-preserved
starts-preserved c =
    let (le, count, rest_is, bytes_is, starts_are) = c.starts.invariant in
    let n = next_rows c.args.rows.now c.starts.rest.now c.split_at.result.0.now c.split_at.result.1.now (2048 * c.starts.k) (2048 * (c.starts.k + 1)) c.min.result 2048 c.starts.bytes c.start_of-bytes.result
    rest_is c.min.ensures c.split_at.ensures.front c.split_at.ensures.back (omega arith) bytes_is c.start_of-bytes.ensures in (
      omega (arith, c.starts-test.true),
      search rules,
      n.0,
      n.1,
      λ j l. grind (arith, common_steps, starts_are j, bytes_is, count, l),
    )
