use Rattle.std.proofs.Common.{rules, ◌≡◌, ℕ, subst, arith}
use Rattle.hunk_scatter.specs.Checking.{ChecksBytes}
use Rattle.hunk_scatter.proofs.BodyChecks.{word_run_passes}
use Rattle.hunk_scatter.proofs.body_check.check_word_and_run.Goals as goal

pub returns : goal.returns
returns c =
    let four : c.in-Ok.taken ≡ 4 = c.in-Ok.ensures.four in
    let mid = c.check_word.new.state in
    let n = c.min-count.result in
    let first = subst (λ (k : ℕ). ChecksBytes c.args.rows.now c.args.state.now c.args.piece.now mid k) four c.in-Ok.ensures.checks in
    rw (four)
    (word_run_passes _ _ _ _ c.requires.ready c.requires.goes_on (λ k. omega (arith, c.type_inv.piece k)) mid n first
    (omega (arith, c.if-count-eq0.false)) (omega (arith, four, c.min-count.ensures, c.if-count-eq0.false)) (omega (arith, c.min-count.ensures)) (omega (arith, c.min-count.ensures, c.run.ensures.value)) _ (search rules))
