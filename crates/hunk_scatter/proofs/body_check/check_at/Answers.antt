use Rattle.std.proofs.Common.{rules, refl, arith}
use Rattle.hunk_scatter.proofs.BodyChecks.{offsets_pass, run_passes}
use Rattle.hunk_scatter.proofs.body_check.check_at.Goals as goal

pub returns-then-run-gt0 : goal.returns-then-run-gt0
returns-then-run-gt0 c =
    run_passes _ _ _ _ c.requires refl (λ k. omega (arith, c.type_inv.piece k)) c.min-count.result
    (omega (arith, c.min-count.ensures, c.requires.whole_long, c.if-run-gt0.true)) (omega (arith, c.min-count.ensures)) (omega (arith, c.min-count.ensures))
    (omega (arith, c.min-count.ensures, c.run-run.ensures.value)) _ (search rules)

pub returns-in-Some : goal.returns-in-Some
returns-in-Some c =
    offsets_pass _ _ _ _ c.requires refl (λ k. omega (arith, c.type_inv.piece k)) c.in-Some.count
    (omega (arith, c.in-Some.ensures.positive)) c.in-Some.ensures.inside _ c.in-Some.ensures.offsets
