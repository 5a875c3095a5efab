use Rattle.std.proofs.Common.{◌≡◌, ℕ, take, subst, arith}
use Rattle.hunk_grammar.specs.declared.position.Position.TheVariants as positions
use Rattle.hunk_wide.specs.Parts.{AsIs, load_at}
use Rattle.hunk_wide.proofs.AsIs.{part_as_is}
use Rattle.hunk_wide.proofs.Headers.{last_row_as_is}
use Rattle.hunk_wide.proofs.parts.table_at.Goals as goal

pub returns-clause-as_is : goal.returns-clause-as_is
returns-clause-as_is c =
    let size = c.rows_at-size.result.0 in
    let none : c.rows_at-size.result.1 ≡ 0 = omega (arith, c.if-left-gt0.false) in
    part_as_is _ _ _ c.args.bytes.now size 4
    (subst (λ (left : ℕ). AsIs (load_at (positions.SizeWord c.args.hunks c.args.owed)) (take size c.args.bytes.now) (load_at (positions.SizeWord c.args.hunks left))) none c.rows_at-size.ensures.as_is)
    (last_row_as_is c.args.hunks _ (omega (arith, c.if-hunks-eq0.false)) (c.is_row.ensures c.if-not-is_row.false))
