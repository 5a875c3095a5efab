use Rattle.std.proofs.Common.{rules, ℕ, ◌*◌, ap, refl, arith}
use Rattle.hunk_words.specs.Bits.{size_longs}
use Rattle.hunk_c.proofs.TableSizes.{no_table, summed_all, summed_more}
use Rattle.hunk_c.proofs.places.table_sizes.Goals as goal

pub returns-then-not-is_entry : goal.returns-then-not-is_entry
returns-then-not-is_entry c =
    no_table c.args.rows.now c.rows.row-index _ _ (omega (arith, c.rows-test.true)) refl
    (λ e. let kept = c.is_entry.ensures.1 e in let not = c.if-not-is_entry.true in absurd cc)

pub rows-preserved : goal.rows-preserved
rows-preserved c =
    summed_more c.args.rows.now c.rows.row-index c.rows.header c.rows.bytes _ _ _ _ (omega (arith, c.rows-test.true)) refl
    (c.is_entry.ensures.0 c.if-not-is_entry.false) (ap (λ (n : ℕ). 4 * n) c.entry_longs.ensures.value)
    (omega (arith, c.bytes-bytes.ensures, ap (λ (w : ℕ). 4 * size_longs w) c.size.ensures.word)) c.rows.invariant

pub returns : goal.returns
returns c =
    summed_all c.args.rows.now c.rows.row-index c.rows.header c.rows.bytes (omega (arith, c.rows-test.false)) (search rules)
    (omega (arith, c.if-rows.false)) c.rows.invariant
