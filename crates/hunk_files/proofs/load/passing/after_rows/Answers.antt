use Rattle.std.proofs.Common.{ℕ, suc, ◌+◌, add-one, ap, arith, subst, sym, ◌∙◌}
use Rattle.hunk_words.specs.{Bits.entry_longs, Longs.longs}
use Rattle.hunk_words.proofs.LongLaws.{length-longs}
use Rattle.hunk_files.specs.Passing.{AreRows, no_row, one_row}
use Rattle.hunk_files.proofs.load.passing.after_rows.Goals as goal

pub rows-init : goal.rows-init
rows-init c = record { rows = no_row; few = omega arith }

pub rows-preserved : goal.rows-preserved
rows-preserved c =
    let ws = longs c.args.bytes.now in
    let at = c.rows.at in
    let is = c.entry_longs-at.ensures.value ∙ ap entry_longs c.word_at.ensures in
    let more = one_row c.rows.count at c.rows.invariant.rows (omega (arith, c.if-at-last.true, c.saturating_sub-last.ensures, sym is, c.entry_longs-at.ensures.bound, length-longs c.args.bytes.now)) in
    record {
      rows = subst (λ (n : ℕ). AreRows ws c.args.from n (at + c.entry_longs-at.result)) (sym (add-one c.rows.count))
          (subst (λ (n : ℕ). AreRows ws c.args.from (suc c.rows.count) (at + n)) (sym is) more);
      few = omega (arith, c.rows-test.true);
    }
