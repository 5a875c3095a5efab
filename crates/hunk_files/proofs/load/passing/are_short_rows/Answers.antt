use Rattle.std.proofs.Common.{◌≡◌, ◌≤◌, ℕ, false, slice_index, subst, sym, ◌∙◌, inl, inr, arith}
use Rattle.std.proofs.lemmas.Bool.{cases_lt, not-true}
use Rattle.hunk_words.specs.{Bits.has_both_bits, Longs.longs}
use Rattle.hunk_words.proofs.LongLaws.{length-longs, word_of_bytes}
use Rattle.hunk_files.proofs.walk.ShortRows.{none_below, short_rows}
use Rattle.hunk_files.proofs.load.passing.are_short_rows.Goals as goal

pub rows-init : goal.rows-init
rows-init c = record { most = λ i from less. absurd (omega (arith, from, less)); bound = omega arith }

pub rows-preserved : goal.rows-preserved
rows-preserved c =
    let bytes = c.args.bytes.now in
    let here : c.from_be_bytes-long.result ≡ slice_index (longs bytes) c.rows.i = c.from_be_bytes-long.ensures ∙ word_of_bytes bytes c.rows.i (omega (arith, c.if-from-whole.false, c.if-count-whole.false, c.rows-test.true)) in
    record {
      most = λ i from less. elim (cases_lt i c.rows.i) [
        | inl before ↦ let old = c.rows.invariant.most i from before in grind (arith, c.max-largest.ensures)
        | inr last ↦
            subst (λ (n : ℕ). slice_index (longs bytes) n ≤ c.max-largest.result) (let same : c.rows.i ≡ i = omega (arith, less, last) in same)
            (grind (arith, here, c.max-largest.ensures))
      ];
      bound = omega (arith, c.max-largest.type_inv);
    }

pub returns-clause-rows : goal.returns-clause-rows
returns-clause-rows c short =
    let ws = longs c.args.bytes.now in
    let none : has_both_bits c.rows.largest ≡ false = sym c.has_extra.ensures ∙ not-true c.has_extra.result short in
    short_rows ws c.args.from c.args.count (omega (arith, c.if-from-whole.false, c.if-count-whole.false, length-longs c.args.bytes.now))
    (λ i from less. none_below (slice_index ws i) c.rows.largest (c.rows.invariant.most i from (omega (arith, less, c.rows-test.false))) c.rows.invariant.bound none)
