use Rattle.std.proofs.Common.{arith, ◌∙◌, ℕ, ◌<◌, ◌≤◌, ◌^◌}
use Rattle.hunk_words.specs.Longs.{longs}
use Rattle.hunk_words.proofs.LongLaws.{length-longs, word_of_bytes}
use Rattle.hunk_scatter.specs.HeaderLoaderFields.{no_entry}
use Rattle.hunk_scatter.proofs.HeaderEntries.{one_short}
use Rattle.hunk_scatter.proofs.header_state.short_total.Goals as goal

pub entries-init : goal.entries-init
entries-init c = record { short = λ none. no_entry; bound = omega arith }

pub entries-preserved : goal.entries-preserved
entries-preserved c =
    let e = c.entries in
    let bytes = c.args.bytes.now in
    let most : ℕ = c.max-largest.result in
    let word : ℕ = c.from_be_bytes-word.result in
    let here = c.from_be_bytes-word.ensures ∙ word_of_bytes bytes e.i (omega (arith, c.if-end-bytes.false, c.entries-test.true)) in
    let bound : most < 2 ^ 32 = omega (arith, c.max-largest.type_inv) in
    let less : e.largest ≤ most = grind (arith, c.max-largest.ensures) in
    let less_word : word ≤ most = grind (arith, c.max-largest.ensures) in
    record {
      short = one_short (longs bytes) e.i e.total e.largest word e.invariant.short most bound less less_word here e.auto.i (omega (arith, c.if-end-bytes.false, c.entries-test.true, length-longs bytes)) c.bytes-total.result c.bytes-total.ensures;
      bound = omega (arith, e.invariant.bound, c.bytes-total.ensures, e.auto.i);
    }
