use Rattle.std.proofs.Common.{ℕ, ◌+◌, ◌%◌, arith, refl, subst, sym, ◌∙◌}
use Rattle.hunk_words.specs.Longs.{longs}
use Rattle.hunk_words.proofs.LongLaws.{length-longs}
use Rattle.hunk_files.specs.Passing.{AreSymbols, no_symbol, one_symbol}
use Rattle.hunk_files.proofs.load.passing.after_symbols.Goals as goal

pub symbols-init : goal.symbols-init
symbols-init c = no_symbol

pub symbols-preserved : goal.symbols-preserved
symbols-preserved c =
    let ws = longs c.args.bytes.now in
    let at = c.symbols.at in
    let is = c.word_at-word.ensures in
    subst (λ (w : ℕ). AreSymbols ws c.args.from (at + (w % 16777216 + 2))) (sym is)
    (one_symbol at c.symbols.invariant (omega (arith, c.if-word-eq0.false, is)) (omega (arith, c.if-longs-whole.false, c.symbols-test.true, is, length-longs c.args.bytes.now)))

pub returns-then-word-eq0-2 : goal.returns-then-word-eq0-2
returns-then-word-eq0-2 c = record {
  end = c.symbols.at;
  items = c.symbols.invariant;
  zero_is = sym c.word_at-word.ensures ∙ c.if-word-eq0-2.true;
  ends = refl;
  whole = omega (arith, c.symbols-test.true, length-longs c.args.bytes.now);
}
