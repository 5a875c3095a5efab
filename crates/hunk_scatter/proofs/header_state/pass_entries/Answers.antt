use Rattle.std.proofs.Common.{◌∙◌, get_or, sym, ap, arith}
use Rattle.std.proofs.lemmas.List.{take_rest}
use Rattle.hunk_words.specs.Longs.{longs}
use Rattle.hunk_scatter.proofs.HeaderEntries.{none_passed, one_passed}
use Rattle.hunk_scatter.proofs.header_state.pass_entries.Goals as goal

pub entries-init : goal.entries-init
entries-init c = none_passed _ _ _ _ _ _ c.in-SizeWord.is c.requires.inside c.requires.within

pub entries-preserved : goal.entries-preserved
entries-preserved c =
    one_passed _ _ _ _ _ _ _ _ c.entries.invariant (omega (arith, c.entries-test.true)) _ _ (c.word_at-word.ensures ∙ ap (λ xs. get_or (longs xs) 0 0) (take_rest c.args.bytes.now c.entries.at)) c.bytes-size.ensures
    (sym c.has_extra.ensures ∙ c.if-has_extra.false) (omega (arith, c.if-bytes-at-ge4.true, c.entries.invariant.inside)) (omega (arith, c.if-size-budget.false, c.entries.invariant.within))
