use Rattle.std.proofs.Common.{◌≡◌, ℕ, ◌+◌, ◌-◌, ◌*◌, ◌≤◌, List, length, take, drop, refl, sym, subst, ◌∙◌, arith}
use Rattle.hunk_words.specs.Bits.{name_longs}
use Rattle.hunk_grammar.specs.declared.phase.Phase.TheVariants as phases
use Rattle.hunk_wide.specs.Parts.{AsIs, Frame, front_word, in_block}
use Rattle.hunk_wide.proofs.AsIs.{part_as_is}
use Rattle.hunk_wide.proofs.Bodies.{symbol_as_is, symbols_end}
use Rattle.hunk_wide.proofs.Written.{part_length}
use Rattle.hunk_wide.proofs.parts.symbols_size.Goals as goal

pub returns-then-word-eq0 : goal.returns-then-word-eq0
returns-then-word-eq0 c =
    let at : ℕ = c.symbols.at in
    let rest : List ℕ = take (length c.args.bytes.now - at) (drop at c.args.bytes.now) in
    record {
      whole = omega arith;
      begins = refl;
      as_is = λ f. part_as_is _ _ _ c.args.bytes.now at 4 (c.symbols.invariant.as_is f) (symbols_end f rest (omega (arith, part_length at c.args.bytes.now)) (sym c.front_word-word.ensures ∙ c.if-word-eq0.true));
    }

pub symbols-preserved : goal.symbols-preserved
symbols-preserved c =
    let at : ℕ = c.symbols.at in
    let rest : List ℕ = take (length c.args.bytes.now - at) (drop at c.args.bytes.now) in
    record {
      inside = omega arith;
      as_is = λ f. part_as_is _ _ _ c.args.bytes.now at _ (c.symbols.invariant.as_is f) (one f rest c.front_word-word.result c.front_word-word.ensures c.if-word-eq0.false (omega (arith, part_length at c.args.bytes.now)));
    }
  where
    one : (f : Frame) (rest : List ℕ) (w : ℕ) → w ≡ front_word rest → (w ≡ 0 → ⊥) → 8 + 4 * (name_longs w) ≤ length rest
        → AsIs (in_block f phases.EntryWord) (take (8 + 4 * (name_longs w)) rest) (in_block f phases.EntryWord)
    one f rest w e some whole =
        subst (λ (w : ℕ). AsIs (in_block f phases.EntryWord) (take (8 + 4 * (name_longs w)) rest) (in_block f phases.EntryWord)) (sym e)
        (symbol_as_is f rest (λ none. some (e ∙ none)) (subst (λ (w : ℕ). 8 + 4 * (name_longs w) ≤ length rest) e whole))
