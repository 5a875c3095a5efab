use Rattle.std.proofs.Common.{◌≡◌, ℕ, ◌+◌, ◌-◌, ◌*◌, ◌≤◌, List, length, take, drop, refl, sym, subst, ◌∙◌, arith}
use Rattle.hunk_grammar.specs.declared.phase.Phase.TheVariants as phases
use Rattle.hunk_wide.specs.Parts.{AsIs, Frame, front_word, in_block}
use Rattle.hunk_wide.proofs.AsIs.{part_as_is}
use Rattle.hunk_wide.proofs.Bodies.{group_as_is, groups_end}
use Rattle.hunk_wide.proofs.Written.{part_length}
use Rattle.hunk_wide.proofs.parts.groups_size.Goals as goal

pub returns-then-count-eq0 : goal.returns-then-count-eq0
returns-then-count-eq0 c =
    let at : ℕ = c.groups.at in
    let rest : List ℕ = take (length c.args.bytes.now - at) (drop at c.args.bytes.now) in
    record {
      whole = omega arith;
      begins = refl;
      as_is = λ f. part_as_is _ _ _ c.args.bytes.now at 4 (c.groups.invariant.as_is f) (groups_end f rest (omega (arith, part_length at c.args.bytes.now)) (sym c.front_word-count.ensures ∙ c.if-count-eq0.true));
    }

pub groups-preserved : goal.groups-preserved
groups-preserved c =
    let at : ℕ = c.groups.at in
    let rest : List ℕ = take (length c.args.bytes.now - at) (drop at c.args.bytes.now) in
    record {
      inside = omega arith;
      as_is = λ f. part_as_is _ _ _ c.args.bytes.now at _ (c.groups.invariant.as_is f) (one f rest c.front_word-count.result c.front_word-count.ensures c.if-count-eq0.false (omega (arith, part_length at c.args.bytes.now)));
    }
  where
    one : (f : Frame) (rest : List ℕ) (w : ℕ) → w ≡ front_word rest → (w ≡ 0 → ⊥) → 8 + 4 * (w) ≤ length rest
        → AsIs (in_block f phases.GroupCount) (take (8 + 4 * (w)) rest) (in_block f phases.GroupCount)
    one f rest w e some whole =
        subst (λ (w : ℕ). AsIs (in_block f phases.GroupCount) (take (8 + 4 * (w)) rest) (in_block f phases.GroupCount)) (sym e)
        (group_as_is f rest (λ none. some (e ∙ none)) (subst (λ (w : ℕ). 8 + 4 * (w) ≤ length rest) e whole))
