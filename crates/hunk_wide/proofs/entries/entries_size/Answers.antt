use Rattle.std.proofs.Common.{ℕ, ◌-◌, List, length, take, drop, refl, sym, ◌∙◌, arith}
use Rattle.hunk_wide.proofs.AsIs.{part_as_is}
use Rattle.hunk_wide.proofs.Bodies.{entries_end}
use Rattle.hunk_wide.proofs.Written.{part_length}
use Rattle.hunk_wide.proofs.entries.entries_size.Goals as goal

pub returns-then-word-eq0 : goal.returns-then-word-eq0
returns-then-word-eq0 c =
    let at : ℕ = c.entries.at in
    let rest : List ℕ = take (length c.args.bytes.now - at) (drop at c.args.bytes.now) in
    record {
      whole = omega arith;
      begins = refl;
      as_is = λ f. part_as_is _ _ _ c.args.bytes.now at 4 (c.entries.invariant.as_is f) (entries_end f rest (omega (arith, part_length at c.args.bytes.now)) (sym c.front_word-word.ensures ∙ c.if-word-eq0.true));
    }

pub entries-preserved : goal.entries-preserved
entries-preserved c =
    let entry = c.in_ok-at.ensures in
    record {
      inside = omega (arith, entry.whole, part_length c.entries.at c.args.bytes.now);
      as_is = λ f. part_as_is _ _ _ c.args.bytes.now c.entries.at c.in_ok-at.field-0 (c.entries.invariant.as_is f) (entry.as_is f);
    }
