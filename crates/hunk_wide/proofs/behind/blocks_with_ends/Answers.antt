use Rattle.std.proofs.Common.{ℕ, ◌+◌, false, take, sym, subst, ◌∙◌, arith}
use Rattle.hunk_wide.specs.Parts.{WithEnds, load_at, word_at}
use Rattle.hunk_wide.proofs.{ManyEnds.{block_ends, one_byte}, Written.part_length}
use Rattle.hunk_wide.proofs.behind.blocks_with_ends.Goals as goal

pub blocks-2-preserved : goal.blocks-2-preserved
blocks-2-preserved c =
    let block = c.in-Some.ensures.some in
    record {
      inside = omega (arith, block.whole, part_length c.blocks-2.at c.args.bytes.now);
      with_ends =
          subst (λ (k : ℕ). WithEnds (load_at (word_at c.args.hunk false)) (take (c.blocks-2.at + c.in-Some.spelled.block.size) c.args.bytes.now) (c.blocks-2.ends + k) (load_at (word_at c.pass_spelled.new.hunk c.in-Some.spelled.block.is_end)))
          (sym (c.from-ends.ensures ∙ one_byte c.in-Some.spelled.is_behind))
          (block_ends _ _ _ c.blocks-2.is_first _ _ c.args.bytes.now c.blocks-2.at _ c.blocks-2.ends c.blocks-2.invariant.with_ends block);
    }
