-- A block that may stand anywhere.
use Rattle.std.proofs.Common.{rules, [], refl, arith}
use Rattle.hunk_words.specs.Bits.{kind}
use Rattle.hunk_grammar.specs.{declared.mode.Mode.Mode, BlockParts.Part as parts}
use Rattle.hunk_blocks.specs.{Values.{BlockValue, End, IsBlock}, Modes.IsOfMode, Faults.{Expects, blocks}}
use Rattle.hunk_blocks.proofs.Admitted.{block}

-- END is a block of both modes
abbrev pub end_block : BlockValue
end_block = block 0x3F2 End

pub end_is : IsBlock end_block
unfolding kind
end_is = record { word = omega arith; bits = refl; body = refl }

end_of_mode : (mode : Mode) → IsOfMode mode end_block
end_of_mode mode = search rules

pub expects_word : (mode : Mode) → Expects (blocks mode) [] parts.BlockWord
expects_word mode = record { value = end_block; is = (end_is, end_of_mode mode); done = []; word = 0x3F2; more = []; labels = refl; begins = refl }
