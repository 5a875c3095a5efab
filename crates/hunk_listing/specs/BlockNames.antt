-- The names of blocks, and the flags of a block word.
use Rattle.std.specs.Prelude.{ℕ, Bool, List, [], ◌++◌, codes, unwrap_or, if◌then◌else◌}
use Rattle.hunk_words.specs.declared.block_word.Kind.{Kind}
use Rattle.hunk_words.specs.Bits.{is_advisory, is_chip, is_fast}
use Rattle.hunk_words.specs.KindNames.{name_of_kind}

-- the name of a kind of block, as `dos/doshunks.h` has it; a block without a name there is advisory
abbrev pub kind_name : Kind → List ℕ
kind_name kind = unwrap_or (name_of_kind kind) (codes "ADVISORY")

abbrev pub where_set : Bool → List ℕ → List ℕ
where_set flag text = if flag then text else []

unfoldable pub memory_flags : ℕ → List ℕ
memory_flags word = where_set (is_chip word) (codes " chip") ++ where_set (is_fast word) (codes " fast")

unfoldable pub block_flags : ℕ → List ℕ
block_flags word = where_set (is_advisory word) (codes " advisory") ++ memory_flags word
