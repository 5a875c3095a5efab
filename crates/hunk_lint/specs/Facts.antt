-- What the warnings of a hunk depend on.
use Rattle.std.specs.Prelude.{ℕ, Bool, true, false, List, nat_lt}
use Rattle.std.specs.List.{count_by}
use Rattle.hunk_blocks.specs.Values.{BlockBody, Bss}
use Rattle.hunk_files.specs.Image.{content, offsets, relocations}
use Rattle.hunk_files.specs.LoadFile.{HunkValue}

-- Its number and size word, the declared bytes of all hunks, its bytes before any relocation, the offsets of all its
-- relocations, and whether its content block is BSS.
pub record HunkFacts : Type 0 where
  pub number : ℕ
  pub word : ℕ
  pub sizes : List ℕ
  pub content : List ℕ
  pub offsets : List ℕ
  pub is_bss : Bool

abbrev pub is_bss : BlockBody → Bool
is_bss (Bss size) = true
is_bss _ = false

abbrev pub facts_of : List ℕ → ℕ → HunkValue → HunkFacts
facts_of sizes number h = record {
  number = number;
  word = h.entry.word;
  sizes = sizes;
  content = content h;
  offsets = offsets (relocations h);
  is_bss = nat_lt 0 (count_by (λ b. is_bss b.body) h.blocks);
}
