-- What the code knows of a hunk before it lists its warnings.
use Rattle.std.specs.Prelude.{ℕ, ◌*◌}
use Rattle.hunk_words.specs.Bits.{size_longs}
use Rattle.hunk_files.specs.Image.{filled}
use Rattle.hunk_lint.specs.Facts.{HunkFacts}
use Rattle.hunk_lint.specs.declared.known.KnownHunk.{KnownHunk}

-- the declared bytes of the hunk
abbrev pub size_of : KnownHunk → ℕ
size_of k = 4 * size_longs k.size.word

-- what that says of its warnings; the offsets are in rising order
abbrev pub seen : KnownHunk → HunkFacts
seen k = record {
  number = k.number;
  word = k.size.word;
  sizes = k.sizes.now;
  content = filled (size_of k) k.content.now;
  offsets = k.rising.now;
  is_bss = k.is_bss;
}
