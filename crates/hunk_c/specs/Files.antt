-- Files of either kind, as programs in C see them.
use Rattle.std.specs.Prelude.{ℕ, List}
use Rattle.hunk_words.specs.Longs.{longs}
use Rattle.hunk_words.specs.declared.fault.Fault.{Fault}
use Rattle.hunk_grammar.specs.FileKind.{sniffed}
use Rattle.hunk_files.specs.HunkFile.{AreFile, IsRefusal}
pub use Rattle.hunk_parts.specs.Builds.{hunks_in}

-- No file is in front, and this is why.
abbrev pub AreNoFile : List ℕ → Fault → Type 0
AreNoFile bytes f = IsRefusal (sniffed (longs bytes)) bytes f × (AreFile bytes → ⊥)
