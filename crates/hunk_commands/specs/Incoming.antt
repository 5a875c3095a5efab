-- What is kept of an input that is judged as it comes.
use Rattle.std.specs.Prelude.{◌≡◌, ℕ, ◌<◌, ◌≤◌, List, ◌++◌, length, ◌⊎◌}
use Rattle.hunk_words.specs.Longs.{longs}
use Rattle.hunk_grammar.specs.FileKind.{sniffed}
use Rattle.hunk_grammar.specs.declared.file_kind.Sniff.TheVariants.{Object}
use Rattle.hunk_scatter.specs.HeaderFaults.{CompletesRowIn}
use Rattle.hunk_commands.specs.declared.incoming.Kept.{Kept}
use Rattle.hunk_commands.specs.declared.incoming.Kept.TheVariants as kept

-- the bytes of which it is kept
abbrev pub kept_bytes : Kept → List ℕ
kept_bytes (kept.Front bytes) = bytes.items
kept_bytes (kept.Load check) = check
kept_bytes (kept.Object bytes) = bytes.items

-- A first longword stands there, and announces no object file.
abbrev pub AnnouncesLoad : List ℕ → Type 0
AnnouncesLoad bytes = (4 ≤ length bytes) × (sniffed (longs bytes) ≡ Object → ⊥)

-- The first longword is that of an object file.
abbrev pub AnnouncesObject : List ℕ → Type 0
AnnouncesObject bytes = (4 ≤ length bytes) × (sniffed (longs bytes) ≡ Object)

abbrev pub IsKept : Kept → Type 0
IsKept (kept.Front bytes) = length bytes.items < 4
IsKept (kept.Load check) = AnnouncesLoad check
IsKept (kept.Object bytes) = AnnouncesObject bytes.items

-- Memory is wanted for a piece after these bytes: they are an object file's, which is kept, or a row is completed in the piece.
abbrev pub WantsMemory : List ℕ → List ℕ → Type 0
WantsMemory before piece = AnnouncesObject (before ++ piece) ⊎ CompletesRowIn before piece

-- It is kept of these bytes.
abbrev pub Holds : Kept → List ℕ → Type 0
Holds k bytes = IsKept k × (kept_bytes k ≡ bytes)
