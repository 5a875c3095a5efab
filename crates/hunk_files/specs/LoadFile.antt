-- Load-file values.
use Rattle.std.specs.Prelude.{◌≡◌, ℕ, ◌+◌, ◌*◌, ◌<◌, ◌≤◌, Bool, true, false, List, [], ◌∷◌, length, map, ⊤, IsFalse}
use Rattle.std.specs.List.{AllByRecursion}
use Rattle.hunk_words.specs.Limits.{most_hunks}
use Rattle.hunk_words.specs.Longs.{IsLong}
use Rattle.hunk_words.specs.Bits.{size_longs, has_both_bits}
use Rattle.hunk_grammar.specs.declared.mode.Mode.TheVariants as modes
use Rattle.hunk_blocks.specs.Values.{RelocGroup, BlockBody, BlockValue, Code, Data, Bss, Reloc, Ext, End, IsBlock}
use Rattle.hunk_blocks.specs.Modes.{IsOfMode}
use Rattle.hunk_grammar.specs.Standings.{BlockStanding, Beside, Content, Relocating, Ending}

-- A size word of the table, and the memory attributes where both of its memory bits are set, else 0.
pub record TableEntry : Type 0 where
  pub word : ℕ
  pub extra : ℕ

pub record HunkValue : Type 0 where
  pub entry : TableEntry
  pub blocks : List BlockValue

abbrev pub LoadFileValue : Type 0
LoadFileValue = List HunkValue

abbrev pub declared_longs : HunkValue → ℕ
declared_longs h = size_longs h.entry.word

abbrev pub IsTableEntry : TableEntry → Type 0
IsTableEntry e = IsLong e.word × IsLong e.extra × (IsFalse (has_both_bits e.word) → e.extra ≡ 0)

-- where a block may stand in its hunk; all but content, relocations, EXT and END anywhere
abbrev pub standing : BlockBody → BlockStanding
standing (Code top words) = Content
standing (Data top words) = Content
standing (Bss size) = Content
standing (Reloc groups) = Relocating
standing (Ext entries) = Relocating
standing End = Ending
standing _ = Beside

-- One content block, relocations only after it, and END last. The flag says whether the content block came before.
abbrev pub AreInOrder : Bool → List BlockStanding → Type 0
AreInOrder has_content [] = ⊥
AreInOrder has_content (Beside ∷ rest) = AreInOrder has_content rest
AreInOrder false (Content ∷ rest) = AreInOrder true rest
AreInOrder true (Content ∷ rest) = ⊥
AreInOrder true (Relocating ∷ rest) = AreInOrder true rest
AreInOrder false (Relocating ∷ rest) = ⊥
AreInOrder true (Ending ∷ rest) = rest ≡ []
AreInOrder false (Ending ∷ rest) = ⊥

-- The long at the offset lies in the declared bytes.
abbrev pub IsInside : ℕ → ℕ → Type 0
IsInside longs offset = offset + 4 ≤ 4 * longs

abbrev pub FitsGroup : ℕ → ℕ → RelocGroup → Type 0
FitsGroup hunks longs g = (g.target < hunks) × AllByRecursion (IsInside longs) g.offsets

-- The body fits a hunk of this number of declared longs, in a file of this number of hunks.
abbrev pub FitsHunk : ℕ → ℕ → BlockBody → Type 0
FitsHunk hunks longs (Code top words) = length words ≤ longs
FitsHunk hunks longs (Data top words) = length words ≤ longs
FitsHunk hunks longs (Bss size) = size_longs size ≤ longs
FitsHunk hunks longs (Reloc groups) = AllByRecursion (FitsGroup hunks longs) groups
FitsHunk hunks longs body = ⊤

pub record IsHunkBlock (hunks longs : ℕ) (b : BlockValue) : Type 0 where
  pub block : IsBlock b
  pub mode : IsOfMode modes.Load b
  pub fits : FitsHunk hunks longs b.body

pub record IsHunk (hunks : ℕ) (h : HunkValue) : Type 0 where
  pub entry : IsTableEntry h.entry
  pub blocks : AllByRecursion (IsHunkBlock hunks (declared_longs h)) h.blocks
  pub order : AreInOrder false (map (λ b. standing b.body) h.blocks)

pub record IsLoadFile (v : LoadFileValue) : Type 0 where
  pub some : 0 < length v
  pub most : length v ≤ most_hunks
  pub each : AllByRecursion (IsHunk (length v)) v
