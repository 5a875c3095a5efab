-- Wide spellings of a load file: blocks of short relocations, and END left out.
use Rattle.std.specs.Prelude.{◌≡◌, ℕ, ◌^◌, ◌<◌, Bool, true, false, not, List, [], ◌∷◌, ◌++◌, ◌⊎◌, IsTrue, if◌then◌else◌}
use Rattle.std.specs.Int.{to_be_bytes, w16}
use Rattle.std.specs.List.{flat_map, AllByRecursion}
use Rattle.hunk_words.specs.Bits.{end_word, kind}
use Rattle.hunk_words.specs.Longs.{IsLong, bytes_of}
use Rattle.hunk_words.specs.declared.block_word.Kind.{Kind}
use Rattle.hunk_words.specs.declared.block_word.Kind.TheVariants as kinds
use Rattle.hunk_blocks.specs.Faults.{words}
use Rattle.hunk_blocks.specs.Parts.{block_text, group_text, list_text}
use Rattle.hunk_blocks.specs.Values.{BlockValue, End, Reloc, RelocGroup}
use Rattle.hunk_files.specs.LoadFile.{HunkValue, LoadFileValue, standing}
use Rattle.hunk_files.specs.LoadText.{header_labelled, table}
use Rattle.hunk_grammar.specs.Standings.{Content}
use Rattle.hunk_wide.specs.Longwords.{long_word}

-- ---- a block of short relocations

-- the bytes of numbers of 16 bits, each high byte first
abbrev pub halves_of : List ℕ → List ℕ
halves_of numbers = flat_map (to_be_bytes w16) numbers

abbrev pub IsHalf : ℕ → Type 0
IsHalf n = n < 2 ^ 16

-- After so many more numbers: whether their number is odd, where it was so before.
abbrev pub parity : Bool → List ℕ → Bool
parity odd [] = odd
parity odd (n ∷ numbers) = parity (not odd) numbers

-- with a 0 after them where their number is odd
abbrev pub filled : List ℕ → List ℕ
filled numbers = if parity false numbers then numbers ++ 0 ∷ [] else numbers

-- RELOC32SHORT, and the number that V37 took for it
abbrev pub is_short : Kind → Bool
is_short kinds.Reloc32Short = true
is_short kinds.Drel32 = true
is_short _ = false

-- The bytes are a RELOC32 block in short: a word of a short kind with the flags of the block's, and then the same numbers as
-- in the block, of which each has 16 bits, filled up to a longword.
pub record IsShort (b : BlockValue) (bytes : List ℕ) : Type 0 where
  pub word : ℕ
  pub fits : IsLong word
  pub short : IsTrue (is_short (kind word))
  pub long : b.word ≡ long_word word
  pub groups : List RelocGroup
  pub body : b.body ≡ Reloc groups
  pub halves : AllByRecursion IsHalf (list_text group_text groups)
  pub text : bytes ≡ bytes_of (word ∷ []) ++ halves_of (filled (list_text group_text groups))

abbrev pub SpellsBlock : BlockValue → List ℕ → Type 0
SpellsBlock b bytes = (bytes ≡ bytes_of (block_text b)) ⊎ IsShort b bytes

-- ---- END left out

abbrev pub end_block : BlockValue
end_block = record { word = end_word; body = End }

-- The bytes spell these blocks. The flag says whether the last, END, is left out.
abbrev pub SpellsBlocks : Bool → List BlockValue → List ℕ → Type 0
SpellsBlocks left_out [] bytes = bytes ≡ []
SpellsBlocks true (b ∷ []) bytes = (b ≡ end_block) × (bytes ≡ [])
SpellsBlocks left_out (b ∷ more) bytes =
    (front : List ℕ) × (back : List ℕ) × (bytes ≡ front ++ back) × SpellsBlock b front × SpellsBlocks left_out more back

abbrev pub BeginsWithContent : List BlockValue → Type 0
BeginsWithContent [] = ⊥
BeginsWithContent (b ∷ more) = standing b.body ≡ Content

-- END may be left out where the next hunk begins with its content, or at the end of the input.
abbrev pub MayLeaveOut : Bool → List HunkValue → Type 0
MayLeaveOut at_end [] = at_end ≡ true
MayLeaveOut at_end (h ∷ hs) = BeginsWithContent h.blocks

-- The bytes spell these hunks. The flag says whether the input ends after them.
abbrev pub SpellsHunks : Bool → List HunkValue → List ℕ → Type 0
SpellsHunks at_end [] bytes = bytes ≡ []
SpellsHunks at_end (h ∷ hs) bytes =
    (left_out : Bool) × (front : List ℕ) × (back : List ℕ) × (bytes ≡ front ++ back)
    × SpellsBlocks left_out h.blocks front × (left_out ≡ true → MayLeaveOut at_end hs) × SpellsHunks at_end hs back

-- The bytes are a wide spelling of the load file.
pub record IsWide (at_end : Bool) (v : LoadFileValue) (bytes : List ℕ) : Type 0 where
  pub hunks : List ℕ
  pub text : bytes ≡ bytes_of (words (header_labelled (table v))) ++ hunks
  pub spells : SpellsHunks at_end v hunks
