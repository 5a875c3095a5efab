-- What of a file stands before its fault, and the whole file that it is made.
use Rattle.std.specs.Prelude.{◌≡◌, ℕ, zero, suc, ◌*◌, ◌<◌, ◌≤◌, Bool, true, false, List, [], ◌∷◌, ◌++◌, length, take, drop, Option, Some, None, ◌⊎◌}
use Rattle.hunk_words.specs.Bits.{bss_word, end_word}
use Rattle.hunk_words.specs.Longs.{longs}
use Rattle.hunk_grammar.specs.BlockParts.{Part as parts}
use Rattle.hunk_grammar.specs.Roles.{Place, InBlock}
use Rattle.hunk_grammar.specs.ObjectRoles.{WordAt}
use Rattle.hunk_grammar.specs.declared.object_position.WordPlace.{WordPlace}
use Rattle.hunk_grammar.specs.declared.object_position.WordPlace.TheVariants.{InHunk}
use Rattle.hunk_blocks.specs.Faults as faults
use Rattle.hunk_files.specs.Fault.{Expects}
use Rattle.hunk_files.specs.LoadFile.{LoadFileValue, IsLoadFile}
use Rattle.hunk_files.specs.LoadText.{text}
use Rattle.hunk_files.specs.ObjectFault.{IsInUnit, objects}
use Rattle.hunk_files.specs.ObjectFile.{ObjectFileValue, IsObjectFile, object_text}
use Rattle.hunk_files.specs.HunkFile.{file_bytes}
use Rattle.hunk_files.specs.declared.hunk_file.HunkFile.{HunkFile}
use Rattle.hunk_files.specs.declared.hunk_file.HunkFile.TheVariants as files
use Rattle.hunk_c.specs.declared.answer.Answer.{Answer}
use Rattle.hunk_c.specs.Answers.{no_room, done}
use Rattle.hunk_c.specs.Files.{hunks_in}

-- ---- where a front ends

-- A load text begins with these longwords, and then has a block word.
pub record InLoadText (ws : List ℕ) : Type 0 where
  pub place : Place
  pub expects : Expects ws (InBlock place parts.BlockWord)

-- An object text begins with these longwords, and then has the word of a block or of a further unit.
pub record InObjectText (ws : List ℕ) : Type 0 where
  pub place : WordPlace
  pub in_unit : IsInUnit place
  pub expects : faults.Expects objects ws (WordAt place)

abbrev pub EndsBetweenBlocks : List ℕ → Type 0
EndsBetweenBlocks ws = InLoadText ws ⊎ InObjectText ws

-- The first n longwords end so, and no more of them do.
pub record IsFrontWhere (Ends : List ℕ → Type 0) (ws : List ℕ) (n : ℕ) : Type 0 where
  pub inside : n ≤ length ws
  pub ends : Ends (take n ws)
  pub last : (m : ℕ) → n < m → m ≤ length ws → Ends (take m ws) → ⊥

abbrev pub HasNoFrontWhere : (List ℕ → Type 0) → List ℕ → Type 0
HasNoFrontWhere Ends ws = (n : ℕ) → n ≤ length ws → Ends (take n ws) → ⊥

abbrev pub IsFront : List ℕ → ℕ → Type 0
IsFront = IsFrontWhere EndsBetweenBlocks

abbrev pub HasNoFront : List ℕ → Type 0
HasNoFront = HasNoFrontWhere EndsBetweenBlocks

-- ---- what closes it

-- END, and before it an empty BSS block where the open hunk has no content; nothing where no hunk is open
abbrev pub hunk_end : Option Bool → List ℕ
hunk_end None = []
hunk_end (Some true) = end_word ∷ []
hunk_end (Some false) = bss_word ∷ 0 ∷ end_word ∷ []

-- so many hunks that have nothing else
abbrev pub empty_hunks : ℕ → List ℕ
empty_hunks zero = []
empty_hunks (suc n) = hunk_end (Some false) ++ empty_hunks n

-- the hunk that is open there, by whether it has its content
abbrev pub open_at : WordPlace → Option Bool
open_at (InHunk has_content) = Some has_content
open_at place = None

-- The file begins with the longwords, and then has just what closes it: the open hunk, and in a load file those that are left.
pub data IsClosed (ws : List ℕ) (file : HunkFile) : Type 0 where
  LoadIsClosed : (v : LoadFileValue) → IsLoadFile v → file ≡ files.Load v 0 → (i : InLoadText ws) → (left : ℕ) → left < length v
      → text v ≡ ws ++ (hunk_end (Some i.place.has_content) ++ empty_hunks left) → IsClosed ws file
  ObjectIsClosed : (o : ObjectFileValue) → IsObjectFile o → file ≡ files.Object o → (i : InObjectText ws)
      → object_text o ≡ ws ++ hunk_end (open_at i.place) → IsClosed ws file

-- ---- what a call comes to

-- The text begins with the file that closes the front, and what lies after it is as it was; or all is as it was, where there is no
-- room, or no front.
pub data Fronts (bytes old new : List ℕ) (answer : Answer) : Type 0 where
  IsMade : (n : ℕ) (file : HunkFile) → IsFront (longs bytes) n → IsClosed (take n (longs bytes)) file
      → length (file_bytes file) ≤ length old → new ≡ file_bytes file ++ drop (length (file_bytes file)) old
      → answer ≡ done (hunks_in file) (4 * n) (length (file_bytes file)) → Fronts bytes old new answer
  LacksRoom : (n : ℕ) (file : HunkFile) → IsFront (longs bytes) n → IsClosed (take n (longs bytes)) file
      → length old < length (file_bytes file) → new ≡ old
      → answer ≡ no_room (hunks_in file) (4 * n) (length (file_bytes file)) → Fronts bytes old new answer
  HasNone : HasNoFront (longs bytes) → new ≡ old → answer ≡ done 0 0 0 → Fronts bytes old new answer
