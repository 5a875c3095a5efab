-- Load files, each hunk at its own place of one memory.
use Rattle.std.specs.Prelude.{◌≡◌, ℕ, ◌+◌, ◌-◌, ◌*◌, ◌^◌, ◌<◌, List, ◌++◌, length, take, drop, get_or, slice_get, nat_le, ◌&&◌, if◌then◌else◌, Bool, Option, Some, None, ◌⊎◌}
use Rattle.hunk_words.specs.Longs.{bytes_of}
use Rattle.hunk_words.specs.Bits.{size_longs}
use Rattle.hunk_words.specs.declared.fault.Fault.{Fault}
use Rattle.hunk_words.specs.declared.reason.Reason.TheVariants as reasons
use Rattle.hunk_files.specs.Fault.{BeginsWithLoadFile, HasFault}
use Rattle.hunk_files.specs.Image.{declared_bytes, image}
use Rattle.hunk_files.specs.LoadFile.{TableEntry, HunkValue, LoadFileValue, IsLoadFile, declared_longs}
use Rattle.hunk_files.specs.LoadText.{table, text}
use Rattle.hunk_scatter.specs.HeaderBytes.{BeginsWithHeader, header_bytes}
use Rattle.hunk_scatter.specs.Placing.{Placing, AreBases, HasBases, IsFirstUnplaced}
use Rattle.hunk_c.specs.declared.answer.Answer.{Answer}
use Rattle.hunk_c.specs.Answers.{refused, done}

-- ---- a memory of `room` bytes, the first of which has the address `start`

-- The bytes of a hunk of this size lie in it from this base on, and below the address 2 ^ 32.
abbrev pub lies_in : ℕ → ℕ → ℕ → ℕ → Bool
lies_in start room size base = nat_le start base && nat_le (base + size) (start + room) && nat_le (base + size) (2 ^ 32)

-- a base, if there is one, and the hunk lies there
abbrev pub base_in : ℕ → ℕ → ℕ → Option ℕ → Option ℕ
base_in start room size None = None
base_in start room size (Some base) = if lies_in start room size base then Some base else None

-- each hunk at the base of its number, where it lies in the memory there
abbrev pub placed_in : ℕ → ℕ → List ℕ → Placing
placed_in start room bases = λ hunk row before. base_in start room (4 * size_longs row.word) (slice_get bases hunk)

-- ---- the bytes of hunks in it

-- The hunk of this number has this byte of the memory, where the hunks lie at these bases.
pub record HasByte (start : ℕ) (bases : List ℕ) (hunks : LoadFileValue) (i byte : ℕ) : Type 0 where
  pub hunk : HunkValue
  pub is : slice_get hunks i ≡ Some hunk
  pub offset : ℕ
  pub inside : offset < 4 * declared_longs hunk
  pub lies : start + byte ≡ get_or bases i 0 + offset

-- No other hunk has it.
abbrev pub IsOwn : ℕ → List ℕ → LoadFileValue → ℕ → ℕ → Type 0
IsOwn start bases hunks i byte = (j : ℕ) → HasByte start bases hunks j byte → j ≡ i

-- Each byte that one hunk alone has is that of its image.
abbrev pub HasOwnBytes : ℕ → List ℕ → LoadFileValue → List ℕ → Type 0
HasOwnBytes start bases hunks memory =
    (i byte : ℕ) (h : HasByte start bases hunks i byte) → IsOwn start bases hunks i byte → get_or memory byte 0 ≡ get_or (image bases h.hunk) h.offset 0

-- The hunk of this number shares no byte with another.
abbrev pub LiesApart : ℕ → List ℕ → LoadFileValue → ℕ → Type 0
LiesApart start bases hunks i = (byte : ℕ) → HasByte start bases hunks i byte → IsOwn start bases hunks i byte

-- Each hunk that shares no byte with another is its image.
abbrev pub HasImages : ℕ → List ℕ → LoadFileValue → List ℕ → Type 0
HasImages start bases hunks memory =
    (i : ℕ) (h : HunkValue) → slice_get hunks i ≡ Some h → LiesApart start bases hunks i
    → take (4 * declared_longs h) (drop (get_or bases i 0 - start) memory) ≡ image bases h

-- Each byte that no hunk has is as it was.
abbrev pub KeepsOthers : ℕ → List ℕ → LoadFileValue → List ℕ → List ℕ → Type 0
KeepsOthers start bases hunks old new = (byte : ℕ) → ((i : ℕ) → HasByte start bases hunks i byte → ⊥) → get_or new byte 0 ≡ get_or old byte 0

-- The memory has the hunks, and is else as it was.
pub record HasHunks (start : ℕ) (bases : List ℕ) (hunks : LoadFileValue) (old new : List ℕ) : Type 0 where
  pub size : length new ≡ length old
  pub images : HasImages start bases hunks new
  pub bytes : HasOwnBytes start bases hunks new
  pub outside : KeepsOthers start bases hunks old new

-- ---- loads

-- The bytes begin with a load file, each hunk of which lies in the memory at its base. The memory has the hunks there.
pub record IsLoadedAt (base : Placing) (start : ℕ) (bytes old new : List ℕ) (answer : Answer) : Type 0 where
  pub value : LoadFileValue
  pub is_load_file : IsLoadFile value
  pub rest : List ℕ
  pub split : bytes ≡ bytes_of (text value) ++ rest
  pub bases : List ℕ
  pub are_bases : AreBases base (table value) bases
  pub memory : HasHunks start bases value old new
  pub answer_is : answer ≡ done (length value) (length (bytes_of (text value))) (declared_bytes (table value))

-- Whichever header the bytes begin with, each hunk has a base.
abbrev pub PlacesHeader : Placing → List ℕ → Type 0
PlacesHeader base bytes = (t : List TableEntry) → BeginsWithHeader bytes t → HasBases base t

-- Why a file is not loaded.
pub data IsNotLoadedAt (base : Placing) (bytes : List ℕ) (answer : Answer) : Type 0 where
  HasNoFileAt : (f : Fault) → HasFault bytes f.place f.reason → PlacesHeader base bytes
      → answer ≡ refused f → IsNotLoadedAt base bytes answer
  HasNoBaseAt : (t : List TableEntry) (hunk : ℕ) → BeginsWithHeader bytes t → IsFirstUnplaced base t hunk
      → answer ≡ refused (record { place = length (header_bytes t); reason = reasons.NoBase hunk }) → IsNotLoadedAt base bytes answer

-- What a load comes to, where the memory's first byte has the address `start`.
abbrev pub LoadsAt : Placing → ℕ → List ℕ → List ℕ → List ℕ → Answer → Type 0
LoadsAt base start bytes old new answer = IsLoadedAt base start bytes old new answer ⊎ (IsNotLoadedAt base bytes answer × (new ≡ old))

-- Where the bytes begin with a load file, and each of its hunks has a base, it is loaded.
abbrev pub LoadsWhatIsPlaced : Placing → List ℕ → Answer → Type 0
LoadsWhatIsPlaced base bytes answer = (file : BeginsWithLoadFile bytes) → HasBases base (table file.value) → answer.number ≡ 0
