-- The loaders and what they make, as their callers see them.
use Rattle.std.specs.Prelude.{◌≡◌, ℕ, ◌-◌, ◌*◌, ◌^◌, min, List, [], ◌∷◌, ◌++◌, ◌≤◌, length, map, take, drop, Option, MatchOption, ◌⊎◌}
use Rattle.std.specs.Borrow.{Bor}
use Rattle.std.specs.List.{flat_map}
use Rattle.hunk_words.specs.Bits.{size_longs}
use Rattle.hunk_words.specs.Longs.{bytes_of}
use Rattle.hunk_words.specs.declared.fault.Fault.{Fault}
use Rattle.hunk_words.specs.declared.reason.Reason.{Reason}
use Rattle.hunk_grammar.specs.declared.file_kind.Sniff.TheVariants as sniffs
use Rattle.hunk_files.specs.FileParts.{IsPartAt}
use Rattle.hunk_files.specs.LoadFile.{TableEntry, LoadFileValue, IsLoadFile}
use Rattle.hunk_files.specs.LoadText.{table, text}
use Rattle.hunk_files.specs.Fault.{HasRefusal}
use Rattle.hunk_files.specs.Image.{image}
use Rattle.hunk_files.specs.declared.part.Part.TheVariants as parts
use Rattle.hunk_files.specs.declared.row.Row.{Row}
use Rattle.hunk_scatter.specs.Rows.{entries_of, bases_of}

-- The loader of a header: the bytes that it has consumed, its budget, and its refusal.
pub record HeaderLoaderValue : Type 0 where
  pub fed : List ℕ
  pub budget : ℕ
  pub refused : Option Fault

-- A table whose hunks are not placed, and the budget that it keeps to.
pub record DeclaredValue : Type 0 where
  pub table : List TableEntry
  pub budget : ℕ

-- The loader of a body: the bytes that were consumed, header and body joined, the rows with their bases, the refusal, and
-- the number of the hunk that is read.
pub record BodyLoaderValue : Type 0 where
  pub fed : List ℕ
  pub rows : List Row
  pub refused : Option Fault
  pub hunk : ℕ

-- An image: the rows with their bases, and the segments.
pub record ImageValue : Type 0 where
  pub rows : List Row
  pub segments : List (List ℕ)

-- This many bytes of the piece were taken: they are fed after those that were fed before.
abbrev pub FeedsFront : List ℕ → List ℕ → List ℕ → ℕ → Type 0
FeedsFront before piece after n = (n ≤ length piece) × (after ≡ before ++ take n piece)

-- ---- files

-- The bytes are a load file with the table of these rows.
pub record IsFileWithRows (rows : List Row) (bytes : List ℕ) (v : LoadFileValue) : Type 0 where
  pub is_load_file : IsLoadFile v
  pub bytes_are : bytes_of (text v) ≡ bytes
  pub table_is : table v ≡ entries_of rows

abbrev pub IsWholeFile : List Row → List ℕ → Type 0
IsWholeFile rows bytes = (v : LoadFileValue) × IsFileWithRows rows bytes v

-- A load file begins with the bytes, or they begin with one.
pub record MayGoOnInFile (bytes : List ℕ) : Type 0 where
  pub value : LoadFileValue
  pub is_load_file : IsLoadFile value
  pub more : List ℕ
  pub fits : (bytes_of (text value) ≡ bytes ++ more) ⊎ (bytes ≡ bytes_of (text value) ++ more)

-- No longword of the bytes is refused.
abbrev pub HasNoRefusal : List ℕ → Type 0
HasNoRefusal bytes = (at : ℕ) (reason : Reason) → HasRefusal bytes at reason → ⊥

-- a place as a loader of a body tells it: 2^64 - 4 where it is more, as in no run
abbrev pub told_place : ℕ → ℕ
told_place at = min at (2 ^ 64 - 4)

-- The fault is the refusal of a longword of the bytes.
abbrev pub IsBodyRefusal : List ℕ → Fault → Type 0
IsBodyRefusal bytes f = (at : ℕ) × HasRefusal bytes at f.reason × (f.place ≡ told_place at)

-- The fault is the refusal of a longword of this hunk.
pub record IsHunkRefusal (bytes : List ℕ) (hunk : ℕ) (f : Fault) : Type 0 where
  pub refusal : IsBodyRefusal bytes f
  pub of_hunk : IsPartAt sniffs.Load bytes refusal.0 (parts.Hunk hunk)

-- ---- images

-- the store cut into segments of these sizes
abbrev pub segments_in : List ℕ → List ℕ → List (List ℕ)
segments_in [] store = []
segments_in (size ∷ sizes) store = take (4 * size_longs size) store ∷ segments_in sizes (drop (4 * size_longs size) store)

-- the segments, one right after the other
abbrev pub joined : List (List ℕ) → List ℕ
joined segments = flat_map (λ segment. segment) segments

-- The bytes are a load file with these rows, and the segments are the images of its hunks at the rows' bases.
pub record IsImageOf (rows : List Row) (bytes : List ℕ) (segments : List (List ℕ)) : Type 0 where
  pub value : LoadFileValue
  pub file : IsFileWithRows rows bytes value
  pub images_are : segments ≡ map (image (bases_of rows)) value

-- The rows and segments before a step from the front, the first of them, and those after it. After the last there is none.
abbrev pub GivesSegment : ImageValue → Option (Row × Bor (List ℕ)) → ImageValue → Type 0
GivesSegment before first after =
    MatchOption first ((before.rows ≡ []) × (before.segments ≡ []) × (after ≡ before))
    (λ x. (before.rows ≡ x.0 ∷ after.rows) × (before.segments ≡ x.1.now ∷ after.segments))
