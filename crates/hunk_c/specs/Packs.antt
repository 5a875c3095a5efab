-- Hunks one right after the other, by a table that is read where it lies.
use Rattle.std.specs.Prelude.{◌≡◌, ℕ, ◌+◌, ◌*◌, ◌/◌, ◌%◌, ◌^◌, ◌<◌, ◌≤◌, List, [], ◌∷◌, ◌++◌, length, take, drop, get_or}
use Rattle.std.specs.List.{flat_map}
use Rattle.hunk_words.specs.Bits.{size_longs}
use Rattle.hunk_words.specs.Longs.{longs}
use Rattle.hunk_files.specs.Cuts.{table_cut}
use Rattle.hunk_files.specs.Image.{declared_bytes}
use Rattle.hunk_files.specs.LoadFile.{TableEntry}
use Rattle.hunk_files.specs.LoadText.{entry_labelled}
use Rattle.hunk_blocks.specs.Faults.{words}
use Rattle.hunk_scatter.specs.HeaderBytes.{BeginsWithHeader}
use Rattle.hunk_c.specs.declared.packed.Mark.{Mark}
use Rattle.hunk_c.specs.declared.packed.RowPlace.{RowPlace}

-- The row of this hunk stands at this longword.
abbrev pub RowStandsAt : (bytes : List ℕ) (t : List TableEntry) → BeginsWithHeader bytes t → ℕ → ℕ → Type 0
RowStandsAt bytes t h i at = drop at (longs bytes) ≡ words (flat_map entry_labelled (drop i t)) ++ longs h.rest

-- The row of this hunk stands at this longword, and the hunk begins at this address, where the first begins at `start`.
pub record IsRow {bytes : List ℕ} {t : List TableEntry} (h : BeginsWithHeader bytes t) (start i longword base : ℕ) : Type 0 where
  pub stands : RowStandsAt bytes t h i longword
  pub base_is : base ≡ start + declared_bytes (take i t)

-- A row stands there.
pub record HasRow (bytes : List ℕ) (place : RowPlace) : Type 0 where
  pub table : List TableEntry
  pub header : BeginsWithHeader bytes table
  pub start : ℕ
  pub hunk : ℕ
  pub few : start < 2 ^ 32
  pub inside : hunk < length table
  pub is_row : IsRow header start hunk place.longword place.base

-- Each row is one longword.
abbrev pub AreShort : {bytes : List ℕ} {t : List TableEntry} → BeginsWithHeader bytes t → Type 0
AreShort {bytes} {t} h = (i : ℕ) → i < length t → RowStandsAt bytes t h i (5 + i)

-- So it is with the table of the header that the bytes begin with.
abbrev pub HasShortRows : List ℕ → Type 0
HasShortRows bytes = (t : List TableEntry) (h : BeginsWithHeader bytes t) → AreShort h

-- ---- marks

-- how many hunks lie from one mark to the next
abbrev pub hunks_a_mark : ℕ
hunks_a_mark = 128

abbrev pub no_mark : Mark
no_mark = record { longword = 0; base = 0 }

-- The marks of hunks before this one are the places of every 128th row.
abbrev pub AreMarksTo : {bytes : List ℕ} {t : List TableEntry} → BeginsWithHeader bytes t → ℕ → List Mark → ℕ → Type 0
AreMarksTo h start marks i =
    (k : ℕ) → hunks_a_mark * k < i → IsRow h start (hunks_a_mark * k) (get_or marks k no_mark).longword (get_or marks k no_mark).base

-- The marks are those of the header's table, whose hunks begin below the end of the address space.
pub record ArePacked (bytes : List ℕ) (hunks start : ℕ) (marks : List Mark) : Type 0 where
  pub table : List TableEntry
  pub header : BeginsWithHeader bytes table
  pub hunks_are : hunks ≡ length table
  pub few : start < 2 ^ 32
  pub each : (i : ℕ) → i < hunks → start + declared_bytes (take i table) < 2 ^ 32
  pub are_marks : AreMarksTo header start marks hunks
  pub room : hunks ≤ hunks_a_mark * length marks

-- Each row from the mark of this number up to the next is one longword.
abbrev pub AreShortFrom : {bytes : List ℕ} {hunks start : ℕ} {marks : List Mark} → ArePacked bytes hunks start marks → ℕ → Type 0
AreShortFrom {bytes} {hunks} {start} {marks} p number =
    (k : ℕ) → k < hunks_a_mark → hunks_a_mark * number + k < hunks → RowStandsAt bytes p.table p.header (hunks_a_mark * number + k) ((get_or marks number no_mark).longword + k)

-- ---- the bases by the longwords

-- where the hunks of a table begin
abbrev pub packed_after : ℕ → List TableEntry → List ℕ
packed_after start [] = []
packed_after start (e ∷ t) = start ∷ packed_after (start + 4 * size_longs e.word) t

unfoldable pub bases_in : ℕ → ℕ → List ℕ → List ℕ
bases_in start hunks bytes = packed_after start (table_cut hunks (drop 5 (longs bytes))).value

-- how many hunks have their bases kept together
abbrev pub hunks_near : ℕ
hunks_near = 32

-- Of the hunks before this one, those of this number have these bases.
abbrev pub AreNearTo : List ℕ → ℕ → List ℕ → ℕ → Type 0
AreNearTo bases number near hunk =
    (i : ℕ) → i < hunk → i / hunks_near ≡ number → get_or near (i % hunks_near) 0 ≡ get_or bases i 0
