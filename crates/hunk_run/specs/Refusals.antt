-- Why nothing is printed or written of an input.
use Rattle.std.specs.Prelude.{◌≡◌, ◌⊎◌, ◌+◌, ⊤, ℕ, Bool, true, false, List, Option, Result, Ok, Err, IfErr, IfOk, IfSome}
use Rattle.hunk_files.specs.HunkFile.{AreFile}
use Rattle.hunk_words.specs.Carriers.{Outlet, Supply, Writing}
use Rattle.hunk_scatter.specs.LoadOutcomes.{Gives}
use Rattle.hunk_commands.specs.declared.fault.RunFault.{RunFault}
use Rattle.hunk_commands.specs.declared.fault.RunFault.TheVariants.{HexText, Memory, Read, Refused, RefusedIn, Write}
use Rattle.hunk_run.specs.declared.listing.Listing.{Listing}
use Rattle.hunk_run.specs.declared.listing.Listing.TheVariants as listings
use Rattle.hunk_commands.specs.Engine.{ReadsNoFile}
use Rattle.hunk_commands.specs.Faults.{IsWrite}
use Rattle.hunk_commands.specs.HexText.{ReadsHex}
use Rattle.hunk_commands.specs.Relocating.{StopsLoading}
use Rattle.hunk_commands.specs.Inputs.{TellsReading}
use Rattle.hunk_run.specs.Inputs.{HasInput, slice, unread}
use Rattle.hunk_run.specs.Runs.{ListsSource, ReadsNoText}
use Rattle.hunk_run.specs.Status.{TellsOutcome}
use Rattle.hunk_run.specs.Stores.{Leaves}

-- it was not read, or its bytes are refused, of which at most this many are read
abbrev pub StopsListing : Listing → Supply → Supply → ℕ → RunFault → Type 0
StopsListing listings.Show before after most fault = ReadsNoFile before after most fault
StopsListing listings.Validate before after most fault = ReadsNoFile before after most fault
StopsListing (listings.Relocate base budget) before after most fault =
    (given : List ℕ) × Gives before after most given × StopsLoading base (record { budget = budget; file_bytes = most }) before after given fault

-- its text, of at most this many bytes, spells bytes of which nothing is printed
pub record StopsSpelled (listing : Listing) (before after : Supply) (most : ℕ) (fault : RunFault) : Type 0 where
  pub bytes : List ℕ
  pub read : ReadsHex before after (most + 1) bytes
  pub rest : List ℕ
  pub stops : StopsListing listing (slice bytes) (slice rest) most fault

-- the text was not read, or that is so
abbrev pub StopsText : Listing → Supply → Supply → ℕ → RunFault → Type 0
StopsText listing before after most fault = ReadsNoText fault before after most ⊎ StopsSpelled listing before after most fault

-- of its bytes, or where `hex` is set of its text
abbrev pub StopsSource : Bool → Listing → Supply → Supply → ℕ → RunFault → Type 0
StopsSource true listing before after most fault = StopsText listing before after most fault
StopsSource false listing before after most fault = StopsListing listing before after most fault

-- This holds of a reader with these bytes left, and of what it has come to.
abbrev pub FromReader : Option (List ℕ) → (Supply → Supply → Type 0) → Type 0
FromReader left Holds = (after : Supply) × Holds (unread left) after

-- and of one with these bytes left, where they are known
abbrev pub FromInput : Option (List ℕ) → (Supply → Supply → Type 0) → Type 0
FromInput known Holds = (left : Option (List ℕ)) × Leaves known left × FromReader left Holds

-- There was no memory, or the input could not be opened, or it stops so.
abbrev pub StopsInput : Option (List ℕ) → (Supply → Supply → RunFault → Type 0) → RunFault → Type 0
StopsInput known Stops fault = (fault ≡ Memory) ⊎ (fault ≡ Read 0) ⊎ FromInput known (λ before after. Stops before after fault)

-- The fault is one of reading.
abbrev pub IsRead : RunFault → Type 0
IsRead fault = (place : ℕ) × (fault ≡ Read place)

-- It is one of reading or writing.
abbrev pub IsOfSystem : RunFault → Type 0
IsOfSystem fault = IsRead fault ⊎ IsWrite fault

-- the answer is a fault of reading
abbrev pub failed_reading : {T : Type 0} → Result T RunFault → Bool
failed_reading (Err (Read place)) = true
failed_reading _ = false

-- the answer is a fault of reading or writing
abbrev pub failed_at_files : {T : Type 0} → Result T RunFault → Bool
failed_at_files (Err (Read place)) = true
failed_at_files (Err (Write written)) = true
failed_at_files _ = false

-- the answer is a refusal of the input
abbrev pub refuses_input : {T : Type 0} → Result T RunFault → Bool
refuses_input (Err (Refused refusal)) = true
refuses_input (Err (RefusedIn refusal)) = true
refuses_input (Err HexText) = true
refuses_input _ = false

-- ---- what comes of listing what a source has, or where `hex` is set what its text spells

pub record ListsSupply {W : Type 0} (outlet : W → Outlet) (hex : Bool) (listing : Listing) (before after : Supply) (most : ℕ) (old new : Writing W)
    (result : Result ℕ RunFault) : Type 0 where
  pub outcome : TellsOutcome outlet old new result
  pub done : IfOk result (λ status. ListsSource outlet hex status listing before after old new)
  -- with such an input only memory can run out, where nothing has failed
  pub succeeds : HasInput hex listing before most → after.failed ≡ false → (outlet new.sink).failed ≡ false → IfErr result (λ fault. fault ≡ Memory)
  pub tells_read : TellsReading before after result
  pub stops : IfErr result (λ fault. ¬ IsWrite fault → StopsSource hex listing before after most fault)

-- ---- what was listed

-- Where it was listed, or writing failed, the bytes that were left to read are a file, and perhaps others after it, where they are known.
abbrev pub IsOfFile : {T : Type 0} → Option (List ℕ) → Result T RunFault → Type 0
IsOfFile left (Ok value) = IfSome left AreFile
IsOfFile left (Err (Write written)) = IfSome left AreFile
IsOfFile left (Err fault) = ⊤
