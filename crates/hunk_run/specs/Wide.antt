-- An input of which the plain spelling is taken: it is read whole, and what is done is done of its plain spelling.
use Rattle.std.specs.Prelude.{◌≡◌, ◌⊎◌, ◌+◌, ◌<◌, ◌≤◌, ⊤, ℕ, Bool, true, false, List, Option, Some, Result, IfErr, IfOk, IfSome, OnOk, length}
use Rattle.std.specs.Io.KnownBytes.{Consumes, IsAtEnd}
use Rattle.hunk_words.specs.Carriers.{Outlet, Supply, Writing, saturated}
use Rattle.hunk_words.specs.declared.fault.Fault.{Fault}
use Rattle.hunk_words.specs.declared.reason.Reason.TheVariants as reasons
use Rattle.hunk_files.specs.HunkFile.{AreFile}
use Rattle.hunk_scatter.specs.LoadOutcomes.{HasFileWithin}
use Rattle.hunk_scatter.specs.Placing.{packed_from}
use Rattle.hunk_wide.specs.Places.{place_of}
use Rattle.hunk_wide.specs.Plain.{plain}
use Rattle.hunk_wide.specs.Spellings.{ends_of, short_blocks_of}
use Rattle.hunk_wide.specs.declared.spelling.Spelling.{Spelling}
use Rattle.hunk_commands.specs.HexText.{ReadsHex, SpellsHex}
use Rattle.hunk_commands.specs.Inputs.{ReadsInVain, ReadsWhole}
use Rattle.hunk_commands.specs.Engine.{IsTextOfSome, PutsAll, PutsFirst, StopsAtWrite}
use Rattle.hunk_commands.specs.Faults.{IsWrite}
use Rattle.hunk_commands.specs.Output.{StopsOutput, Takes}
use Rattle.hunk_commands.specs.Refusals.{RefusesBytes}
use Rattle.hunk_commands.specs.Rewritten.{IsRewritten}
use Rattle.hunk_commands.specs.declared.fault.RunFault.{RunFault}
use Rattle.hunk_commands.specs.declared.rewriting.Rewritten.{Rewritten}
use Rattle.hunk_commands.specs.declared.fault.RunFault.TheVariants.{Memory, Refused, RefusedIn, Write}
use Rattle.hunk_run.specs.Inputs.{slice}
use Rattle.hunk_run.specs.Refusals.{StopsListing}
use Rattle.hunk_run.specs.Runs.{IsInput, IsListed, ReadsNoText}
use Rattle.hunk_run.specs.Status.{TellsOutcome}
use Rattle.hunk_run.specs.declared.listing.Listing.{Listing}
use Rattle.hunk_run.specs.declared.listing.Listing.TheVariants as listings

-- the bytes that an order is for: those of the input, or where `wide` is set of its plain spelling
abbrev pub meant : Bool → List ℕ → List ℕ
meant false input = input
meant true input = plain input

-- An input is its own plain spelling, where its bytes are known.
abbrev pub IsPlain : Option (List ℕ) → Type 0
IsPlain known = IfSome known (λ bytes. plain bytes ≡ bytes)

-- ---- the place of a fault

abbrev pub fault_at : List ℕ → Fault → Fault
fault_at input fault = record { place = place_of input fault.place; reason = fault.reason }

-- A fault of the plain spelling, as one of the input: where a place is told, it is that in the input.
abbrev pub placed : List ℕ → RunFault → RunFault
placed input (Refused fault) = Refused (fault_at input fault)
placed input (RefusedIn refusal) = RefusedIn (record { fault = fault_at input refusal.fault; part = refusal.part })
placed input fault = fault

-- ---- the input, read whole

-- these are its bytes, or where `hex` is set those that its text spells, of at most so many bytes
abbrev pub ReadsBytes : Bool → Supply → Supply → ℕ → List ℕ → Type 0
ReadsBytes true before after most input = ReadsHex before after (most + 1) input
ReadsBytes false before after most input = ReadsWhole before after most input

-- why it was not read
abbrev pub ReadsNoBytes : Bool → RunFault → Supply → Supply → ℕ → Type 0
ReadsNoBytes true fault before after most = ReadsNoText fault before after most
ReadsNoBytes false fault before after most = ReadsInVain fault before after most

-- a fault that an input may have which was not read: of the refusals that name no part of a file only its length is one
abbrev pub IsUnread : RunFault → Type 0
IsUnread (Refused refusal) = refusal.reason ≡ reasons.FileLimit
IsUnread (RefusedIn refusal) = ⊥
IsUnread (Write written) = ⊥
IsUnread _ = ⊤

-- it has these bytes, or text of them, which are few enough
abbrev pub HasBytes : Bool → Supply → ℕ → List ℕ → Type 0
HasBytes true before most input = (text : List ℕ) × (before.left ≡ Some text) × (length text ≤ most) × SpellsHex text input
HasBytes false before most input = (before.left ≡ Some input) × (length input < most)

-- ---- bytes at hand

-- the output has taken what is printed of them, with this status
abbrev pub ListsBytes : {W : Type 0} → (W → Outlet) → ℕ → Listing → List ℕ → Writing W → Writing W → Type 0
ListsBytes outlet status listing bytes old new = (text : List ℕ) × IsListed status listing bytes text × Takes outlet old new text

-- why nothing is printed of them
abbrev pub StopsBytes : Listing → List ℕ → ℕ → RunFault → Type 0
StopsBytes listings.Show bytes most fault = RefusesBytes fault bytes
StopsBytes listings.Validate bytes most fault = RefusesBytes fault bytes
StopsBytes (listings.Relocate base budget) bytes most fault =
    (rest : List ℕ) × StopsListing (listings.Relocate base budget) (slice bytes) (slice rest) most fault

-- they are a file, or for `relocate` begin with one that is loaded within the budget and that limit
abbrev pub AreListed : Listing → List ℕ → ℕ → Type 0
AreListed listings.Show bytes most = AreFile bytes
AreListed listings.Validate bytes most = AreFile bytes
AreListed (listings.Relocate base budget) bytes most = HasFileWithin (packed_from base) (record { budget = budget; file_bytes = most }) (slice bytes)

-- What comes of listing them.
pub record ListsHeld {W : Type 0} (outlet : W → Outlet) (listing : Listing) (bytes : List ℕ) (most : ℕ) (old new : Writing W) (result : Result ℕ RunFault) : Type 0 where
  pub outcome : TellsOutcome outlet old new result
  pub done : IfOk result (λ status. ListsBytes outlet status listing bytes old new)
  pub stops : IfErr result (λ fault. ¬ IsWrite fault → StopsBytes listing bytes most fault)
  pub succeeds : AreListed listing bytes most → (outlet new.sink).failed ≡ false → IfErr result (λ fault. fault ≡ Memory)

-- ---- the plain spelling

-- that it has too many bytes, `most` of them or more
abbrev pub IsTooLong : ℕ → List ℕ → RunFault → Type 0
IsTooLong most bytes fault = (fault ≡ Refused (record { place = most; reason = reasons.FileLimit })) × (most ≤ length bytes)

-- why there is no plain spelling at hand: there was no memory, or it has too many bytes
abbrev pub MakesNone : ℕ → List ℕ → RunFault → Type 0
MakesNone most bytes fault = (fault ≡ Memory) ⊎ IsTooLong most bytes fault

-- Why nothing is done of the input's plain spelling: the fault is one of that, at its place in the input.
pub record StopsPlain (listing : Listing) (input : List ℕ) (most : ℕ) (fault : RunFault) : Type 0 where
  pub own : RunFault
  pub stops : MakesNone most (plain input) own ⊎ StopsBytes listing (plain input) most own
  pub told : fault ≡ placed input own

-- What comes of listing the input's plain spelling.
pub record ListsPlain {W : Type 0} (outlet : W → Outlet) (listing : Listing) (input : List ℕ) (most : ℕ) (old new : Writing W)
    (result : Result ℕ RunFault) : Type 0 where
  pub outcome : TellsOutcome outlet old new result
  pub done : IfOk result (λ status. ListsBytes outlet status listing (plain input) old new)
  pub stops : IfErr result (λ fault. ¬ IsWrite fault → StopsPlain listing input most fault)
  pub succeeds : length (plain input) < most → AreListed listing (plain input) most → (outlet new.sink).failed ≡ false → IfErr result (λ fault. fault ≡ Memory)

-- What comes of writing it.
pub record RewritesPlain {W : Type 0} (outlet : W → Outlet) (strip : Bool) (input : List ℕ) (most : ℕ) (old new : Writing W)
    (result : Result Rewritten RunFault) : Type 0 where
  pub done : IfOk result (λ done. PutsAll outlet (IsRewritten strip done (plain input)) old new)
  pub counted : IfOk result (λ done. done.written ≡ saturated new.written)
  pub no_failure : OnOk result ((outlet new.sink).failed ≡ (outlet old.sink).failed)
  pub write : IfErr result (StopsAtWrite new.written (PutsFirst outlet (IsTextOfSome (λ (done : Rewritten). IsRewritten strip done (plain input))) old new))
  pub fails : IfErr result (StopsOutput outlet old new)
  pub stops : IfErr result (λ fault. ¬ IsWrite fault → StopsPlain listings.Show input most fault)
  pub succeeds : length (plain input) < most → AreFile (plain input) → (outlet new.sink).failed ≡ false → IfErr result (λ fault. fault ≡ Memory)

-- The input was not read, or nothing is done of its plain spelling.
abbrev pub StopsWide : Bool → Listing → Supply → Supply → ℕ → RunFault → Type 0
StopsWide hex listing before after most fault =
    ReadsNoBytes hex fault before after most
    ⊎ ((input : List ℕ) × ReadsBytes hex before after most input × StopsPlain listing input most fault)

-- its plain spelling is one that can be listed, and has fewer than `most` bytes
pub record HasWide (hex : Bool) (listing : Listing) (before : Supply) (most : ℕ) : Type 0 where
  pub input : List ℕ
  pub has : HasBytes hex before most input
  pub few : length (plain input) < most
  pub listed : AreListed listing (plain input) most

-- The output has taken what is printed, with this status, of the plain spelling of the input, which is all that there was to read.
pub record ListsWide {W : Type 0} (outlet : W → Outlet) (hex : Bool) (status : ℕ) (listing : Listing) (before after : Supply) (old new : Writing W) : Type 0 where
  pub given : List ℕ
  pub consumed : Consumes before.left after.left given
  pub at_end : IsAtEnd after.left
  pub input : List ℕ
  pub is_input : IsInput hex given input
  pub lists : ListsBytes outlet status listing (plain input) old new

-- ---- how it is spelled

abbrev pub IsSpellingOf : Spelling → List ℕ → Type 0
IsSpellingOf spelling input = (spelling.short_blocks ≡ short_blocks_of input) × (spelling.ends ≡ ends_of input)
