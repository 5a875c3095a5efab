-- What a run has done: its output is a writer that is old before it and new after it.
use Rattle.std.specs.Prelude.{◌≡◌, ◌⊎◌, ◌+◌, ◌++◌, ℕ, zero, suc, Bool, true, false, List, Result, Ok, Err}
use Rattle.std.specs.Io.KnownBytes.{Consumes, IsAtEnd}
use Rattle.hunk_words.specs.Carriers.{Outlet, Supply, Writing}
use Rattle.hunk_words.specs.Longs.{bytes_of}
use Rattle.hunk_words.specs.declared.reason.Reason.TheVariants as reasons
use Rattle.hunk_files.specs.LoadFile.{LoadFileValue, IsLoadFile}
use Rattle.hunk_files.specs.LoadText.{text}
use Rattle.hunk_command_line.specs.FaultTexts.{refused_line}
use Rattle.hunk_commands.specs.declared.fault.RunFault.{RunFault}
use Rattle.hunk_commands.specs.declared.fault.RunFault.TheVariants as faults
use Rattle.hunk_commands.specs.declared.rewriting.Rewritten.{Rewritten}
use Rattle.hunk_run.specs.declared.listing.Listing.{Listing}
use Rattle.hunk_run.specs.declared.listing.Listing.TheVariants as listings
use Rattle.hunk_commands.specs.Faults.{line_of}
use Rattle.hunk_commands.specs.HexText.{ReadsNoHex, SpellsHex}
use Rattle.hunk_commands.specs.Inputs.{Gave}
use Rattle.hunk_commands.specs.Shown.{IsShown}
use Rattle.hunk_commands.specs.Output.{Takes}
use Rattle.hunk_commands.specs.Relocating.{IsRelocated}
use Rattle.hunk_commands.specs.Validated.{IsValidated}
use Rattle.hunk_listing.specs.RewritingLines.{left_out_line, wrote_line}
use Rattle.hunk_run.specs.Status.{PrintsOrFails, with_newline}

-- the status that goes with so many findings
abbrev pub found_status : ℕ → ℕ
found_status zero = 0
found_status (suc more) = 1

-- the status where a command has answered this, or its fault
abbrev pub answered : {T : Type 0} → (T → ℕ) → Result T RunFault → Result ℕ RunFault
answered status (Ok value) = Ok (status value)
answered status (Err fault) = Err fault

-- what is printed of an input, with this status: 0, or 1 where `validate` finds something
abbrev pub IsListed : ℕ → Listing → List ℕ → List ℕ → Type 0
IsListed status listings.Show input text = (status ≡ 0) × IsShown input text
IsListed status listings.Validate input text = (count : ℕ) × (status ≡ found_status count) × IsValidated count input text
IsListed status (listings.Relocate base budget) input text = (status ≡ 0) × IsRelocated base budget input text

-- what is printed of a rewriting
abbrev pub rewritten_lines : Rewritten → List ℕ
rewritten_lines done = wrote_line done.written ++ left_out_line done.rest

-- the words are no order, or memory ran out; no help is printed
abbrev pub PrintsNoHelp : {W : Type 0} → (W → Outlet) → Writing W → Writing W → ℕ → Type 0
PrintsNoHelp outlet old new status =
    PrintsOrFails outlet old new (with_newline refused_line) 2 status ⊎ PrintsOrFails outlet old new (with_newline (line_of faults.Memory)) 4 status

-- the bytes of the input, which what was given is, or where `hex` is set spells
abbrev pub IsInput : Bool → List ℕ → List ℕ → Type 0
IsInput true given input = SpellsHex given input
IsInput false given input = input ≡ given

-- Where the reading stops: at the end of the source, or right after a load file that is loaded as it comes.
abbrev pub StopsReading : Bool → Listing → List ℕ → Supply → Type 0
StopsReading true listing given after = IsAtEnd after.left
StopsReading false listings.Show given after = IsAtEnd after.left
StopsReading false listings.Validate given after = IsAtEnd after.left
StopsReading false (listings.Relocate base budget) given after = (file : LoadFileValue) × IsLoadFile file × (given ≡ bytes_of (text file))

-- The output has taken what is printed, with this status, of the input that the source gave.
pub record ListsSource {W : Type 0} (outlet : W → Outlet) (hex : Bool) (status : ℕ) (listing : Listing) (before after : Supply)
    (old new : Writing W) : Type 0 where
  pub given : List ℕ
  pub consumed : Consumes before.left after.left given
  pub stops : StopsReading hex listing given after
  pub input : List ℕ
  pub is_input : IsInput hex given input
  pub text : List ℕ
  pub is_listed : IsListed status listing input text
  pub takes : Takes outlet old new text

-- why no bytes were read that a text of at most this many bytes spells
abbrev pub ReadsNoText : RunFault → Supply → Supply → ℕ → Type 0
ReadsNoText (faults.Refused refusal) before after most = (refusal.reason ≡ reasons.FileLimit) × (refusal.place ≡ most) × Gave before after (most + 1)
ReadsNoText fault before after most = ReadsNoHex fault before after (most + 1)
