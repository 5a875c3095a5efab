-- Which input can be listed.
use Rattle.std.specs.Prelude.{◌≡◌, ◌≤◌, ℕ, Bool, true, false, List, Option, Some, length}
use Rattle.hunk_words.specs.Carriers.{Supply}
use Rattle.hunk_scatter.specs.LoadOutcomes.{HasFileWithin}
use Rattle.hunk_scatter.specs.Placing.{packed_from}
use Rattle.hunk_commands.specs.HexText.{SpellsHex}
use Rattle.hunk_commands.specs.Inputs.{HasFile}
use Rattle.hunk_run.specs.declared.listing.Listing.{Listing}
use Rattle.hunk_run.specs.declared.listing.Listing.TheVariants as listings

-- a reader that has these bytes left, where they are known, and has not failed
abbrev pub unread : Option (List ℕ) → Supply
unread left = record { left = left; failed = false }

-- a slice of these bytes, as a source
abbrev pub slice : List ℕ → Supply
slice bytes = record { left = Some bytes; failed = false }

-- a file of fewer than `most` bytes, or for `relocate` one that is loaded within the budget and that limit
abbrev pub HasListed : Listing → Supply → ℕ → Type 0
HasListed listings.Show before most = HasFile before most
HasListed listings.Validate before most = HasFile before most
HasListed (listings.Relocate base budget) before most = HasFileWithin (packed_from base) (record { budget = budget; file_bytes = most }) before

-- text of at most this many bytes, which spells such a file
pub record HasText (listing : Listing) (before : Supply) (most : ℕ) : Type 0 where
  pub text : List ℕ
  pub left_is : before.left ≡ Some text
  pub few : length text ≤ most
  pub bytes : List ℕ
  pub spells : SpellsHex text bytes
  pub has : HasListed listing (slice bytes) most

-- bytes that can be listed, or where `hex` is set text that spells them
abbrev pub HasInput : Bool → Listing → Supply → ℕ → Type 0
HasInput true listing before most = HasText listing before most
HasInput false listing before most = HasListed listing before most
