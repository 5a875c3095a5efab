-- What `relocate` prints of a load file that is loaded within a budget, and when it prints nothing.
use Rattle.std.specs.Prelude.{◌≡◌, ◌≤◌, ◌++◌, ℕ, List, [], ◌∷◌, Result, IfErr, OnOk, map}
use Rattle.hunk_words.specs.Carriers.{Outlet, Supply, Writing}
use Rattle.hunk_words.specs.Longs.{bytes_of}
use Rattle.hunk_files.specs.LoadFile.{LoadFileValue, IsLoadFile}
use Rattle.hunk_files.specs.LoadText.{table, text}
use Rattle.hunk_files.specs.Image.{declared_bytes, image}
use Rattle.hunk_scatter.specs.LoadOutcomes.{Gives, IsFaultOf, IsLoadFault}
use Rattle.hunk_scatter.specs.LoadRefusals.{NamesPart, fault_of}
use Rattle.hunk_scatter.specs.LoaderValues.{ImageValue}
use Rattle.hunk_scatter.specs.Placing.{AreBases, packed_from}
use Rattle.hunk_scatter.specs.Rows.{bases_of}
use Rattle.hunk_scatter.specs.declared.load_refusal.LoadRefusal.{LoadRefusal}
use Rattle.hunk_scatter.specs.declared.loading.Limits.{Limits}
use Rattle.hunk_listing.specs.SegmentLines.{Segment, segment_listing}
use Rattle.hunk_commands.specs.declared.fault.RunFault.{RunFault}
use Rattle.hunk_commands.specs.Engine.{PutsAll, PutsFirst, StopsAtWrite}
use Rattle.hunk_commands.specs.Faults.{IsWrite, load_refused}
use Rattle.hunk_commands.specs.Output.{StopsOutput}

-- each segment at its base
abbrev pub segments_of : List ℕ → List (List ℕ) → List Segment
segments_of (base ∷ bases) (bytes ∷ segments) = record { base = base; bytes = bytes } ∷ segments_of bases segments
segments_of _ _ = []

-- the listing of an image
abbrev pub image_listing : ImageValue → List ℕ
image_listing image = segment_listing (segments_of (bases_of image.rows) image.segments)

-- The load file keeps to the budget, all its hunks have bases from the start on, and the text is the listing of its segments, each relocated by the bases of all.
pub record IsListingAt (start budget : ℕ) (file : LoadFileValue) (written : List ℕ) : Type 0 where
  pub is_file : IsLoadFile file
  pub within : declared_bytes (table file) ≤ budget
  pub bases : List ℕ
  pub are_bases : AreBases (packed_from start) (table file) bases
  pub listing_is : written ≡ segment_listing (segments_of bases (map (image bases) file))

-- The input begins with a load file of which this is the listing.
pub record IsRelocated (start budget : ℕ) (input written : List ℕ) : Type 0 where
  pub file : LoadFileValue
  pub is_listing : IsListingAt start budget file written
  pub rest : List ℕ
  pub split : input ≡ bytes_of (text file) ++ rest

-- The bytes are a load file of which this is the listing.
pub record IsListingOf (start budget : ℕ) (given written : List ℕ) : Type 0 where
  pub file : LoadFileValue
  pub is_listing : IsListingAt start budget file written
  pub given_is : given ≡ bytes_of (text file)

-- What the refusal of a load is to a run. Where it is one of the file, it names the part, by the bytes that were given.
pub record StopsLoading (start : ℕ) (limits : Limits) (before after : Supply) (given : List ℕ) (fault : RunFault) : Type 0 where
  pub refusal : LoadRefusal
  pub told : fault ≡ load_refused refusal
  pub names : NamesPart given refusal
  pub is_fault : IsLoadFault (packed_from start) limits after given (fault_of refusal)
  pub of_file : IsFaultOf before (fault_of refusal)

-- What `relocate` comes to. The source has given these bytes, and no more than the limit.
pub record Relocates {W T : Type 0} (outlet : W → Outlet) (start : ℕ) (limits : Limits) (before after : Supply)
    (old new : Writing W) (result : Result T RunFault) : Type 0 where
  pub given : List ℕ
  pub gives : Gives before after limits.file_bytes given
  -- they are a load file, all of its listing has gone out, and no write has failed
  pub done : OnOk result (PutsAll outlet (IsListingOf start limits.budget given) old new)
  pub no_failure : OnOk result ((outlet new.sink).failed ≡ (outlet old.sink).failed)
  -- after a fault of writing its first bytes have, and after another one, for which a load stops, nothing has
  pub write : IfErr result (StopsAtWrite new.written (PutsFirst outlet (IsListingOf start limits.budget given) old new))
  pub fails : IfErr result (StopsOutput outlet old new)
  pub stops : IfErr result (λ fault. ¬ IsWrite fault → StopsLoading start limits before after given fault)
