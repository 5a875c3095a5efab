-- What the loader of a header is fed, of a piece and of a source.
use Rattle.std.specs.Prelude.{◌≡◌, ℕ, ◌+◌, ◌*◌, ◌/◌, ◌<◌, ◌≤◌, List, ◌++◌, length, take, None, OnOk, IfErr, Result}
use Rattle.std.specs.Io.KnownBytes.{Consumes}
use Rattle.hunk_words.specs.Carriers.{Supply}
use Rattle.hunk_words.specs.declared.fault.Fault.{Fault}
use Rattle.hunk_grammar.specs.declared.file_kind.Sniff.TheVariants as sniffs
use Rattle.hunk_files.specs.Fault.{IsTruncated}
use Rattle.hunk_files.specs.FileParts.{IsPartAt}
use Rattle.hunk_files.specs.LoadFile.{TableEntry}
use Rattle.hunk_files.specs.declared.part.Part.TheVariants as parts
use Rattle.hunk_scatter.specs.HeaderBytes.{IsHeader, IsHeaderTable, header_bytes}
use Rattle.hunk_scatter.specs.HeaderFaults.{IsHeaderFault, KeepsToBudget}
use Rattle.hunk_scatter.specs.LoadOutcomes.{GoesPastNoHeader, IsHeaderStop}
use Rattle.hunk_scatter.specs.LoadRefusals.{IsFaultIn}
use Rattle.hunk_scatter.specs.LoaderValues.{HasNoRefusal, HeaderLoaderValue}

-- The longword at the fault ends in the piece. The bytes up to its end have this fault, and go past no header.
pub record StopsAtLongword (budget : ℕ) (fed piece : List ℕ) (f : Fault) : Type 0 where
  pub after : length fed < f.place + 4
  pub inside : f.place + 4 ≤ length (fed ++ piece)
  pub fault : IsHeaderFault budget (take (f.place + 4) (fed ++ piece)) f
  pub in_header : GoesPastNoHeader (take (f.place + 4) (fed ++ piece))
  pub part : IsPartAt sniffs.Load (take (f.place + 4) (fed ++ piece)) f.place parts.Header

-- ---- of a source

-- A loader that stands here wants this many bytes: what was fed is cut short, and each header that goes on from it has as
-- many more.
pub record IsHeaderCutShort (loader : HeaderLoaderValue) (want : ℕ) : Type 0 where
  pub clean : HasNoRefusal loader.fed
  pub truncated : IsTruncated loader.fed (4 * (length loader.fed / 4))
  pub keeps_to_budget : KeepsToBudget loader.budget loader.fed
  pub of_header : IsPartAt sniffs.Load loader.fed (4 * (length loader.fed / 4)) parts.Header
  pub not_whole : IsHeader loader.fed → ⊥
  pub in_header : GoesPastNoHeader loader.fed
  pub least : (t : List TableEntry) (more : List ℕ) → IsHeaderTable t → header_bytes t ≡ loader.fed ++ more → want ≤ length more

-- The source has given a piece, which goes past no header: the loader was fed it, or the load stops in the header.
pub record FeedsHeader (old new : Supply) (limit : ℕ) (before after : HeaderLoaderValue) (result : Result Unit Fault) : Type 0 where
  pub piece : List ℕ
  pub consumed : Consumes old.left new.left piece
  pub within : length (before.fed ++ piece) ≤ limit
  pub in_header : GoesPastNoHeader (before.fed ++ piece)
  pub budget : after.budget ≡ before.budget
  pub fed : OnOk result ((after.refused ≡ None) × (after.fed ≡ before.fed ++ piece) × (0 < length piece))
  pub works : OnOk result (new.failed ≡ old.failed)
  pub stops : IfErr result (λ f. IsHeaderStop (record { budget = before.budget; file_bytes = limit }) new (before.fed ++ piece) f × IsFaultIn (before.fed ++ piece) parts.Header f)
