-- What the loader of a body is fed of a source.
use Rattle.std.specs.Prelude.{◌≡◌, ℕ, ◌*◌, ◌/◌, ◌<◌, ◌≤◌, List, ◌++◌, length, None, OnOk, IfErr, Result}
use Rattle.std.specs.Io.KnownBytes.{Consumes}
use Rattle.hunk_words.specs.Carriers.{Supply}
use Rattle.hunk_words.specs.Longs.{bytes_of}
use Rattle.hunk_words.specs.declared.fault.Fault.{Fault}
use Rattle.hunk_grammar.specs.declared.file_kind.Sniff.TheVariants as sniffs
use Rattle.hunk_files.specs.Fault.{IsTruncated}
use Rattle.hunk_files.specs.FileParts.{IsPartAt}
use Rattle.hunk_files.specs.LoadFile.{LoadFileValue, IsLoadFile}
use Rattle.hunk_files.specs.LoadText.{text}
use Rattle.hunk_files.specs.declared.part.Part.TheVariants as parts
use Rattle.hunk_scatter.specs.LoadOutcomes.{GoesPastNoFile, IsBodyStop}
use Rattle.hunk_scatter.specs.LoadRefusals.{IsFaultIn}
use Rattle.hunk_scatter.specs.LoaderValues.{BodyLoaderValue, HasNoRefusal}

-- A loader that stands here wants this many bytes: what was fed is cut short, and each load file that goes on from it has as
-- many more.
pub record IsCutShort (loader : BodyLoaderValue) (want : ℕ) : Type 0 where
  pub clean : HasNoRefusal loader.fed
  pub truncated : IsTruncated loader.fed (4 * (length loader.fed / 4))
  pub of_hunk : IsPartAt sniffs.Load loader.fed (4 * (length loader.fed / 4)) (parts.Hunk loader.hunk)
  pub least : (v : LoadFileValue) (more : List ℕ) → IsLoadFile v → bytes_of (text v) ≡ loader.fed ++ more → want ≤ length more

-- The source has given a piece, which goes past no file: the loader was fed it, or the load stops in this hunk.
pub record FeedsMore (old new : Supply) (limit : ℕ) (before after : BodyLoaderValue) (result : Result Unit Fault) : Type 0 where
  pub piece : List ℕ
  pub consumed : Consumes old.left new.left piece
  pub within : length (before.fed ++ piece) ≤ limit
  pub in_file : GoesPastNoFile (before.fed ++ piece)
  pub rows : after.rows ≡ before.rows
  pub fed : OnOk result ((after.refused ≡ None) × (after.fed ≡ before.fed ++ piece) × (0 < length piece))
  pub works : OnOk result (new.failed ≡ old.failed)
  pub stops : IfErr result (λ f. IsBodyStop limit new (before.fed ++ piece) f × IsFaultIn (before.fed ++ piece) (parts.Hunk after.hunk) f)
