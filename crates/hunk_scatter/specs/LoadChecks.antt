-- The check of a load file that comes by pieces.
use Rattle.std.specs.Prelude.{◌≡◌, ℕ, ◌^◌, ◌-◌, ◌<◌, false, List, None, length, IsTrue}
use Rattle.hunk_files.specs.Fault.{BeginsWithLoadFile, HasRefusal, is_load_refusal}
use Rattle.hunk_files.specs.FileParts.{IsPartAt}
use Rattle.hunk_files.specs.Image.{declared_bytes}
use Rattle.hunk_files.specs.LoadText.{table}
use Rattle.hunk_files.specs.declared.refusal.Refusal.{Refusal}
use Rattle.hunk_grammar.specs.Positions.{is_done}
use Rattle.hunk_grammar.specs.declared.file_kind.Sniff.TheVariants.{Load}
use Rattle.hunk_scatter.specs.Checking.{IsCheckedTo}
use Rattle.hunk_scatter.specs.HeaderBytes.{IsHeader}
use Rattle.hunk_scatter.specs.Rows.{entries_of}
use Rattle.hunk_scatter.specs.declared.load_check.BodyCheck.{BodyCheck}
use Rattle.hunk_scatter.specs.declared.load_check.LoadSummary.{LoadSummary}
use Rattle.hunk_scatter.specs.declared.load_check.Stage.{Stage}
use Rattle.hunk_scatter.specs.declared.load_check.Stage.TheVariants as stages

-- The bytes begin with a load file that has so many hunks, which declare so many bytes, and that so many bytes follow.
pub record IsSummary (bytes : List ℕ) (summary : LoadSummary) : Type 0 where
  pub file : BeginsWithLoadFile bytes
  pub hunks : summary.hunks ≡ length file.value
  pub declares : summary.bytes ≡ declared_bytes (table file.value)
  pub follow : summary.rest ≡ length file.rest

-- A longword of the bytes is refused, which is of this part.
pub record IsRefusedLoad (bytes : List ℕ) (refusal : Refusal) : Type 0 where
  pub refused : HasRefusal bytes refusal.fault.place refusal.fault.reason
  pub own_reasons : IsTrue (is_load_refusal refusal.fault.reason)
  pub part : IsPartAt Load bytes refusal.fault.place refusal.part

-- ---- where a check stands

-- more bytes than are counted
abbrev pub counted_bytes : ℕ
counted_bytes = 2 ^ 64

-- no table declares more bytes
abbrev pub no_budget : ℕ
no_budget = 2 ^ 64 - 1

-- These bytes of a body were read, and none was refused.
pub record IsBodyAfter (body : BodyCheck) (fed : List ℕ) : Type 0 where
  pub total_is : body.total ≡ declared_bytes (entries_of body.rows.items)
  pub checked : IsCheckedTo body.rows.items body.standing fed

abbrev pub IsStageAfter : Stage → List ℕ → Type 0
IsStageAfter (stages.Header loader) fed = (loader.fed ≡ fed) × (loader.refused ≡ None) × (loader.budget ≡ no_budget) × (IsHeader fed → ⊥)
IsStageAfter (stages.Body body) fed = IsBodyAfter body fed × (is_done body.standing.state.position ≡ false)
IsStageAfter (stages.Whole summary) fed = length fed < counted_bytes → IsSummary fed summary
IsStageAfter (stages.Refused refusal) fed = length fed < counted_bytes → IsRefusedLoad fed refusal
