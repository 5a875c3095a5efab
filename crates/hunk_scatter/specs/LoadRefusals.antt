-- The refusal of a load, with the part of the file that it is in.
use Rattle.std.specs.Prelude.{◌≡◌, ℕ, List, Result, Ok, Err, IfErr}
use Rattle.hunk_words.specs.Carriers.{Supply}
use Rattle.hunk_words.specs.Classes.{class_of}
use Rattle.hunk_words.specs.declared.class.Class.TheVariants as classes
use Rattle.hunk_words.specs.declared.fault.Fault.{Fault}
use Rattle.hunk_grammar.specs.declared.file_kind.Sniff.TheVariants as sniffs
use Rattle.hunk_files.specs.FileParts.{IsPartAt}
use Rattle.hunk_files.specs.declared.part.Part.{Part}
use Rattle.hunk_scatter.specs.LoadOutcomes.{Loads}
use Rattle.hunk_scatter.specs.LoaderValues.{ImageValue}
use Rattle.hunk_scatter.specs.Placing.{Placing}
use Rattle.hunk_scatter.specs.declared.load_refusal.LoadRefusal.{LoadRefusal}
use Rattle.hunk_scatter.specs.declared.load_refusal.LoadRefusal.TheVariants.{Judged, NotJudged}
use Rattle.hunk_scatter.specs.declared.loading.Limits.{Limits}

abbrev pub fault_of : LoadRefusal → Fault
fault_of (Judged refusal) = refusal.fault
fault_of (NotJudged fault) = fault

-- what is answered where the part is not asked for
abbrev pub without_part : {T : Type 0} → Result T LoadRefusal → Result T Fault
without_part (Ok x) = Ok x
without_part (Err refusal) = Err (fault_of refusal)

-- the file was not judged
abbrev pub IsUnjudged : Fault → Type 0
IsUnjudged fault = class_of fault ≡ classes.NotJudged

-- By the longwords before it, the longword at the fault is of this part, unless the file was not judged.
abbrev pub IsFaultIn : List ℕ → Part → Fault → Type 0
IsFaultIn given part fault = ¬ IsUnjudged fault → IsPartAt sniffs.Load given fault.place part

-- The refusal names the part that the longword at its fault is of; it names none where the file was not judged.
abbrev pub NamesPart : List ℕ → LoadRefusal → Type 0
NamesPart given (Judged refusal) = ¬ IsUnjudged refusal.fault × IsPartAt sniffs.Load given refusal.fault.place refusal.part
NamesPart given (NotJudged fault) = IsUnjudged fault

-- What a load comes to that names the part: what `load` does, and a refusal names the part by the bytes that were given.
pub record LoadsOrNames (base : Placing) (limits : Limits) (old new : Supply) (result : Result ImageValue LoadRefusal) : Type 0 where
  pub loads : Loads base limits old new (without_part result)
  pub names : IfErr result (NamesPart loads.given)
