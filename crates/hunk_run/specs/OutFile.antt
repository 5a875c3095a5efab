-- The file that a rewriting goes to.
use Rattle.std.specs.Prelude.{◌≡◌, ℕ, Bool, true, false, List, [], Option, Some}
use Rattle.hunk_words.specs.Carriers.{Outlet}
use Rattle.hunk_run.specs.Stores.{MadeFile, MakesFile}

-- the file that its store has made, what was pushed to it, and whether a push or the settling has failed
pub record OutFile : Type 0 where
  pub made : Option MadeFile
  pub taken : List ℕ
  pub failed : Bool

-- the file as a sink
abbrev pub file_outlet : OutFile → Outlet
file_outlet out = record { taken = Some out.taken; failed = out.failed }

-- what the store has made for it so far: nothing, or the file, which has taken what was pushed
abbrev pub IsMade : Bool → Option MadeFile → Option MadeFile → List ℕ → List ℕ → Type 0
IsMade false first now name taken = (now ≡ first) × (taken ≡ [])
IsMade true first now name taken = MakesFile first now name taken
