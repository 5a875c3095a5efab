-- The file that was made among those of the system.
use Rattle.std.specs.Prelude.{◌≡◌, ℕ, Bool, List, [], Option, Some, None, Result}
use Rattle.std.specs.Io.KnownBytes.{Appends}
use Rattle.std.specs.declared.io.Error.{Error}
use Rattle.hunk_run.specs.Stores.{MadeFile}

-- the file that was made, and whether opening, reading, making or writing one has failed
pub record HostValue : Type 0 where
  pub made : Option MadeFile
  pub failed : Bool

-- none yet, or the one of this name that has taken these bytes and answered so
abbrev pub made_of : {F : Type 0} → Option F → List ℕ → List ℕ → Option (Result (Unit {0}) Error) → Option MadeFile
made_of None name taken answer = None
made_of (Some file) name taken answer = Some (record { name = name; taken = taken; answer = answer })

-- the file has taken these bytes since it was created; where it is not yet, there are none
abbrev pub HasTaken : {F : Type 0} → (F → Option (List ℕ)) → Option F → List ℕ → Type 0
HasTaken contents None bytes = bytes ≡ []
HasTaken {F} contents (Some file) bytes = (created : F) × Appends (contents created) (contents file) bytes
