-- The files that a run is given, as clauses see them, and the file that it makes.
use Rattle.std.specs.Prelude.{◌≡◌, ◌⊎◌, ◌++◌, ◌≤◌, ℕ, zero, Bool, true, false, if◌then◌else◌, List, [], ◌∷◌, Option, Some, None, Result, Ok, Err, IfSome, length, take}
use Rattle.std.specs.declared.io.Error.{Error}
use Rattle.hunk_words.specs.Carriers.{saturated}
use Rattle.hunk_run.specs.Settling.{has_lost}

-- the bytes that the file of each name has, and those of standard input, where they are known; and which file can be read again from its start
pub record Holdings : Type 0 where
  pub content : List ℕ → Option (List ℕ)
  pub input : Option (List ℕ)
  pub again : List ℕ → Bool

-- a file that was made: its name, what it has taken since, and what it answered when it was last asked to keep all of that
pub record MadeFile : Type 0 where
  pub name : List ℕ
  pub taken : List ℕ
  pub answer : Option (Result (Unit {0}) Error)

-- What is known of the input of this name, or of standard input, where no file was made yet. Once an input was opened, no more is known of one that can't be read again.
abbrev pub bytes_of_input : Holdings → Bool → Option MadeFile → Option (List ℕ) → Option (List ℕ)
bytes_of_input holdings false made None = holdings.input
bytes_of_input holdings true made None = None
bytes_of_input holdings false None (Some name) = holdings.content name
bytes_of_input holdings true None (Some name) = if holdings.again name then holdings.content name else None
bytes_of_input holdings opened (Some file) (Some name) = None

-- What is left to read is this, where it is known.
abbrev pub Leaves : Option (List ℕ) → Option (List ℕ) → Type 0
Leaves known left = IfSome known (λ bytes. left ≡ Some bytes)

-- ---- one step

abbrev pub Makes : Option MadeFile → Option MadeFile → List ℕ → Type 0
Makes old new name = (old ≡ None) × (new ≡ Some (record { name = name; taken = []; answer = None }))

abbrev pub written_to : Option MadeFile → List ℕ → Result ℕ Error → Option MadeFile
written_to (Some file) bytes (Ok count) = Some (record { name = file.name; taken = file.taken ++ take count bytes; answer = None })
written_to made bytes result = made

abbrev pub asked_to_keep : Option MadeFile → Result (Unit {0}) Error → Option MadeFile
asked_to_keep (Some file) result = Some (record { name = file.name; taken = file.taken; answer = Some result })
asked_to_keep None result = None

-- the write fails: by an error, or as it takes none of some bytes
abbrev pub fails_to_write : List ℕ → Result ℕ Error → Bool
fails_to_write bytes (Err error) = true
fails_to_write (byte ∷ bytes) (Ok zero) = true
fails_to_write bytes (Ok count) = false

-- ---- all of them: the file that was made is old before them and new after them

-- it was made by this name, and has taken just these bytes
pub record MakesFile (old new : Option MadeFile) (name taken : List ℕ) : Type 0 where
  pub first : old ≡ None
  pub answer : Option (Result (Unit {0}) Error)
  pub made : new ≡ Some (record { name = name; taken = taken; answer = answer })

-- that is so, or none was made
abbrev pub MakesAtMost : Option MadeFile → Option MadeFile → List ℕ → List ℕ → Type 0
MakesAtMost old new name taken = ((new ≡ old) × (taken ≡ [])) ⊎ MakesFile old new name taken

-- it was made so, was asked to keep all, and does not say that any of it is lost
pub record MakesWhole (old new : Option MadeFile) (name text : List ℕ) : Type 0 where
  pub makes : MakesFile old new name text
  pub answer : Result (Unit {0}) Error
  pub asked : makes.answer ≡ Some answer
  pub kept : has_lost answer ≡ false

-- It has taken as many of the first bytes of such a text as this tells.
pub record MakesFirst (IsText : List ℕ → Type 0) (old new : Option MadeFile) (name : List ℕ) (written : ℕ) : Type 0 where
  pub text : List ℕ
  pub is_text : IsText text
  pub count : ℕ
  pub fits : count ≤ length text
  pub makes : MakesAtMost old new name (take count text)
  pub told : written ≡ saturated count
