-- What was read of a source, and why it was not read to its end.
use Rattle.std.specs.Prelude.{◌≡◌, ◌<◌, ℕ, List, ◌++◌, Some, true, false, length, Result, IfErr, IsErrAnd, OnOk}
use Rattle.std.specs.Io.KnownBytes.{Consumes, IsAtEnd}
use Rattle.hunk_words.specs.Carriers.{Supply}
use Rattle.hunk_words.specs.declared.reason.Reason.TheVariants as reasons
use Rattle.hunk_files.specs.HunkFile.{AreFile}
use Rattle.hunk_scatter.specs.LoadOutcomes.{GivesAtMost}
use Rattle.hunk_commands.specs.declared.fault.RunFault.{RunFault}
use Rattle.hunk_commands.specs.declared.fault.RunFault.TheVariants as faults

-- it was read to its end, and gave these bytes, fewer than `most`
pub record ReadsWhole (old new : Supply) (most : ℕ) (bytes : List ℕ) : Type 0 where
  pub given : Consumes old.left new.left bytes
  pub at_end : IsAtEnd new.left
  pub few : length bytes < most

-- it was read so, and this holds of what it gave
pub record ReadsInput (Holds : List ℕ → Type 0) (old new : Supply) (most : ℕ) : Type 0 where
  pub input : List ℕ
  pub read : ReadsWhole old new most input
  pub holds : Holds input

-- it has fewer than `most` bytes left, which are a file
pub record HasFile (old : Supply) (most : ℕ) : Type 0 where
  pub input : List ℕ
  pub left : old.left ≡ Some input
  pub few : length input < most
  pub is_file : AreFile input

-- it gave this many bytes
abbrev pub Gave : Supply → Supply → ℕ → Type 0
Gave old new count = (bytes : List ℕ) × Consumes old.left new.left bytes × (length bytes ≡ count)

-- it gave bytes and a last piece, for which memory was wanted: this holds of them
pub record WantedFor (Wants : List ℕ → List ℕ → Type 0) (old new : Supply) : Type 0 where
  pub before : List ℕ
  pub piece : List ℕ
  pub given : Consumes old.left new.left (before ++ piece)
  pub wants : Wants before piece

-- why it was not read to its end in fewer than `most` bytes
abbrev pub ReadsInVain : RunFault → Supply → Supply → ℕ → Type 0
ReadsInVain (faults.Refused refusal) old new most = (refusal.reason ≡ reasons.FileLimit) × (refusal.place ≡ most) × Gave old new most
ReadsInVain (faults.RefusedIn refusal) old new most = ⊥
ReadsInVain (faults.Read place) old new most = (new.failed ≡ true) × Gave old new place
ReadsInVain faults.Memory old new most = (count : ℕ) × (0 < count) × Gave old new count
ReadsInVain (faults.Write written) old new most = ⊥
ReadsInVain faults.HexText old new most = ⊥

-- a source that has come to fail is what the answer tells of
abbrev pub TellsReading : {T : Type 0} → Supply → Supply → Result T RunFault → Type 0
TellsReading old new result = old.failed ≡ false → new.failed ≡ true → IsErrAnd result (λ fault. (place : ℕ) × (fault ≡ faults.Read place))

-- What a reading to the end keeps to, whatever becomes of the bytes.
pub record ReadsAtMost {T : Type 0} (old new : Supply) (most : ℕ) (result : Result T RunFault) : Type 0 where
  pub err : IfErr result (λ fault. ReadsInVain fault old new most)
  pub limit : GivesAtMost old new most
  -- it has not come to fail where all was read
  pub sound : old.failed ≡ false → OnOk result (new.failed ≡ false)
  pub tells_read : TellsReading old new result
