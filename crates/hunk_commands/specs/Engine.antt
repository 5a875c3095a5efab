-- What an engine function puts of bytes, or of a source. Its output is a writer that is old before it and new after it.
use Rattle.std.specs.Prelude.{◌≡◌, ◌⊎◌, ℕ, ◌+◌, false, List, Result, IfErr, IfOk, OnOk, length}
use Rattle.hunk_words.specs.Carriers.{Outlet, Supply, Writing, saturated}
use Rattle.hunk_words.specs.Puts.{Puts}
use Rattle.hunk_files.specs.HunkFile.{AreFile}
use Rattle.hunk_scatter.specs.LoadOutcomes.{GivesAtMost}
use Rattle.hunk_commands.specs.declared.fault.RunFault.{RunFault}
use Rattle.hunk_commands.specs.declared.fault.RunFault.TheVariants.{Memory, Write}
use Rattle.hunk_commands.specs.Faults.{IsWrite}
use Rattle.hunk_commands.specs.Inputs.{HasFile, ReadsInVain, ReadsInput, TellsReading}
use Rattle.hunk_commands.specs.Output.{StopsOutput}
use Rattle.hunk_commands.specs.Refusals.{RefusesBytes}

-- ---- of bytes

-- The text is such a one, and as many of its first bytes have gone out as the writer counted.
pub record PutsFirst {W : Type 0} (outlet : W → Outlet) (IsText : List ℕ → Type 0) (old new : Writing W) : Type 0 where
  pub text : List ℕ
  pub is_text : IsText text
  pub puts : Puts (outlet old.sink).taken (outlet new.sink).taken old.written new.written text

-- all of the text has gone out
abbrev pub PutsAll : {W : Type 0} → (W → Outlet) → (List ℕ → Type 0) → Writing W → Writing W → Type 0
PutsAll outlet IsText old new = (puts : PutsFirst outlet IsText old new) × (new.written ≡ old.written + length puts.text)

-- the text of some value
abbrev pub IsTextOfSome : {T : Type 0} → (T → List ℕ → Type 0) → List ℕ → Type 0
IsTextOfSome {T} IsTextOf text = (value : T) × IsTextOf value text

-- A fault of writing says how many bytes were written in all, and this holds.
abbrev pub StopsAtWrite : ℕ → Type 0 → RunFault → Type 0
StopsAtWrite count Holds fault = (written : ℕ) → fault ≡ Write written → (written ≡ saturated count) × Holds

-- What `show_bytes`, `validate_bytes` and `rewrite_bytes` come to: they put the text of the value that they answer.
pub record PutsOrRefuses {W T : Type 0} (outlet : W → Outlet) (IsTextOf : T → List ℕ → Type 0) (bytes : List ℕ)
    (old new : Writing W) (result : Result T RunFault) : Type 0 where
  -- all of the text has gone out, and no write has failed
  pub done : IfOk result (λ value. PutsAll outlet (IsTextOf value) old new)
  pub no_failure : OnOk result ((outlet new.sink).failed ≡ (outlet old.sink).failed)
  -- after a fault of writing the first bytes of a text have, and after another one nothing has
  pub write : IfErr result (StopsAtWrite new.written (PutsFirst outlet (IsTextOfSome IsTextOf) old new))
  pub fails : IfErr result (StopsOutput outlet old new)
  pub refused : IfErr result (λ fault. ¬ IsWrite fault → RefusesBytes fault bytes)
  -- of a file, only writing can fail
  pub succeeds : AreFile bytes → IfErr result IsWrite

-- ---- of a source that is read to its end, in fewer than `most` bytes

-- why nothing was put: it was not read to its end, or what it gave is no file
abbrev pub ReadsNoFile : Supply → Supply → ℕ → RunFault → Type 0
ReadsNoFile before after most fault = ReadsInVain fault before after most ⊎ ReadsInput (RefusesBytes fault) before after most

-- What `show`, `validate` and `rewrite` come to: they put the text that the value they answer has of the input.
pub record ReadsThenPuts {W T : Type 0} (outlet : W → Outlet) (IsTextOf : T → List ℕ → List ℕ → Type 0) (before after : Supply) (most : ℕ)
    (old new : Writing W) (result : Result T RunFault) : Type 0 where
  -- all of the text has gone out, and no write has failed
  pub done : IfOk result (λ value. ReadsInput (λ input. PutsAll outlet (IsTextOf value input) old new) before after most)
  pub no_failure : OnOk result ((outlet new.sink).failed ≡ (outlet old.sink).failed)
  -- after a fault of writing the first bytes of a text have, and after another one nothing has
  pub write : IfErr result (StopsAtWrite new.written
      (ReadsInput (λ input. PutsFirst outlet (IsTextOfSome (λ value. IsTextOf value input)) old new) before after most))
  pub fails : IfErr result (StopsOutput outlet old new)
  pub refused : IfErr result (λ fault. ¬ IsWrite fault → ReadsNoFile before after most fault)
  pub limit : GivesAtMost before after most
  pub tells_read : TellsReading before after result
  -- of a file, where neither the source nor the output fails, only memory can run out
  pub succeeds : HasFile before most → after.failed ≡ false → (outlet new.sink).failed ≡ false → IfErr result (λ fault. fault ≡ Memory)
