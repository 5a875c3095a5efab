-- What the exit status of a run tells of its output, a writer that is old before it and new after it.
use Rattle.std.specs.Prelude.{◌≡◌, ◌⊎◌, ◌≤◌, ℕ, true, List, [], ◌∷◌, ◌++◌, Result, IfErr, IfOk}
use Rattle.hunk_words.specs.Carriers.{Outlet, Writing}
use Rattle.hunk_command_line.specs.FaultTexts.{refused_line}
use Rattle.hunk_commands.specs.declared.fault.RunFault.{RunFault}
use Rattle.hunk_commands.specs.Faults.{line_of, status_of}
use Rattle.hunk_commands.specs.Output.{StopsOutput, Takes}
use Rattle.hunk_commands.specs.Validated.{IsFound}

-- the line with its end, LF
abbrev pub with_newline : List ℕ → List ℕ
with_newline line = line ++ 10 ∷ []

-- the output has taken this text and the status is this one, or the output failed and the status is 3
abbrev pub PrintsOrFails : {W : Type 0} → (W → Outlet) → Writing W → Writing W → List ℕ → ℕ → ℕ → Type 0
PrintsOrFails outlet old new text status result =
    ((result ≡ status) × Takes outlet old new text) ⊎ ((result ≡ 3) × ((outlet new.sink).failed ≡ true))

-- the status is 0, or the output has taken a report of findings and the status is 1
abbrev pub TellsFindings : {W : Type 0} → (W → Outlet) → Writing W → Writing W → ℕ → Type 0
TellsFindings outlet old new status =
    (status ≡ 0) ⊎ ((bytes : List ℕ) × (text : List ℕ) × (status ≡ 1) × IsFound bytes text × Takes outlet old new text)

-- the status is 0, or the output has taken one line that says why it is not, or the output failed, or the output has taken a report of findings and the status is 1
abbrev pub TellsStatus : {W : Type 0} → (W → Outlet) → Writing W → Writing W → ℕ → Type 0
TellsStatus outlet old new status =
    (status ≡ 0)
    ⊎ ((status ≡ 2) × Takes outlet old new (with_newline (refused_line)))
    ⊎ ((fault : RunFault) × (status ≡ status_of fault) × Takes outlet old new (with_newline (line_of fault)))
    ⊎ ((status ≡ 3) × ((outlet new.sink).failed ≡ true))
    ⊎ ((bytes : List ℕ) × (text : List ℕ) × (status ≡ 1) × IsFound bytes text × Takes outlet old new text)

-- a status tells of the output, and at a fault nothing was written, or the output failed
pub record TellsOutcome {W : Type 0} (outlet : W → Outlet) (old new : Writing W) (result : Result ℕ RunFault) : Type 0 where
  pub bound : IfOk result (λ status. status ≤ 4)
  pub tells : IfOk result (TellsFindings outlet old new)
  pub fails : IfErr result (StopsOutput outlet old new)
