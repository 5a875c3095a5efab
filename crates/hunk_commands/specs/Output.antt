-- What a command does to its output, a writer that is old before it and new after it.
use Rattle.std.specs.Prelude.{◌≡◌, ℕ, true, List}
use Rattle.std.specs.Io.KnownBytes.{Appends}
use Rattle.hunk_words.specs.Carriers.{Outlet, Writing}
use Rattle.hunk_commands.specs.declared.fault.RunFault.{RunFault}
use Rattle.hunk_commands.specs.Faults.{IsWrite}

-- the output has taken this text, and nothing else
abbrev pub Takes : {W : Type 0} → (W → Outlet) → Writing W → Writing W → List ℕ → Type 0
Takes outlet old new text = Appends (outlet old.sink).taken (outlet new.sink).taken text

-- where the fault is one of writing, the output failed; at any other fault the writer is as it was
pub record StopsOutput {W : Type 0} (outlet : W → Outlet) (old new : Writing W) (fault : RunFault) : Type 0 where
  pub broken : IsWrite fault → (outlet new.sink).failed ≡ true
  pub untouched : ¬ IsWrite fault → new ≡ old
