-- Longwords that a reader of load files has read.
use Rattle.std.specs.Prelude.{◌≡◌, ℕ, List, None}
use Rattle.std.specs.List.{AllByRecursion}
use Rattle.hunk_words.specs.Longs.{IsLong}
use Rattle.hunk_grammar.specs.Roles.{Role, refuse}
use Rattle.hunk_blocks.specs.Faults.{words}
use Rattle.hunk_files.specs.FileSteps.{AtFirst, Next, More, Leads}

-- longwords with their roles
abbrev pub Labelled : Type 0
Labelled = List (Role × ℕ)

-- a longword that its role lets pass
abbrev pub IsAccepted : Role × ℕ → Type 0
IsAccepted l = IsLong l.1 × (refuse l.0 l.1 ≡ None)

abbrev pub AreAccepted : Labelled → Type 0
AreAccepted ls = AllByRecursion IsAccepted ls

-- These longwords were read, none was refused, and they lead here.
pub record HasRead (ws : List ℕ) (n : Next) : Type 0 where
  pub done : Labelled
  pub leads : Leads (More AtFirst) done n
  pub accepted : AreAccepted done
  pub all : words done ≡ ws
