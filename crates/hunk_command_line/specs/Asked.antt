-- What is answered to the words of a command line.
use Rattle.std.specs.Prelude.{◌≡◌, ◌⊎◌, ⊤, ℕ, List, [], ◌∷◌, Option, Some, None, Result, IfErr, IfOk, IsErrAnd, OnOk}
use Rattle.std.specs.String.{string_bytes}
use Rattle.clap.specs.Words.{Text}
use Rattle.clap.specs.Kinds.{IsAmong}
use Rattle.clap.specs.Faults.{fault_of}
use Rattle.clap.specs.declared.error.kind.ErrorKind.TheVariants.{DisplayHelp, DisplayVersion}
use Rattle.hunk_command_line.specs.Command.{hunkinfo}
use Rattle.hunk_command_line.specs.declared.asked.Order.{Order}
use Rattle.hunk_command_line.specs.declared.asked.OrderFault.{OrderFault}
use Rattle.hunk_command_line.specs.declared.asked.OrderFault.TheVariants.{Help, Line, Memory, Version}

abbrev pub IsHelp : OrderFault → Type 0
IsHelp (Help text) = ⊤
IsHelp _ = ⊥

-- the line is refused, and this says why
abbrev pub IsLineOf : List ℕ → OrderFault → Type 0
IsLineOf why (Line text) = string_bytes text ≡ why
IsLineOf why _ = ⊥

abbrev pub IsLine : OrderFault → Type 0
IsLine (Line text) = ⊤
IsLine _ = ⊥

-- It is so, or memory ran out.
abbrev pub IsMemoryOr : (OrderFault → Type 0) → OrderFault → Type 0
IsMemoryOr Is fault = (fault ≡ Memory) ⊎ Is fault

-- There is no order and the line is refused, or memory ran out.
abbrev pub RefusesOrder : Option Order → OrderFault → Type 0
RefusesOrder wanted fault = (fault ≡ Memory) ⊎ (IsLine fault × (wanted ≡ None))

-- The order is answered, or it is refused so.
pub record AnswersOrder (wanted : Option Order) (result : Result Order OrderFault) : Type 0 where
  pub ok : IfOk result (λ order. wanted ≡ Some order)
  pub err : IfErr result (RefusesOrder wanted)

-- What is answered follows the faults that clap finds in the words.
pub record FollowsClap {T : Type 0} (words : List Text) (result : Result T OrderFault) : Type 0 where
  -- an answer means that there is no fault
  pub clean : OnOk result (fault_of hunkinfo words ≡ [])
  -- help is answered only where it is among them
  pub asked : IfErr result (λ fault. IsHelp fault → IsAmong DisplayHelp (fault_of hunkinfo words))
  -- where it is the only one, help is answered, or memory ran out
  pub help : fault_of hunkinfo words ≡ DisplayHelp ∷ [] → IsErrAnd result (IsMemoryOr IsHelp)
  -- and so the version
  pub versioned : IfErr result (λ fault. fault ≡ Version → IsAmong DisplayVersion (fault_of hunkinfo words))
  pub version : fault_of hunkinfo words ≡ DisplayVersion ∷ [] → IsErrAnd result (IsMemoryOr (λ fault. fault ≡ Version))
