-- What an order comes to, with `--wide` or without.
use Rattle.std.specs.Prelude.{◌≡◌, ◌⊎◌, ◌↔◌, ℕ, Bool, true, false, List, Option, Some, None, Result, IfErr, IfOk, IsErrAnd, MatchResult, OnOk, is_some}
use Rattle.std.specs.declared.io.Error.{Error}
use Rattle.hunk_words.specs.Carriers.{Outlet, Supply, Writing, saturated}
use Rattle.hunk_wide.specs.declared.spelling.Spelling.{Spelling}
use Rattle.hunk_commands.specs.Engine.{IsTextOfSome, PutsAll, PutsFirst, ReadsNoFile, StopsAtWrite}
use Rattle.hunk_commands.specs.Faults.{IsWrite}
use Rattle.hunk_commands.specs.Inputs.{HasFile, ReadsInVain, ReadsInput, TellsReading}
use Rattle.hunk_commands.specs.Output.{StopsOutput}
use Rattle.hunk_commands.specs.Rewritten.{IsRewritten}
use Rattle.hunk_commands.specs.declared.fault.RunFault.{RunFault}
use Rattle.hunk_commands.specs.declared.fault.RunFault.TheVariants.{Memory, Read}
use Rattle.hunk_commands.specs.declared.rewriting.Rewritten.{Rewritten}
use Rattle.hunk_run.specs.Inputs.{HasInput, unread}
use Rattle.hunk_run.specs.Refusals.{FromInput, IsRead, StopsInput, StopsSource}
use Rattle.hunk_run.specs.Runs.{ListsSource}
use Rattle.hunk_run.specs.Status.{TellsOutcome}
use Rattle.hunk_run.specs.Stores.{Leaves}
use Rattle.hunk_run.specs.Wide.{HasWide, IsPlain, IsSpellingOf, IsUnread, ListsWide, ReadsBytes, StopsWide, meant}
use Rattle.hunk_run.specs.declared.listing.Listing.{Listing}
use Rattle.hunk_run.specs.declared.listing.Listing.TheVariants as listings

-- ---- a listing

-- the output has taken what is printed, with this status, of the input, or of its plain spelling
abbrev pub ListsAsked : {W : Type 0} → (W → Outlet) → Bool → Bool → ℕ → Listing → Supply → Supply → Writing W → Writing W → Type 0
ListsAsked outlet hex false status listing before after old new = ListsSource outlet hex status listing before after old new
ListsAsked outlet hex true status listing before after old new = ListsWide outlet hex status listing before after old new

-- the same of the input that a reader gave, which had these bytes left
abbrev pub ListsRead : {W : Type 0} → (W → Outlet) → Bool → Bool → ℕ → Listing → Option (List ℕ) → Writing W → Writing W → Type 0
ListsRead outlet hex wide status listing left old new = (after : Supply) × ListsAsked outlet hex wide status listing (unread left) after old new

-- the same of an input of which these bytes are known
abbrev pub ListsInput : {W : Type 0} → (W → Outlet) → Bool → Bool → ℕ → Listing → Option (List ℕ) → Writing W → Writing W → Type 0
ListsInput outlet hex wide status listing known old new = (left : Option (List ℕ)) × Leaves known left × ListsRead outlet hex wide status listing left old new

-- why nothing is printed
abbrev pub StopsAsked : Bool → Bool → Listing → Supply → Supply → ℕ → RunFault → Type 0
StopsAsked hex false listing before after most fault = StopsSource hex listing before after most fault
StopsAsked hex true listing before after most fault = StopsWide hex listing before after most fault

-- an input that can be listed
abbrev pub HasAsked : Bool → Bool → Listing → Supply → ℕ → Type 0
HasAsked hex false listing before most = HasInput hex listing before most
HasAsked hex true listing before most = HasWide hex listing before most

-- ---- how the input is spelled

-- What is answered of it, with `--wide` alone: these numbers of the input that was read so, and none where it was not read.
abbrev pub TellsSpelling : {T : Type 0} → ((Supply → Supply → Type 0) → Type 0) → Bool → Bool → ℕ → Result T RunFault → Option Spelling → Type 0
TellsSpelling From hex wide most result None = wide ≡ true → IsErrAnd result IsUnread
TellsSpelling From hex wide most result (Some spelling) =
    (wide ≡ true) × From (λ before after. (input : List ℕ) × ReadsBytes hex before after most input × IsSpellingOf spelling input)

-- ---- what comes of it, by what a source has left

pub record AsksListing {W : Type 0} (outlet : W → Outlet) (hex wide : Bool) (listing : Listing) (before after : Supply) (most : ℕ) (old new : Writing W)
    (result : Result ℕ RunFault) (spelling : Option Spelling) : Type 0 where
  pub outcome : TellsOutcome outlet old new result
  pub done : IfOk result (λ status. ListsAsked outlet hex wide status listing before after old new)
  -- with such an input only memory can run out, where nothing has failed
  pub succeeds : HasAsked hex wide listing before most → after.failed ≡ false → (outlet new.sink).failed ≡ false → IfErr result (λ fault. fault ≡ Memory)
  pub tells_read : TellsReading before after result
  pub stops : IfErr result (λ fault. ¬ IsWrite fault → StopsAsked hex wide listing before after most fault)
  pub spelled : TellsSpelling (λ Holds. Holds before after) hex wide most result spelling

-- ---- what comes of it, by what is known of the input

-- What comes of listing the input of which these bytes are known, where the system tells of this cause.
pub record AnswersListing {W : Type 0} (outlet : W → Outlet) (hex wide : Bool) (listing : Listing) (known : Option (List ℕ)) (most : ℕ) (old new : Writing W)
    (result : Result ℕ RunFault) (cause : Option Error) : Type 0 where
  pub outcome : TellsOutcome outlet old new result
  pub done : IfOk result (λ status. ListsInput outlet hex wide status listing known old new)
  pub stops : IfErr result (λ fault. ¬ IsWrite fault → StopsInput known (λ before after. StopsAsked hex wide listing before after most) fault)
  pub reads : is_some cause ≡ true ↔ IsErrAnd result IsRead
  pub succeeds : HasAsked hex wide listing (unread known) most → cause ≡ None → (outlet new.sink).failed ≡ false → IfErr result (λ fault. fault ≡ Memory)

-- What is answered of its spelling: as above, or nothing of an input that is its own plain spelling.
abbrev pub TellsInput : {T : Type 0} → Option (List ℕ) → Bool → Bool → ℕ → Result T RunFault → Option Spelling → Type 0
TellsInput known hex wide most result spelling = TellsSpelling (FromInput known) hex wide most result spelling ⊎ ((spelling ≡ None) × IsPlain known)

-- ---- a file that is listed as it is

-- It ends the run: writing or reading failed, or there was no memory.
abbrev pub EndsAtOnce : RunFault → Type 0
EndsAtOnce fault = IsWrite fault ⊎ (fault ≡ Memory) ⊎ IsRead fault

-- A file that had these bytes left was listed, or writing failed, and it is its own plain spelling; or there was no memory, or reading failed, after it was opened or before.
pub record ListsFirst {W : Type 0} (outlet : W → Outlet) (listing : Listing) (left : Option (List ℕ)) (most : ℕ) (old new : Writing W) (result : Result ℕ RunFault) : Type 0 where
  pub outcome : TellsOutcome outlet old new result
  pub done : IfOk result (λ status. ListsRead outlet false true status listing left old new)
  pub ends : IfErr result EndsAtOnce
  pub stops : IfErr result (λ fault. IsRead fault → (fault ≡ Read 0) ⊎ ((after : Supply) × ReadsInVain fault (unread left) after most))
  pub is_plain : MatchResult result (λ status. IsPlain left) (λ fault. IsWrite fault → IsPlain left)

-- the same of a file of which these bytes are known, where the system tells of this cause
pub record ListsFirstOf {W : Type 0} (outlet : W → Outlet) (listing : Listing) (known : Option (List ℕ)) (most : ℕ) (old new : Writing W)
    (result : Result ℕ RunFault) (cause : Option Error) : Type 0 where
  pub left : Option (List ℕ)
  pub leaves : Leaves known left
  pub lists : ListsFirst outlet listing left most old new result
  pub reads : is_some cause ≡ true ↔ IsErrAnd result IsRead

-- ---- a rewriting

-- why nothing is written
abbrev pub StopsRewriting : Bool → Supply → Supply → ℕ → RunFault → Type 0
StopsRewriting false before after most fault = ReadsNoFile before after most fault
StopsRewriting true before after most fault = StopsWide false listings.Show before after most fault

-- an input that can be rewritten
abbrev pub HasRewriting : Bool → Supply → ℕ → Type 0
HasRewriting false before most = HasFile before most
HasRewriting true before most = HasWide false listings.Show before most

pub record AsksRewriting {W : Type 0} (outlet : W → Outlet) (strip wide : Bool) (before after : Supply) (most : ℕ) (old new : Writing W)
    (result : Result Rewritten RunFault) (spelling : Option Spelling) : Type 0 where
  -- all of the file has gone out, or of its plain spelling, and this is how many bytes that are
  pub done : IfOk result (λ done. ReadsInput (λ input. PutsAll outlet (IsRewritten strip done (meant wide input)) old new) before after most)
  pub counted : IfOk result (λ done. done.written ≡ saturated new.written)
  pub no_failure : OnOk result ((outlet new.sink).failed ≡ (outlet old.sink).failed)
  -- after a fault of writing the first bytes of it have, and after another one nothing has
  pub write : IfErr result (StopsAtWrite new.written
      (ReadsInput (λ input. PutsFirst outlet (IsTextOfSome (λ (done : Rewritten). IsRewritten strip done (meant wide input))) old new) before after most))
  pub fails : IfErr result (StopsOutput outlet old new)
  pub succeeds : HasRewriting wide before most → after.failed ≡ false → (outlet new.sink).failed ≡ false → IfErr result (λ fault. fault ≡ Memory)
  pub tells_read : TellsReading before after result
  pub stops : IfErr result (λ fault. ¬ IsWrite fault → StopsRewriting wide before after most fault)
  pub spelled : TellsSpelling (λ Holds. Holds before after) false wide most result spelling
