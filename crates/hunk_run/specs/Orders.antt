-- What an order comes to: its output is a writer that is old before it and new after it, and so is the file that its store makes.
use Rattle.std.specs.Prelude.{◌≡◌, ◌⊎◌, ◌↔◌, ⊤, ℕ, Bool, false, true, List, Option, Some, None, Result, IfErr, IfOk, IsErrAnd, is_some, length, ◌-◌}
use Rattle.std.specs.declared.io.Error.{Error}
use Rattle.hunk_words.specs.Carriers.{Outlet, Writing, saturated}
use Rattle.hunk_command_line.specs.declared.asked.Order.{Order}
use Rattle.hunk_command_line.specs.declared.asked.Order.TheVariants as orders
use Rattle.hunk_commands.specs.Engine.{IsTextOfSome}
use Rattle.hunk_commands.specs.Faults.{IsWrite}
use Rattle.hunk_commands.specs.Inputs.{ReadsInput}
use Rattle.hunk_commands.specs.Output.{Takes}
use Rattle.hunk_commands.specs.Rewritten.{IsRewritten}
use Rattle.hunk_commands.specs.declared.fault.RunFault.{RunFault}
use Rattle.hunk_commands.specs.declared.fault.RunFault.TheVariants.{Memory, Write}
use Rattle.hunk_commands.specs.declared.rewriting.Rewritten.{Rewritten}
use Rattle.hunk_run.specs.Asked.{HasAsked, HasRewriting, ListsInput, StopsAsked, StopsRewriting}
use Rattle.hunk_run.specs.Inputs.{unread}
use Rattle.hunk_run.specs.Notes.{NamesFiles, left_out_note, output_of, spelled_of}
use Rattle.hunk_run.specs.Refusals.{FromInput, IsOfSystem, IsRead, StopsInput}
use Rattle.hunk_run.specs.Runs.{rewritten_lines}
use Rattle.hunk_run.specs.Stores.{MadeFile, MakesFile, MakesFirst, MakesWhole}
use Rattle.hunk_run.specs.Wide.{IsPlain, IsUnread, ReadsBytes, meant}
use Rattle.hunk_run.specs.declared.listing.Listing.TheVariants as listings
use Rattle.hunk_run.specs.declared.note.Ended.{Ended}
use Rattle.hunk_run.specs.declared.note.Note.{Note}
use Rattle.hunk_run.specs.declared.spelled.Spelled.{Spelled}
use Rattle.hunk_run.specs.declared.note.Note.TheVariants.{Fault, Output}

-- ---- a rewriting

-- OUT has taken all that is written of the input, or of its plain spelling, and this tells how many bytes these are.
pub record RewritesTo (old new : Option MadeFile) (output : List ℕ) (strip wide : Bool) (done : Rewritten) (input : List ℕ) : Type 0 where
  pub text : List ℕ
  pub is_rewritten : IsRewritten strip done (meant wide input) text
  pub told : done.written ≡ saturated (length text)
  pub makes : MakesWhole old new output text

-- OUT has taken as many of the first bytes of it.
abbrev pub RewritesFirst : Option MadeFile → Option MadeFile → List ℕ → Bool → Bool → ℕ → List ℕ → Type 0
RewritesFirst old new output strip wide written input =
    MakesFirst (IsTextOfSome (λ (done : Rewritten). IsRewritten strip done (meant wide input))) old new output written

-- That holds of an input of fewer than `most` bytes, which are these where they are known.
abbrev pub RewritesInput : Option (List ℕ) → (List ℕ → Type 0) → ℕ → Type 0
RewritesInput known Holds most = FromInput known (λ before after. ReadsInput Holds before after most)

-- What comes of writing the input of which these bytes are known to OUT, where the system tells of this cause.
pub record AnswersRewriting (first made : Option MadeFile) (known : Option (List ℕ)) (output : List ℕ) (strip wide : Bool) (most : ℕ)
    (result : Result Rewritten RunFault) (cause : Option Error) : Type 0 where
  pub rewrites : IfOk result (λ done. RewritesInput known (RewritesTo first made output strip wide done) most)
  pub write : IfErr result (λ fault. (written : ℕ) → fault ≡ Write written → RewritesInput known (RewritesFirst first made output strip wide written) most)
  pub untouched : IfErr result (λ fault. ¬ IsWrite fault → made ≡ first)
  pub stops : IfErr result (λ fault. ¬ IsWrite fault → StopsInput known (λ before after. StopsRewriting wide before after most) fault)
  pub of_system : is_some cause ≡ true ↔ IsErrAnd result IsOfSystem
  pub succeeds : HasRewriting wide (unread known) most → cause ≡ None → IfErr result (λ fault. fault ≡ Memory)

-- ---- an order, of whose input these bytes are known

-- The output has taken what is printed of a rewriting, and nothing else.
pub record Rewrites {W : Type 0} (outlet : W → Outlet) (old new : Writing W) (first made : Option MadeFile) (most : ℕ) (known : Option (List ℕ))
    (output : List ℕ) (strip wide : Bool) : Type 0 where
  pub done : Rewritten
  pub rewrites : RewritesInput known (RewritesTo first made output strip wide done) most
  pub takes : Takes outlet old new (rewritten_lines done)

-- what it asks for is done, with this status: 0, or 1 where `validate` finds something
abbrev pub IsOrderDone : {W : Type 0} → (W → Outlet) → Writing W → Writing W → Option MadeFile → Option MadeFile → ℕ → Option (List ℕ) → ℕ → Order → Type 0
IsOrderDone outlet old new first made most known status (orders.Show hex wide file) = ListsInput outlet hex wide status listings.Show known old new
IsOrderDone outlet old new first made most known status (orders.Validate hex wide file) = ListsInput outlet hex wide status listings.Validate known old new
IsOrderDone outlet old new first made most known status (orders.Relocate hex wide base budget file) = ListsInput outlet hex wide status (listings.Relocate base budget) known old new
IsOrderDone outlet old new first made most known status (orders.Rewrite strip wide input output) = (status ≡ 0) × Rewrites outlet old new first made most known output strip wide

-- Of an order that is done nothing is said, but what its rewriting has left out.
abbrev pub SaysLeftOut : {W : Type 0} → (W → Outlet) → Writing W → Writing W → Option MadeFile → Option MadeFile → ℕ → Option (List ℕ) → Order → Option Note → Type 0
SaysLeftOut outlet old new first made most known (orders.Rewrite strip wide input output) note =
    (rewrites : Rewrites outlet old new first made most known output strip wide)
    × (note ≡ left_out_note (rewrites.done.read - rewrites.done.written) rewrites.done.rest input)
SaysLeftOut outlet old new first made most known order note = note ≡ None

-- why it is not, where the fault is none of writing
abbrev pub StopsOrder : ℕ → Option (List ℕ) → Order → RunFault → Type 0
StopsOrder most known (orders.Show hex wide file) = StopsInput known (λ before after. StopsAsked hex wide listings.Show before after most)
StopsOrder most known (orders.Validate hex wide file) = StopsInput known (λ before after. StopsAsked hex wide listings.Validate before after most)
StopsOrder most known (orders.Relocate hex wide base budget file) = StopsInput known (λ before after. StopsAsked hex wide (listings.Relocate base budget) before after most)
StopsOrder most known (orders.Rewrite strip wide input output) = StopsInput known (λ before after. StopsRewriting wide before after most)

-- where it is one: what OUT has taken
abbrev pub StopsWriting : Option MadeFile → Option MadeFile → ℕ → Option (List ℕ) → Order → ℕ → Type 0
StopsWriting first made most known (orders.Rewrite strip wide input output) written = RewritesInput known (RewritesFirst first made output strip wide written) most
StopsWriting first made most known order written = ⊥

-- what a fault leaves: where it is one of reading or writing, that has failed; at any fault but one of writing no file was made
abbrev pub StopsBy : Option MadeFile → Option MadeFile → Bool → ℕ → Option (List ℕ) → Order → RunFault → Type 0
StopsBy first made failed most known order (Write written) = StopsWriting first made most known order written × (failed ≡ true)
StopsBy first made failed most known order fault = StopsOrder most known order fault × (IsRead fault → failed ≡ true) × (made ≡ first)

-- What a standard output that failed leaves: a rewriting was done before, and OUT has all, or has stopped so; a listing makes no file.
abbrev pub LeavesOut : Option MadeFile → Option MadeFile → Bool → ℕ → Option (List ℕ) → Order → Type 0
LeavesOut first made failed most known (orders.Rewrite strip wide input output) =
    ((done : Rewritten) × RewritesInput known (RewritesTo first made output strip wide done) most)
    ⊎ ((fault : RunFault) × StopsBy first made failed most known (orders.Rewrite strip wide input output) fault)
LeavesOut first made failed most known order = made ≡ first

-- The order has stopped by the fault that a note tells of, with what the system says where it is of reading or writing.
abbrev pub TellsFault : Option MadeFile → Option MadeFile → Bool → ℕ → Option (List ℕ) → Order → Option Note → Type 0
TellsFault first made failed most known order (Some (Fault fault name cause untouched wide)) =
    StopsBy first made failed most known order fault × (is_some cause ≡ true ↔ IsOfSystem fault)
TellsFault first made failed most known order (Some (Output cause)) = LeavesOut first made failed most known order
TellsFault first made failed most known order _ = ⊤

-- The note tells of a failed opening, reading or writing of a file, or standard output has failed, too.
abbrev pub TellsFailure : Option Note → Type 0
TellsFailure (Some (Fault fault name cause untouched wide)) = IsOfSystem fault
TellsFailure (Some (Output cause)) = ⊤
TellsFailure _ = ⊥

-- Nothing is made, or OUT is and nothing else.
abbrev pub MakesOut : Option MadeFile → Option MadeFile → Option Order → Type 0
MakesOut first made wanted =
    (made ≡ first)
    ⊎ ((order : Order) × (output : List ℕ) × (taken : List ℕ) × (wanted ≡ Some order) × (output_of order ≡ Some output) × MakesFile first made output taken)

-- its input is one of which it can be done
abbrev pub HasOrdered : ℕ → Option (List ℕ) → Order → Type 0
HasOrdered most known (orders.Show hex wide file) = HasAsked hex wide listings.Show (unread known) most
HasOrdered most known (orders.Validate hex wide file) = HasAsked hex wide listings.Validate (unread known) most
HasOrdered most known (orders.Relocate hex wide base budget file) = HasAsked hex wide (listings.Relocate base budget) (unread known) most
HasOrdered most known (orders.Rewrite strip wide input output) = HasRewriting wide (unread known) most

-- A fault that the note tells of is want of memory.
abbrev pub LacksMemory : Option Note → Type 0
LacksMemory (Some (Fault fault name cause untouched wide)) = fault ≡ Memory
LacksMemory _ = ⊤

-- ---- how its input is spelled

-- The input was not read, as the note tells, or a standard output that failed leaves open.
abbrev pub TellsUnread : Option Note → Type 0
TellsUnread (Some (Fault fault name cause untouched wide)) = IsUnread fault
TellsUnread (Some (Output cause)) = ⊤
TellsUnread _ = ⊥

-- Nothing is said of it without `--wide`, nor where it was not read, or is its own plain spelling; else it is by its name, where it is spelled otherwise.
abbrev pub SaysInput : Bool → Bool → ℕ → Option (List ℕ) → Option (List ℕ) → Type 0 → Option Spelled → Type 0
SaysInput hex wide most known name Unread said =
    ((said ≡ None) × (wide ≡ true → Unread))
    ⊎ ((wide ≡ true) × FromInput known (λ before after. (input : List ℕ) × ReadsBytes hex before after most input × (said ≡ spelled_of name input)))
    ⊎ ((said ≡ None) × IsPlain known)

abbrev pub SaysSpelled : ℕ → Option (List ℕ) → Order → Type 0 → Option Spelled → Type 0
SaysSpelled most known (orders.Show hex wide file) Unread said = SaysInput hex wide most known file Unread said
SaysSpelled most known (orders.Validate hex wide file) Unread said = SaysInput hex wide most known file Unread said
SaysSpelled most known (orders.Relocate hex wide base budget file) Unread said = SaysInput hex wide most known file Unread said
SaysSpelled most known (orders.Rewrite strip wide input output) Unread said = SaysInput false wide most known (Some input) Unread said

-- ---- how a run ends

-- The run has this order: where the status is 0 it is done, and what it has left out is said; without a note it is done with this status. The note names its files, and
-- says why it is not done. `failing` and `failed` tell whether opening, reading or writing a file has failed before the run, and after it.
pub record EndsOrder {W : Type 0} (outlet : W → Outlet) (old new : Writing W) (first made : Option MadeFile) (failing failed : Bool) (most : ℕ) (known : Option (List ℕ))
    (order : Order) (ended : Ended) : Type 0 where
  pub done : ended.status ≡ 0 → IsOrderDone outlet old new first made most known 0 order
  pub found : ended.note ≡ None → IsOrderDone outlet old new first made most known ended.status order
  pub left_out : ended.status ≡ 0 → SaysLeftOut outlet old new first made most known order ended.note
  pub names : NamesFiles order ended.note
  pub spelled : SaysSpelled most known order (TellsUnread ended.note) ended.spelled
  pub stops : TellsFault first made failed most known order ended.note
  pub told : failing ≡ false → failed ≡ true → TellsFailure ended.note
  pub succeeds : HasOrdered most known order → (outlet old.sink).failed ≡ false → failed ≡ false → LacksMemory ended.note
