-- Which fault a run tells of, and which file it makes.
use Rattle.std.proofs.Common.{◌≡◌, ◌∙◌, ◌⊎◌, ◌-◌, ◌||◌, ℕ, Bool, false, true, true≢false, List, Option, Some, None, inl, inr, ap, refl, subst, sym}
use Rattle.std.specs.Prelude.{◌↔◌, Result, Ok, Err, IfErr, IfOk, IsErrAnd, is_some}
use Rattle.std.specs.declared.io.Error.{Error}
use Rattle.hunk_words.specs.Carriers.{Outlet, Writing}
use Rattle.hunk_command_line.specs.Asked.{RefusesOrder}
use Rattle.hunk_command_line.specs.declared.asked.Order.{Order}
use Rattle.hunk_command_line.specs.declared.asked.Order.TheVariants as orders
use Rattle.hunk_command_line.specs.declared.asked.OrderFault.{OrderFault}
use Rattle.hunk_command_line.specs.declared.asked.OrderFault.TheVariants as faults
use Rattle.hunk_commands.specs.Faults.{IsWrite}
use Rattle.hunk_commands.specs.Output.{StopsOutput}
use Rattle.hunk_commands.specs.declared.fault.RunFault.{RunFault}
use Rattle.hunk_commands.specs.declared.fault.RunFault.TheVariants.{HexText, Memory, Read, Refused, RefusedIn, Write}
use Rattle.hunk_commands.specs.declared.rewriting.Rewritten.{Rewritten}
use Rattle.hunk_wide.specs.Spellings.{short_blocks_of}
use Rattle.hunk_wide.specs.declared.spelling.Spelling.{Spelling}
use Rattle.hunk_run.specs.Asked.{TellsInput, TellsSpelling}
use Rattle.hunk_run.specs.Notes.{EndsByFault, EndsListing, EndsOrFails, EndsRewriting, NamesFiles, ended_with, fault_ended, input_of, is_wide, output_of, refusal_ended, refusal_text, rewritten_ended, spelled_of, spelled_so, spelled_told}
use Rattle.hunk_run.specs.Orders.{AnswersRewriting, EndsOrder, HasOrdered, IsOrderDone, LacksMemory, LeavesOut, MakesOut, RewritesFirst, RewritesInput, RewritesTo, SaysInput, SaysLeftOut, SaysSpelled, StopsBy, StopsOrder, TellsFailure, TellsFault, TellsUnread}
use Rattle.hunk_run.specs.Refusals.{FromInput, IsOfSystem, IsRead, failed_at_files, failed_reading}
use Rattle.hunk_run.specs.Stores.{MadeFile, MakesAtMost, MakesFile}
use Rattle.hunk_run.specs.Wide.{IsUnread}
use Rattle.hunk_run.specs.declared.note.Ended.{Ended}
use Rattle.hunk_run.specs.declared.note.Note.{Note}
use Rattle.hunk_run.specs.declared.note.Note.TheVariants.{Fault}
use Rattle.hunk_run.specs.declared.spelled.Spelled.{Spelled}
use Rattle.hunk_run.specs.Status.{TellsOutcome}
use Rattle.hunk_run.proofs.Noting.{done_where, found_rewriting, found_where, listing_done, names_listing, names_rewriting, noted_ended, noted_memory, of_left_out, rewriting_fault, says_left_out, unordered}

-- ---- whether a file has failed

or_true : (failing : Bool) → (failing || true) ≡ true
or_true true = refl
or_true false = refl

-- a fault of reading says so
pub fails_reading : (failing failed : Bool) (answer : Result ℕ RunFault) → failed ≡ (failing || failed_reading answer) → IfErr answer (λ fault. IsRead fault → failed ≡ true)
fails_reading failing failed (Ok status) is = tt
fails_reading failing failed (Err fault) is = λ (place, read).
    is ∙ subst (λ (f : RunFault). (failing || failed_reading {T = ℕ} (Err f)) ≡ true) (sym read) (or_true failing)

pub fails_at_files : (failing failed : Bool) (answer : Result Rewritten RunFault) → failed ≡ (failing || failed_at_files answer) → IfErr answer (λ fault. IsOfSystem fault → failed ≡ true)
fails_at_files failing failed (Ok done) is = tt
fails_at_files failing failed (Err (Read place)) is = λ system. is ∙ or_true failing
fails_at_files failing failed (Err (Write written)) is = λ system. is ∙ or_true failing
fails_at_files failing failed (Err Memory) is = λ system. absurd (elim system [ inl read ↦ cc read.1 | inr write ↦ write ])
fails_at_files failing failed (Err HexText) is = λ system. absurd (elim system [ inl read ↦ cc read.1 | inr write ↦ write ])
fails_at_files failing failed (Err (Refused refusal)) is = λ system. absurd (elim system [ inl read ↦ cc read.1 | inr write ↦ write ])
fails_at_files failing failed (Err (RefusedIn refusal)) is = λ system. absurd (elim system [ inl read ↦ cc read.1 | inr write ↦ write ])

-- where none has failed the system says nothing
pub no_cause : {T : Type 0} (Is : RunFault → Type 0) (failed : Bool) (cause : Option Error) (answer : Result T RunFault) → (is_some cause ≡ true → IsErrAnd answer Is) →
    IfErr answer (λ fault. Is fault → failed ≡ true) → failed ≡ false → cause ≡ None
no_cause Is failed None answer told fails works = refl
no_cause Is failed (Some error) (Ok value) told fails works = absurd (told refl)
no_cause Is failed (Some error) (Err fault) told fails works = absurd (true≢false (sym (fails (told refl)) ∙ works))

module _ (first made : Option MadeFile) (failed : Bool) (most : ℕ) (known : Option (List ℕ)) where
  -- memory may always run out
  memory_stops : (order : Order) → StopsOrder most known order Memory
  memory_stops (orders.Show hex wide file) = inl refl
  memory_stops (orders.Validate hex wide file) = inl refl
  memory_stops (orders.Relocate hex wide base budget file) = inl refl
  memory_stops (orders.Rewrite strip wide input output) = inl refl

  -- a fault that is none of writing
  stopped : (order : Order) (fault : RunFault) → ¬ IsWrite fault → StopsOrder most known order fault → (IsRead fault → failed ≡ true) → made ≡ first →
      StopsBy first made failed most known order fault
  stopped order Memory other stops reads same = (stops, reads, same)
  stopped order HexText other stops reads same = (stops, reads, same)
  stopped order (Read place) other stops reads same = (stops, reads, same)
  stopped order (Refused refusal) other stops reads same = (stops, reads, same)
  stopped order (RefusedIn refusal) other stops reads same = (stops, reads, same)
  stopped order (Write written) other stops reads same = absurd (other tt)

  -- standard output fails then
  leaves_stopped : (order : Order) (fault : RunFault) → StopsBy first made failed most known order fault → made ≡ first → LeavesOut first made failed most known order
  leaves_stopped (orders.Show hex wide file) fault stops same = same
  leaves_stopped (orders.Validate hex wide file) fault stops same = same
  leaves_stopped (orders.Relocate hex wide base budget file) fault stops same = same
  leaves_stopped (orders.Rewrite strip wide input output) fault stops same = inr (fault, stops)

  -- or while an input is listed
  leaves_listed : (order : Order) → output_of order ≡ None → made ≡ first → LeavesOut first made failed most known order
  leaves_listed (orders.Show hex wide file) none same = same
  leaves_listed (orders.Validate hex wide file) none same = same
  leaves_listed (orders.Relocate hex wide base budget file) none same = same
  leaves_listed (orders.Rewrite strip wide input output) none same = absurd (cc none)

  no_system : (order : Order) → is_some {T = Error} None ≡ true ↔ IsOfSystem Memory
  no_system order = (λ some. absurd (true≢false (sym some)), λ system. absurd (elim system [ inl read ↦ cc read.1 | inr write ↦ write ]))

  memory_by : (order : Order) → made ≡ first → StopsBy first made failed most known order Memory
  memory_by order same = stopped order Memory (λ is. is) (memory_stops order) (λ read. absurd (cc read.1)) same

  pub memory_told : (order : Order) → made ≡ first → TellsFault first made failed most known order (Some (Fault Memory None None None false))
  memory_told order same = (memory_by order same, no_system order)

  pub memory_leaves : (order : Order) → made ≡ first → LeavesOut first made failed most known order
  memory_leaves order same = leaves_stopped order Memory (memory_by order same) same

  module _ {W : Type 0} (outlet : W → Outlet) (old new : Writing W) (order : Order) (cause : Option Error) (wide : Bool) (result : Ended) where
    abbrev pub Tells : Type 0
    Tells = TellsFault first made failed most known order result.note

    tells : (fault : RunFault) (name untouched : Option (List ℕ)) → ¬ IsWrite fault → EndsByFault outlet old new fault name cause untouched wide result →
        StopsOrder most known order fault → is_some cause ≡ true ↔ IsOfSystem fault → (IsRead fault → failed ≡ true) → made ≡ first → Tells
    tells fault name untouched other ends stops of_system reads same =
        let by = stopped order fault other stops reads same in
        noted_ended outlet old new (TellsFault first made failed most known order) _ (fault_ended fault name cause untouched wide) result ends
        (by, of_system) (leaves_stopped order fault by same)

    read_or_write : (fault : RunFault) → ¬ IsWrite fault → is_some cause ≡ true ↔ IsRead fault → is_some cause ≡ true ↔ IsOfSystem fault
    read_or_write fault other reads = (λ some. inl (reads.0 some), λ system. elim system [ inl read ↦ reads.1 read | inr write ↦ absurd (other write) ])

    by_listing : (fault : RunFault) (name : Option (List ℕ)) → ¬ IsWrite fault → EndsByFault outlet old new fault name cause None wide result →
        (¬ IsWrite fault → StopsOrder most known order fault) → is_some cause ≡ true ↔ IsRead fault → (IsRead fault → failed ≡ true) → made ≡ first → Tells
    by_listing fault name other ends stops reads fails same = tells fault name None other ends (stops other) (read_or_write fault other reads) fails same

    pub tells_listing : (answer : Result ℕ RunFault) (name : Option (List ℕ)) → EndsListing outlet old new answer name cause wide result →
        IfErr answer (λ fault. ¬ IsWrite fault → StopsOrder most known order fault) → is_some cause ≡ true ↔ IsErrAnd answer IsRead →
        IfErr answer (λ fault. IsRead fault → failed ≡ true) → output_of order ≡ None → made ≡ first → Tells
    tells_listing (Ok status) name (is, kept) stops reads fails none same = subst (λ (e : Ended). TellsFault first made failed most known order e.note) (sym is) tt
    tells_listing (Err (Write written)) name (is, kept) stops reads fails none same =
        subst (λ (e : Ended). TellsFault first made failed most known order e.note) (sym is) (leaves_listed order none same)
    tells_listing (Err Memory) name ends stops reads fails none same = by_listing Memory name (λ is. is) ends stops reads fails same
    tells_listing (Err HexText) name ends stops reads fails none same = by_listing HexText name (λ is. is) ends stops reads fails same
    tells_listing (Err (Read place)) name ends stops reads fails none same = by_listing (Read place) name (λ is. is) ends stops reads fails same
    tells_listing (Err (Refused refusal)) name ends stops reads fails none same = by_listing (Refused refusal) name (λ is. is) ends stops reads fails same
    tells_listing (Err (RefusedIn refusal)) name ends stops reads fails none same = by_listing (RefusedIn refusal) name (λ is. is) ends stops reads fails same

  -- a rewriting
  module _ {W : Type 0} (outlet : W → Outlet) (old new : Writing W) (strip wide : Bool) (input output : List ℕ) (cause : Option Error) (result : Ended) where
    abbrev Own : Order
    Own = orders.Rewrite strip wide input output

    by_other : (fault : RunFault) → ¬ IsWrite fault → EndsByFault outlet old new fault (Some input) cause (Some output) wide result →
        (¬ IsWrite fault → made ≡ first) → (¬ IsWrite fault → StopsOrder most known Own fault) → is_some cause ≡ true ↔ IsOfSystem fault →
        (IsOfSystem fault → failed ≡ true) → TellsFault first made failed most known Own result.note
    by_other fault other ends same stops of_system fails =
        tells outlet old new Own cause wide result fault (Some input) (Some output) other ends (stops other) of_system (λ read. fails (inl read)) (same other)

    pub tells_rewriting : (answer : Result Rewritten RunFault) → EndsRewriting outlet old new answer input output cause wide result →
        AnswersRewriting first made known output strip wide most answer cause → IfErr answer (λ fault. IsOfSystem fault → failed ≡ true) →
        TellsFault first made failed most known Own result.note
    tells_rewriting (Ok done) ends answers fails =
        noted_ended outlet old new (TellsFault first made failed most known Own) _ (rewritten_ended done input) result ends
        (of_left_out (TellsFault first made failed most known Own) (done.read - done.written) done.rest input tt (λ s r. tt)) (inl (done, answers.rewrites))
    tells_rewriting (Err (Write written)) ends answers fails =
        let by : StopsBy first made failed most known Own (Write written) = (answers.write written refl, fails (inr tt)) in
        noted_ended outlet old new (TellsFault first made failed most known Own) _ (fault_ended (Write written) (Some output) cause None wide) result ends
        (by, answers.of_system) (inr (Write written, by))
    tells_rewriting (Err Memory) ends answers fails = by_other Memory (λ is. is) ends answers.untouched answers.stops answers.of_system fails
    tells_rewriting (Err HexText) ends answers fails = by_other HexText (λ is. is) ends answers.untouched answers.stops answers.of_system fails
    tells_rewriting (Err (Read place)) ends answers fails = by_other (Read place) (λ is. is) ends answers.untouched answers.stops answers.of_system fails
    tells_rewriting (Err (Refused refusal)) ends answers fails = by_other (Refused refusal) (λ is. is) ends answers.untouched answers.stops answers.of_system fails
    tells_rewriting (Err (RefusedIn refusal)) ends answers fails = by_other (RefusedIn refusal) (λ is. is) ends answers.untouched answers.stops answers.of_system fails

-- ---- a failure is told

module _ {W : Type 0} (outlet : W → Outlet) (old new : Writing W) (cause : Option Error) (wide : Bool) (result : Ended) (failing failed : Bool) where
  unfailed : failed ≡ (failing || false) → failing ≡ false → failed ≡ true → ⊥
  unfailed is sound broken = true≢false (sym broken ∙ is ∙ ap (λ (b : Bool). b || false) sound)

  pub told_listing : (answer : Result ℕ RunFault) (name : Option (List ℕ)) → EndsListing outlet old new answer name cause wide result →
      failed ≡ (failing || failed_reading answer) → failing ≡ false → failed ≡ true → TellsFailure result.note
  told_listing (Err (Read place)) name ends is sound broken =
      noted_ended outlet old new TellsFailure _ (fault_ended (Read place) name cause None wide) result ends (inl (place, refl)) tt
  told_listing (Ok status) name ends is sound broken = absurd (unfailed is sound broken)
  told_listing (Err (Write written)) name ends is sound broken = absurd (unfailed is sound broken)
  told_listing (Err Memory) name ends is sound broken = absurd (unfailed is sound broken)
  told_listing (Err HexText) name ends is sound broken = absurd (unfailed is sound broken)
  told_listing (Err (Refused refusal)) name ends is sound broken = absurd (unfailed is sound broken)
  told_listing (Err (RefusedIn refusal)) name ends is sound broken = absurd (unfailed is sound broken)

  pub told_rewriting : (answer : Result Rewritten RunFault) (input output : List ℕ) → EndsRewriting outlet old new answer input output cause wide result →
      failed ≡ (failing || failed_at_files answer) → failing ≡ false → failed ≡ true → TellsFailure result.note
  told_rewriting (Err (Read place)) input output ends is sound broken =
      noted_ended outlet old new TellsFailure _ (fault_ended (Read place) (Some input) cause (Some output) wide) result ends (inl (place, refl)) tt
  told_rewriting (Err (Write written)) input output ends is sound broken =
      noted_ended outlet old new TellsFailure _ (fault_ended (Write written) (Some output) cause None wide) result ends (inr tt) tt
  told_rewriting (Ok done) input output ends is sound broken = absurd (unfailed is sound broken)
  told_rewriting (Err Memory) input output ends is sound broken = absurd (unfailed is sound broken)
  told_rewriting (Err HexText) input output ends is sound broken = absurd (unfailed is sound broken)
  told_rewriting (Err (Refused refusal)) input output ends is sound broken = absurd (unfailed is sound broken)
  told_rewriting (Err (RefusedIn refusal)) input output ends is sound broken = absurd (unfailed is sound broken)

-- the file that a rewriting makes
module _ (first made : Option MadeFile) (most : ℕ) (known : Option (List ℕ)) (strip wide : Bool) (output : List ℕ) where
  abbrev pub Out : Type 0
  Out = (made ≡ first) ⊎ ((taken : List ℕ) × MakesFile first made output taken)

  at_most : (taken : List ℕ) → MakesAtMost first made output taken → Out
  at_most taken (inl (same, empty)) = inl same
  at_most taken (inr makes) = inr (taken, makes)

  made_by : (answer : Result Rewritten RunFault) → IfOk answer (λ done. RewritesInput known (RewritesTo first made output strip wide done) most) →
      IfErr answer (λ fault. (written : ℕ) → fault ≡ Write written → RewritesInput known (RewritesFirst first made output strip wide written) most) →
      IfErr answer (λ fault. ¬ IsWrite fault → made ≡ first) → Out
  made_by (Ok done) (left, leaves, (after, reads)) writes same = inr (reads.holds.text, reads.holds.makes.makes)
  made_by (Err (Write written)) rewrites writes same = let (left, leaves, (after, reads)) = writes written refl in at_most _ reads.holds.makes
  made_by (Err Memory) rewrites writes same = inl (same (λ is. is))
  made_by (Err HexText) rewrites writes same = inl (same (λ is. is))
  made_by (Err (Read place)) rewrites writes same = inl (same (λ is. is))
  made_by (Err (Refused refusal)) rewrites writes same = inl (same (λ is. is))
  made_by (Err (RefusedIn refusal)) rewrites writes same = inl (same (λ is. is))

  pub makes_out : (wanted : Option Order) (input : List ℕ) (answer : Result Rewritten RunFault) → wanted ≡ Some (orders.Rewrite strip wide input output) →
      IfOk answer (λ done. RewritesInput known (RewritesTo first made output strip wide done) most) →
      IfErr answer (λ fault. (written : ℕ) → fault ≡ Write written → RewritesInput known (RewritesFirst first made output strip wide written) most) →
      IfErr answer (λ fault. ¬ IsWrite fault → made ≡ first) → MakesOut first made wanted
  makes_out wanted input answer is rewrites writes same =
      elim (made_by answer rewrites writes same) [
        | inl none ↦ inl none
        | inr it ↦ inr (orders.Rewrite strip wide input output, output, it.0, is, refl, it.1)
      ]

-- ---- where nothing fails

module _ {W : Type 0} (outlet : W → Outlet) (old mid new : Writing W) (cause : Option Error) (wide : Bool) (result : Ended) (sound : (outlet old.sink).failed ≡ false)
    (quiet : cause ≡ None) where
  -- the output is mid after what was listed
  lacks_since : (fault : RunFault) (name : Option (List ℕ)) → ¬ IsWrite fault → StopsOutput outlet old mid fault →
      (cause ≡ None → (outlet mid.sink).failed ≡ false → fault ≡ Memory) → EndsByFault outlet mid new fault name cause None wide result → LacksMemory result.note
  lacks_since fault name other stops memory ends =
      noted_ended outlet mid new LacksMemory _ (fault_ended fault name cause None wide) result ends
      (memory quiet (ap (λ (w : Writing W). (outlet w.sink).failed) (stops.untouched other) ∙ sound)) tt

  pub lacks_listing : (answer : Result ℕ RunFault) (name : Option (List ℕ)) → TellsOutcome outlet old mid answer →
      (cause ≡ None → (outlet mid.sink).failed ≡ false → IfErr answer (λ fault. fault ≡ Memory)) → EndsListing outlet mid new answer name cause wide result → LacksMemory result.note
  lacks_listing (Ok status) name outcome memory (is, kept) = subst (λ (e : Ended). LacksMemory e.note) (sym is) tt
  lacks_listing (Err (Write written)) name outcome memory (is, kept) = subst (λ (e : Ended). LacksMemory e.note) (sym is) tt
  lacks_listing (Err Memory) name outcome memory ends = lacks_since Memory name (λ is. is) outcome.fails memory ends
  lacks_listing (Err HexText) name outcome memory ends = lacks_since HexText name (λ is. is) outcome.fails memory ends
  lacks_listing (Err (Read place)) name outcome memory ends = lacks_since (Read place) name (λ is. is) outcome.fails memory ends
  lacks_listing (Err (Refused refusal)) name outcome memory ends = lacks_since (Refused refusal) name (λ is. is) outcome.fails memory ends
  lacks_listing (Err (RefusedIn refusal)) name outcome memory ends = lacks_since (RefusedIn refusal) name (λ is. is) outcome.fails memory ends

module _ {W : Type 0} (outlet : W → Outlet) (old new : Writing W) (input output : List ℕ) (cause : Option Error) (wide : Bool) (result : Ended) where
  pub lacks_rewriting : (answer : Result Rewritten RunFault) → IfErr answer (λ fault. fault ≡ Memory) →
      EndsRewriting outlet old new answer input output cause wide result → LacksMemory result.note
  lacks_rewriting (Ok done) memory ends =
      noted_ended outlet old new LacksMemory _ (rewritten_ended done input) result ends (of_left_out LacksMemory (done.read - done.written) done.rest input tt (λ s r. tt)) tt
  lacks_rewriting (Err fault) memory ends =
      let (name, untouched, by, names) = rewriting_fault outlet old new true wide fault input output cause result ends in
      noted_ended outlet old new LacksMemory _ (fault_ended fault name cause untouched wide) result by memory tt

-- ---- how the input is spelled

module _ (most : ℕ) (known : Option (List ℕ)) where
  -- what is said where something else tells that the input was not read
  as_input : (hex wide : Bool) (name : Option (List ℕ)) (Was Is : Type 0) (said : Option Spelled) → (Was → Is) →
      SaysInput hex wide most known name Was said → SaysInput hex wide most known name Is said
  as_input hex wide name Was Is said then (inl (none, unread)) = inl (none, λ flag. then (unread flag))
  as_input hex wide name Was Is said then (inr says) = inr says

  pub says_as : (order : Order) (Was Is : Type 0) (said : Option Spelled) → (Was → Is) → SaysSpelled most known order Was said → SaysSpelled most known order Is said
  says_as (orders.Show hex wide file) Was Is said then says = as_input hex wide file Was Is said then says
  says_as (orders.Validate hex wide file) Was Is said then says = as_input hex wide file Was Is said then says
  says_as (orders.Relocate hex wide base budget file) Was Is said then says = as_input hex wide file Was Is said then says
  says_as (orders.Rewrite strip wide input output) Was Is said then says = as_input false wide (Some input) Was Is said then says

  pub unsaid : (order : Order) (Is : Type 0) (said : Option Spelled) → said ≡ None → Is → SaysSpelled most known order Is said
  unsaid (orders.Show hex wide file) Is said none unread = inl (none, λ flag. unread)
  unsaid (orders.Validate hex wide file) Is said none unread = inl (none, λ flag. unread)
  unsaid (orders.Relocate hex wide base budget file) Is said none unread = inl (none, λ flag. unread)
  unsaid (orders.Rewrite strip wide input output) Is said none unread = inl (none, λ flag. unread)

  -- what is said of an input of which this is told
  said_of_told : {T : Type 0} (hex wide : Bool) (name own : Option (List ℕ)) (answer : Result T RunFault) (spelling : Option Spelling) → (wide ≡ true → own ≡ name) →
      TellsSpelling (FromInput known) hex wide most answer spelling → SaysInput hex wide most known name (IsErrAnd answer IsUnread) (spelled_told own spelling)
  said_of_told hex wide name own answer None named tells = inl (refl, tells)
  said_of_told hex wide name own answer (Some spelling) named (flag, (left, leaves, (after, (input, read, (blocks, ends))))) =
      inr (inl (
        flag,
        (
          left,
          leaves,
          (
            after,
            (
              input,
              read,
              subst (λ (n : Option (List ℕ)). spelled_so own spelling.short_blocks spelling.ends ≡ spelled_of n input) (named flag)
                  (subst (λ (b : ℕ). spelled_so own b spelling.ends ≡ spelled_of own input) (sym blocks)
                  (subst (λ (e : ℕ). spelled_so own (short_blocks_of input) e ≡ spelled_of own input) (sym ends) refl)),
            ),
          ),
        ),
      ))

  pub said_of_input : {T : Type 0} (hex wide : Bool) (name own : Option (List ℕ)) (answer : Result T RunFault) (spelling : Option Spelling) → (wide ≡ true → own ≡ name) →
      TellsInput known hex wide most answer spelling → SaysInput hex wide most known name (IsErrAnd answer IsUnread) (spelled_told own spelling)
  said_of_input hex wide name own answer spelling named (inl tells) = said_of_told hex wide name own answer spelling named tells
  said_of_input hex wide name own answer spelling named (inr (none, plain)) = inr (inr (ap (λ (s : Option Spelling). spelled_told own s) none, plain))

module _ {W : Type 0} (outlet : W → Outlet) (old new : Writing W) where
  none_refused : (fault : OrderFault) → (refusal_ended fault).spelled ≡ None
  none_refused (faults.Line why) = refl
  none_refused faults.NotText = refl
  none_refused (faults.Help text) = refl
  none_refused faults.Version = refl
  none_refused faults.Memory = refl

  -- words that are refused have no input
  pub none_said : (fault : OrderFault) (result : Ended) → EndsOrFails outlet old new (refusal_text fault) (refusal_ended fault) result → result.spelled ≡ None
  none_said fault result (inl (is, takes)) = ap (λ (e : Ended). e.spelled) is ∙ none_refused fault
  none_said fault result (inr (is, broken)) = ap (λ (e : Ended). e.spelled) is

  -- an input that was not read: the note tells of it
  pub unread_listing : (name : Option (List ℕ)) (cause : Option Error) (wide : Bool) (result : Ended) (answer : Result ℕ RunFault) →
      EndsListing outlet old new answer name cause wide result → IsErrAnd answer IsUnread → TellsUnread result.note
  unread_listing name cause wide result (Ok status) ends unread = absurd unread
  unread_listing name cause wide result (Err (Write written)) ends unread = absurd unread
  unread_listing name cause wide result (Err (RefusedIn refusal)) ends unread = absurd unread
  unread_listing name cause wide result (Err Memory) ends unread = noted_ended outlet old new TellsUnread _ (fault_ended Memory name cause None wide) result ends tt tt
  unread_listing name cause wide result (Err HexText) ends unread = noted_ended outlet old new TellsUnread _ (fault_ended HexText name cause None wide) result ends tt tt
  unread_listing name cause wide result (Err (Read place)) ends unread = noted_ended outlet old new TellsUnread _ (fault_ended (Read place) name cause None wide) result ends tt tt
  unread_listing name cause wide result (Err (Refused refusal)) ends unread = noted_ended outlet old new TellsUnread _ (fault_ended (Refused refusal) name cause None wide) result ends unread tt

  pub unread_rewriting : (strip wide : Bool) (answer : Result Rewritten RunFault) (input output : List ℕ) (cause : Option Error) (result : Ended) →
      EndsRewriting outlet old new answer input output cause wide result → IsErrAnd answer IsUnread → TellsUnread result.note
  unread_rewriting strip wide (Ok done) input output cause result ends unread = absurd unread
  unread_rewriting strip wide (Err fault) input output cause result ends unread =
      let (name, untouched, by, names) = rewriting_fault outlet old new strip wide fault input output cause result ends in
      noted_ended outlet old new TellsUnread _ (fault_ended fault name cause untouched wide) result by unread tt

-- ---- how a run ends that has an order

-- what is known of the order where its input, of this name, was listed
abbrev pub ListsOrder : {W : Type 0} → (W → Outlet) → Writing W → Writing W → Option MadeFile → ℕ → Option (List ℕ) → Order → Result ℕ RunFault → Option (List ℕ) → Option Error → Type 0
ListsOrder outlet old mid first most known order answer name cause =
    (name ≡ input_of order)
    × IfOk answer (λ status. IsOrderDone outlet old mid first first most known status order)
    × IfErr answer (λ fault. ¬ IsWrite fault → StopsOrder most known order fault)
    × (HasOrdered most known order → cause ≡ None → (outlet mid.sink).failed ≡ false → IfErr answer (λ fault. fault ≡ Memory))

-- it was to list an input; the output is mid after what was listed
pub listing_ends : {W : Type 0} (outlet : W → Outlet) (old mid new : Writing W) (first : Option MadeFile) (failing failed : Bool) (most : ℕ) (known : Option (List ℕ)) (order : Order)
    (answer : Result ℕ RunFault) (name : Option (List ℕ)) (cause : Option Error) (wide : Bool) (result : Ended) (said : Option Spelled) → TellsOutcome outlet old mid answer →
    EndsListing outlet mid new answer name cause wide result → is_some cause ≡ true ↔ IsErrAnd answer IsRead → failed ≡ (failing || failed_reading answer) →
    output_of order ≡ None → wide ≡ is_wide order →
    SaysLeftOut outlet old new first first most known order None → ListsOrder outlet old mid first most known order answer name cause →
    SaysSpelled most known order (IsErrAnd answer IsUnread) said → EndsOrder outlet old new first first failing failed most known order (ended_with said result)
listing_ends outlet old mid new first failing failed most known order answer name cause wide result said outcome ends reads fails none flag unsaid (named, done, stops, memory) says =
    let broken = fails_reading failing failed answer fails in
    record {
      done = λ zero. done_where outlet old mid new name cause wide result (λ status (w : Writing _). IsOrderDone outlet old w first first most known status order) answer done ends zero;
      found = λ quiet. found_where outlet old mid new name cause wide result (λ status (w : Writing _). IsOrderDone outlet old w first first most known status order) answer done ends quiet;
      left_out = λ zero.
          let (ok, same, quiet) = listing_done outlet mid mid new name cause wide result answer ends zero in
          subst (λ (note : Option Note). SaysLeftOut outlet old new first first most known order note) (sym quiet) unsaid;
      names = names_listing outlet old mid new name cause wide result order answer ends named none flag;
      spelled = says_as most known order (IsErrAnd answer IsUnread) (TellsUnread result.note) said (unread_listing outlet mid new name cause wide result answer ends) says;
      stops = tells_listing first first failed most known outlet mid new order cause wide result answer name ends stops reads broken none refl;
      told = told_listing outlet mid new cause wide result failing failed answer name ends fails;
      succeeds = λ has sound works.
          lacks_listing outlet old mid new cause wide result sound (no_cause IsRead failed cause answer reads.0 broken works) answer name outcome (memory has) ends;
    }

-- it was to rewrite a file
pub rewriting_ends : {W : Type 0} (outlet : W → Outlet) (old new : Writing W) (first made : Option MadeFile) (failing failed : Bool) (most : ℕ) (known : Option (List ℕ)) (strip wide : Bool)
    (answer : Result Rewritten RunFault) (input output : List ℕ) (cause : Option Error) (result : Ended) (said : Option Spelled) → EndsRewriting outlet old new answer input output cause wide result →
    AnswersRewriting first made known output strip wide most answer cause → failed ≡ (failing || failed_at_files answer) →
    SaysSpelled most known (orders.Rewrite strip wide input output) (IsErrAnd answer IsUnread) said →
    EndsOrder outlet old new first made failing failed most known (orders.Rewrite strip wide input output) (ended_with said result)
rewriting_ends outlet old new first made failing failed most known strip wide answer input output cause result said ends answers fails says =
    let broken = fails_at_files failing failed answer fails in
    record {
      done = λ zero. (refl, (says_left_out outlet old new first made most known strip wide answer input output cause result answers.rewrites ends zero).0);
      found = λ quiet. found_rewriting outlet old new first made most known strip wide answer input output cause result answers.rewrites ends quiet;
      left_out = says_left_out outlet old new first made most known strip wide answer input output cause result answers.rewrites ends;
      names = names_rewriting outlet old new strip wide answer input output cause result ends;
      spelled = says_as most known (orders.Rewrite strip wide input output) (IsErrAnd answer IsUnread) (TellsUnread result.note) said
          (unread_rewriting outlet old new strip wide answer input output cause result ends) says;
      stops = tells_rewriting first made failed most known outlet old new strip wide input output cause result answer ends answers broken;
      told = told_rewriting outlet old new cause wide result failing failed answer input output ends fails;
      succeeds = λ has sound works.
          lacks_rewriting outlet old new input output cause wide result answer (answers.succeeds has (no_cause IsOfSystem failed cause answer answers.of_system.0 broken works)) ends;
    }

-- the words were refused, for want of memory
pub refusal_ends : {W : Type 0} (outlet : W → Outlet) (old new : Writing W) (first : Option MadeFile) (failing : Bool) (most : ℕ) (known : Option (List ℕ)) (wanted : Option Order)
    (order : Order) (fault : OrderFault) (result : Ended) → RefusesOrder wanted fault → wanted ≡ Some order →
    EndsOrFails outlet old new (refusal_text fault) (refusal_ended fault) result → EndsOrder outlet old new first first failing failing most known order result
refusal_ends outlet old new first failing most known wanted order fault result refuses is ends = record {
  done = λ zero. absurd (unordered outlet old new wanted order fault result refuses is ends zero);
  found = noted_memory outlet old new (λ (note : Option Note). note ≡ None → IsOrderDone outlet old new first first most known result.status order) wanted order fault result refuses is ends
      (λ none. absurd (cc none)) (λ none. absurd (cc none));
  left_out = λ zero. absurd (unordered outlet old new wanted order fault result refuses is ends zero);
  names = noted_memory outlet old new (NamesFiles order) wanted order fault result refuses is ends tt tt;
  spelled = unsaid most known order (TellsUnread result.note) result.spelled (none_said outlet old new fault result ends)
      (noted_memory outlet old new TellsUnread wanted order fault result refuses is ends tt tt);
  stops = noted_memory outlet old new (TellsFault first first failing most known order) wanted order fault result refuses is ends
      (memory_told first first failing most known order refl) (memory_leaves first first failing most known order refl);
  told = λ sound broken. absurd (true≢false (sym broken ∙ sound));
  succeeds = λ has sound works. noted_memory outlet old new LacksMemory wanted order fault result refuses is ends refl tt;
}
