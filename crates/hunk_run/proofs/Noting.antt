-- What a run says, by how it ends.
use Rattle.std.proofs.Common.{◌≡◌, ◌<◌, ◌≤◌, ◌-◌, ◌∙◌, ℕ, zero, suc, Bool, false, List, Option, Some, None, inl, inr, refl, ap, sym, subst, arith}
use Rattle.std.specs.Prelude.{Result, Ok, Err, IfOk}
use Rattle.std.specs.declared.io.Error.{Error}
use Rattle.hunk_words.specs.Carriers.{Outlet, Writing}
use Rattle.hunk_command_line.specs.Asked.{IsHelp, IsLine, RefusesOrder}
use Rattle.hunk_command_line.specs.FaultTexts.{refused_line}
use Rattle.hunk_command_line.specs.declared.asked.Order.{Order}
use Rattle.hunk_command_line.specs.declared.asked.Order.TheVariants as orders
use Rattle.hunk_command_line.specs.declared.asked.OrderFault.{OrderFault}
use Rattle.hunk_command_line.specs.declared.asked.OrderFault.TheVariants as words
use Rattle.hunk_commands.specs.declared.fault.RunFault.{RunFault}
use Rattle.hunk_commands.specs.declared.fault.RunFault.TheVariants.{HexText, Memory, Read, Refused, RefusedIn, Write}
use Rattle.hunk_commands.specs.declared.rewriting.Rewritten.{Rewritten}
use Rattle.hunk_commands.specs.Faults.{status_of}
use Rattle.hunk_commands.specs.Output.{Takes}
use Rattle.hunk_run.specs.declared.note.Ended.{Ended}
use Rattle.hunk_run.specs.declared.note.Note.{Note}
use Rattle.hunk_run.specs.declared.note.Note.TheVariants.{Fault, LeftOut, Line, NotText, Output}
use Rattle.hunk_run.specs.Notes.{EndsByFault, EndsListing, EndsOrFails, EndsRewriting, NamesFiles, Notes, fault_ended, input_of, is_wide, output_of, left_out_note, refusal_ended, refusal_text, rewritten_ended}
use Rattle.hunk_run.specs.Orders.{IsOrderDone, RewritesInput, RewritesTo, SaysLeftOut}
use Rattle.hunk_run.specs.Stores.{MadeFile}
use Rattle.hunk_run.specs.Runs.{PrintsNoHelp}
use Rattle.hunk_run.specs.Status.{PrintsOrFails, TellsFindings, TellsOutcome, TellsStatus, with_newline}

-- what the status tells, where the note goes with it
pub tells_noted : {W : Type 0} (outlet : W → Outlet) (old new : Writing W) (status : ℕ) (note : Option Note) →
    Notes outlet old new status note → TellsStatus outlet old new status
tells_noted outlet old new status None (inl done) = inl done
tells_noted outlet old new status None (inr found) = inr (inr (inr (inr found)))
tells_noted outlet old new status (Some (Line why)) notes = inr (inl notes)
tells_noted outlet old new status (Some NotText) notes = inr (inl notes)
tells_noted outlet old new status (Some (Fault fault name cause untouched wide)) (is, takes) = inr (inr (inl (fault, is, takes)))
tells_noted outlet old new status (Some (Output cause)) notes = inr (inr (inr (inl notes)))
tells_noted outlet old new status (Some (LeftOut name stripped rest)) notes = inl notes

-- a fault has no status of a run that has done what it was to do, and none is above 4
fault_status : (fault : RunFault) → (0 < status_of fault) × (status_of fault ≤ 4)
fault_status Memory = (omega arith, omega arith)
fault_status HexText = (omega arith, omega arith)
fault_status (Read place) = (omega arith, omega arith)
fault_status (Write written) = (omega arith, omega arith)
fault_status (Refused refusal) = (omega arith, omega arith)
fault_status (RefusedIn refusal) = (omega arith, omega arith)

pub bound_noted : {W : Type 0} (outlet : W → Outlet) (old new : Writing W) (status : ℕ) (note : Option Note) →
    Notes outlet old new status note → status ≤ 4
bound_noted outlet old new status None (inl done) = omega (arith, done)
bound_noted outlet old new status None (inr (bytes, text, is, found, takes)) = omega (arith, is)
bound_noted outlet old new status (Some (Line why)) (is, takes) = omega (arith, is)
bound_noted outlet old new status (Some NotText) (is, takes) = omega (arith, is)
bound_noted outlet old new status (Some (Fault fault name cause untouched wide)) (is, takes) = omega (arith, (fault_status fault).1, is)
bound_noted outlet old new status (Some (Output cause)) (is, broken) = omega (arith, is)
bound_noted outlet old new status (Some (LeftOut name stripped rest)) is = omega (arith, is)

-- what holds of each note of what was left out
pub of_left_out : (Holds : Option Note → Type 0) (stripped rest : ℕ) (name : List ℕ) → Holds None → ((s r : ℕ) → Holds (Some (LeftOut name s r))) →
    Holds (left_out_note stripped rest name)
of_left_out Holds zero zero name none some = none
of_left_out Holds zero (suc more) name none some = some zero (suc more)
of_left_out Holds (suc more) rest name none some = some (suc more) rest

module _ {W : Type 0} (outlet : W → Outlet) (old new : Writing W) where
  -- a text that is printed where the run ends so
  pub notes_ended : (text : List ℕ) (ended result : Ended) → EndsOrFails outlet old new text ended result →
      (Takes outlet old new text → Notes outlet old new ended.status ended.note) → Notes outlet old new result.status result.note
  notes_ended text ended result (inl (is, takes)) notes = subst (λ (e : Ended). Notes outlet old new e.status e.note) (sym is) (notes takes)
  notes_ended text ended result (inr (is, broken)) notes = subst (λ (e : Ended). Notes outlet old new e.status e.note) (sym is) (refl, broken)

  pub prints_ended : (text : List ℕ) (ended result : Ended) → EndsOrFails outlet old new text ended result →
      PrintsOrFails outlet old new text ended.status result.status
  prints_ended text ended result (inl (is, takes)) = inl (ap (λ (e : Ended). e.status) is, takes)
  prints_ended text ended result (inr (is, broken)) = inr (ap (λ (e : Ended). e.status) is, broken)

  pub notes_fault : (fault : RunFault) (name : Option (List ℕ)) (cause : Option Error) (untouched : Option (List ℕ)) (wide : Bool) (result : Ended) →
      EndsByFault outlet old new fault name cause untouched wide result → Notes outlet old new result.status result.note
  notes_fault fault name cause untouched wide result ends = notes_ended _ (fault_ended fault name cause untouched wide) result ends (λ takes. (refl, takes))

  -- a fault that is none of the output
  pub ends_listing : (fault : RunFault) (name : Option (List ℕ)) (cause : Option Error) (wide : Bool) (result : Ended) →
      ((written : ℕ) → fault ≡ Write written → ⊥) → EndsByFault outlet old new fault name cause None wide result → EndsListing outlet old new (Err fault) name cause wide result
  ends_listing Memory name cause wide result other ends = ends
  ends_listing HexText name cause wide result other ends = ends
  ends_listing (Read place) name cause wide result other ends = ends
  ends_listing (Refused refusal) name cause wide result other ends = ends
  ends_listing (RefusedIn refusal) name cause wide result other ends = ends
  ends_listing (Write written) name cause wide result other ends = absurd (other written refl)

  some_ended : (text : List ℕ) (ended result : Ended) → EndsOrFails outlet old new text ended result → 0 < ended.status → result.status ≡ 0 → ⊥
  some_ended text ended result (inl (is, takes)) some none = let same = ap (λ (e : Ended). e.status) is in omega (arith, some, same, none)
  some_ended text ended result (inr (is, broken)) some none = let same = ap (λ (e : Ended). e.status) is in omega (arith, same, none)

  pub not_done : (fault : RunFault) (name : Option (List ℕ)) (cause : Option Error) (untouched : Option (List ℕ)) (wide : Bool) (result : Ended) →
      EndsByFault outlet old new fault name cause untouched wide result → result.status ≡ 0 → ⊥
  not_done fault name cause untouched wide result ends = some_ended _ (fault_ended fault name cause untouched wide) result ends (fault_status fault).0

  -- words that are no order
  pub notes_refusal : (fault : OrderFault) (result : Ended) → EndsOrFails outlet old new (refusal_text fault) (refusal_ended fault) result →
      Notes outlet old new result.status result.note
  notes_refusal (words.Line why) result ends = notes_ended _ (refusal_ended (words.Line why)) result ends (λ takes. (refl, takes))
  notes_refusal words.NotText result ends = notes_ended _ (refusal_ended words.NotText) result ends (λ takes. (refl, takes))
  notes_refusal (words.Help text) result ends = notes_ended _ (refusal_ended (words.Help text)) result ends (λ takes. inl refl)
  notes_refusal words.Version result ends = notes_ended _ (refusal_ended words.Version) result ends (λ takes. inl refl)
  notes_refusal words.Memory result ends = notes_ended _ (refusal_ended words.Memory) result ends (λ takes. (refl, takes))

  pub unheard : (fault : OrderFault) (result : Ended) → EndsOrFails outlet old new (refusal_text fault) (refusal_ended fault) result →
      (IsHelp fault → ⊥) → (fault ≡ words.Version → ⊥) → result.status ≡ 0 → ⊥
  unheard (words.Line why) result ends no_help no_version none = some_ended _ (refusal_ended (words.Line why)) result ends (omega arith) none
  unheard words.NotText result ends no_help no_version none = some_ended _ (refusal_ended words.NotText) result ends (omega arith) none
  unheard (words.Help text) result ends no_help no_version none = no_help tt
  unheard words.Version result ends no_help no_version none = no_version refl
  unheard words.Memory result ends no_help no_version none = some_ended _ (refusal_ended words.Memory) result ends (omega arith) none

  -- where there is an order memory ran out
  memory_where : (wanted : Option Order) (order : Order) (fault : OrderFault) → RefusesOrder wanted fault → wanted ≡ Some order → fault ≡ words.Memory
  memory_where wanted order fault (inl memory) some = memory
  memory_where wanted order fault (inr (is, none)) some = cc

  pub unordered : (wanted : Option Order) (order : Order) (fault : OrderFault) (result : Ended) → RefusesOrder wanted fault → wanted ≡ Some order →
      EndsOrFails outlet old new (refusal_text fault) (refusal_ended fault) result → result.status ≡ 0 → ⊥
  unordered wanted order fault result refuses some ends none =
      some_ended _ (refusal_ended words.Memory) result
      (subst (λ (f : OrderFault). EndsOrFails outlet old new (refusal_text f) (refusal_ended f) result) (memory_where wanted order fault refuses some) ends) (omega arith) none

  pub noted_ended : (Holds : Option Note → Type 0) (text : List ℕ) (ended result : Ended) → EndsOrFails outlet old new text ended result →
      Holds ended.note → Holds (Some (Output None)) → Holds result.note
  noted_ended Holds text ended result (inl (is, takes)) holds failed = subst (λ (e : Ended). Holds e.note) (sym is) holds
  noted_ended Holds text ended result (inr (is, broken)) holds failed = subst (λ (e : Ended). Holds e.note) (sym is) failed

  pub noted_memory : (Holds : Option Note → Type 0) (wanted : Option Order) (order : Order) (fault : OrderFault) (result : Ended) → RefusesOrder wanted fault →
      wanted ≡ Some order → EndsOrFails outlet old new (refusal_text fault) (refusal_ended fault) result →
      Holds (Some (Fault Memory None None None false)) → Holds (Some (Output None)) → Holds result.note
  noted_memory Holds wanted order fault result refuses some ends memory failed =
      noted_ended Holds _ (refusal_ended words.Memory) result
      (subst (λ (f : OrderFault). EndsOrFails outlet old new (refusal_text f) (refusal_ended f) result) (memory_where wanted order fault refuses some) ends) memory failed

  -- of a fault something is said
  pub said_of_fault : (fault : RunFault) (name : Option (List ℕ)) (cause : Option Error) (untouched : Option (List ℕ)) (wide : Bool) (result : Ended) →
      EndsByFault outlet old new fault name cause untouched wide result → result.note ≡ None → ⊥
  said_of_fault fault name cause untouched wide result ends quiet =
      noted_ended (λ (note : Option Note). note ≡ None → ⊥) _ (fault_ended fault name cause untouched wide) result ends (λ none. cc none) (λ none. cc none) quiet

  -- no help is printed
  prints_line : (fault : OrderFault) (result : Ended) → IsLine fault → EndsOrFails outlet old new (refusal_text fault) (refusal_ended fault) result →
      PrintsOrFails outlet old new (with_newline refused_line) 2 result.status
  prints_line (words.Line why) result is ends = prints_ended _ (refusal_ended (words.Line why)) result ends
  prints_line words.NotText result is ends = absurd is
  prints_line (words.Help text) result is ends = absurd is
  prints_line words.Version result is ends = absurd is
  prints_line words.Memory result is ends = absurd is

  pub prints_no_help : (wanted : Option Order) (fault : OrderFault) (result : Ended) → RefusesOrder wanted fault →
      EndsOrFails outlet old new (refusal_text fault) (refusal_ended fault) result → PrintsNoHelp outlet old new result.status
  prints_no_help wanted fault result (inl memory) ends =
      inr (prints_ended _ (refusal_ended words.Memory) result
      (subst (λ (f : OrderFault). EndsOrFails outlet old new (refusal_text f) (refusal_ended f) result) memory ends))
  prints_no_help wanted fault result (inr (is, none)) ends = inl (prints_line fault result is ends)

  -- a fault of a file of this name
  pub names_fault : (order : Order) (fault : RunFault) (name : Option (List ℕ)) (cause : Option Error) (untouched : Option (List ℕ)) (wide : Bool) (result : Ended) →
      EndsByFault outlet old new fault name cause untouched wide result → NamesFiles order (Some (Fault fault name cause untouched wide)) → NamesFiles order result.note
  names_fault order fault name cause untouched wide result ends names = noted_ended (NamesFiles order) _ (fault_ended fault name cause untouched wide) result ends names tt

  -- a run that was to rewrite a file: whose name is said, and which file was not touched
  pub rewriting_fault : (strip wide : Bool) (fault : RunFault) (input output : List ℕ) (cause : Option Error) (result : Ended) →
      EndsRewriting outlet old new (Err fault) input output cause wide result →
      (name : Option (List ℕ)) × (untouched : Option (List ℕ)) × EndsByFault outlet old new fault name cause untouched wide result
      × NamesFiles (orders.Rewrite strip wide input output) (Some (Fault fault name cause untouched wide))
  rewriting_fault strip wide (Write written) input output cause result ends = (Some output, None, ends, (refl, refl, refl))
  rewriting_fault strip wide Memory input output cause result ends = (Some input, Some output, ends, refl)
  rewriting_fault strip wide HexText input output cause result ends = (Some input, Some output, ends, (refl, refl, refl))
  rewriting_fault strip wide (Read place) input output cause result ends = (Some input, Some output, ends, (refl, refl, refl))
  rewriting_fault strip wide (Refused refusal) input output cause result ends = (Some input, Some output, ends, (refl, refl, refl))
  rewriting_fault strip wide (RefusedIn refusal) input output cause result ends = (Some input, Some output, ends, (refl, refl, refl))

  pub names_rewriting : (strip wide : Bool) (answer : Result Rewritten RunFault) (input output : List ℕ) (cause : Option Error) (result : Ended) →
      EndsRewriting outlet old new answer input output cause wide result → NamesFiles (orders.Rewrite strip wide input output) result.note
  names_rewriting strip wide (Ok done) input output cause result ends =
      noted_ended (NamesFiles (orders.Rewrite strip wide input output)) _ (rewritten_ended done input) result ends
      (of_left_out (NamesFiles (orders.Rewrite strip wide input output)) (done.read - done.written) done.rest input tt (λ s r. refl)) tt
  names_rewriting strip wide (Err fault) input output cause result ends =
      let (name, untouched, by, names) = rewriting_fault strip wide fault input output cause result ends in
      names_fault (orders.Rewrite strip wide input output) fault name cause untouched wide result by names

  pub notes_rewriting : (wide : Bool) (answer : Result Rewritten RunFault) (input output : List ℕ) (cause : Option Error) (result : Ended) →
      EndsRewriting outlet old new answer input output cause wide result → Notes outlet old new result.status result.note
  notes_rewriting wide (Ok done) input output cause result ends =
      notes_ended _ (rewritten_ended done input) result ends (λ takes. of_left_out (Notes outlet old new 0) (done.read - done.written) done.rest input (inl refl) (λ s r. refl))
  notes_rewriting wide (Err fault) input output cause result ends =
      let (name, untouched, by, names) = rewriting_fault false wide fault input output cause result ends in notes_fault fault name cause untouched wide result by

  -- where the status is 0 the file is rewritten, and what was left out is said
  pub says_left_out : (first made : Option MadeFile) (most : ℕ) (known : Option (List ℕ)) (strip wide : Bool) (answer : Result Rewritten RunFault) (input output : List ℕ)
      (cause : Option Error) (result : Ended) → IfOk answer (λ done. RewritesInput known (RewritesTo first made output strip wide done) most) →
      EndsRewriting outlet old new answer input output cause wide result → result.status ≡ 0 →
      SaysLeftOut outlet old new first made most known (orders.Rewrite strip wide input output) result.note
  says_left_out first made most known strip wide (Ok done) input output cause result rewrites (inl (is, takes)) none =
      (record { done = done; rewrites = rewrites; takes = takes }, ap (λ (e : Ended). e.note) is)
  says_left_out first made most known strip wide (Ok done) input output cause result rewrites (inr (is, broken)) none =
      absurd (let same = ap (λ (e : Ended). e.status) is in omega (arith, same, none))
  says_left_out first made most known strip wide (Err fault) input output cause result rewrites ends none =
      let (name, untouched, by, names) = rewriting_fault strip wide fault input output cause result ends in absurd (not_done fault name cause untouched wide result by none)

  -- where nothing is said it is, too
  pub found_rewriting : (first made : Option MadeFile) (most : ℕ) (known : Option (List ℕ)) (strip wide : Bool) (answer : Result Rewritten RunFault) (input output : List ℕ)
      (cause : Option Error) (result : Ended) → IfOk answer (λ done. RewritesInput known (RewritesTo first made output strip wide done) most) →
      EndsRewriting outlet old new answer input output cause wide result → result.note ≡ None →
      IsOrderDone outlet old new first made most known result.status (orders.Rewrite strip wide input output)
  found_rewriting first made most known strip wide (Ok done) input output cause result rewrites (inl (is, takes)) quiet =
      (ap (λ (e : Ended). e.status) is, record { done = done; rewrites = rewrites; takes = takes })
  found_rewriting first made most known strip wide (Ok done) input output cause result rewrites (inr (is, broken)) quiet =
      absurd (cc (sym (ap (λ (e : Ended). e.note) is) ∙ quiet))
  found_rewriting first made most known strip wide (Err fault) input output cause result rewrites ends quiet =
      let (name, untouched, by, names) = rewriting_fault strip wide fault input output cause result ends in absurd (said_of_fault fault name cause untouched wide result by quiet)

-- a run that was to list an input; the output is mid after what was listed
module _ {W : Type 0} (outlet : W → Outlet) (old mid new : Writing W) (name : Option (List ℕ)) (cause : Option Error) (wide : Bool) (result : Ended) where
  notes_since : (fault : RunFault) → mid ≡ old → EndsByFault outlet mid new fault name cause None wide result → Notes outlet old new result.status result.note
  notes_since fault same ends =
      subst (λ (w : Writing W). Notes outlet w new result.status result.note) same (notes_fault outlet mid new fault name cause None wide result ends)

  pub notes_listing : (answer : Result ℕ RunFault) → TellsOutcome outlet old mid answer → EndsListing outlet mid new answer name cause wide result →
      Notes outlet old new result.status result.note
  notes_listing (Ok status) outcome (is, same) =
      subst (λ (e : Ended). Notes outlet old new e.status e.note) (sym is)
      (subst (λ (w : Writing W). TellsFindings outlet old w status) (sym same) outcome.tells)
  notes_listing (Err (Write written)) outcome (is, same) =
      subst (λ (e : Ended). Notes outlet old new e.status e.note) (sym is)
      (refl, ap (λ (w : Writing W). (outlet w.sink).failed) same ∙ outcome.fails.broken tt)
  notes_listing (Err Memory) outcome ends = notes_since Memory (outcome.fails.untouched (λ is. is)) ends
  notes_listing (Err HexText) outcome ends = notes_since HexText (outcome.fails.untouched (λ is. is)) ends
  notes_listing (Err (Read place)) outcome ends = notes_since (Read place) (outcome.fails.untouched (λ is. is)) ends
  notes_listing (Err (Refused refusal)) outcome ends = notes_since (Refused refusal) (outcome.fails.untouched (λ is. is)) ends
  notes_listing (Err (RefusedIn refusal)) outcome ends = notes_since (RefusedIn refusal) (outcome.fails.untouched (λ is. is)) ends

  -- where the status is 0 no more was printed, and nothing is said
  pub listing_done : (answer : Result ℕ RunFault) → EndsListing outlet mid new answer name cause wide result → result.status ≡ 0 →
      (answer ≡ Ok 0) × (new ≡ mid) × (result.note ≡ None)
  listing_done (Ok status) (is, same) none = (ap Ok (sym (ap (λ (e : Ended). e.status) is) ∙ none), same, ap (λ (e : Ended). e.note) is)
  listing_done (Err (Write written)) (is, same) none = absurd (let status = ap (λ (e : Ended). e.status) is in omega (arith, status, none))
  listing_done (Err Memory) ends none = absurd (not_done outlet mid new Memory name cause None wide result ends none)
  listing_done (Err HexText) ends none = absurd (not_done outlet mid new HexText name cause None wide result ends none)
  listing_done (Err (Read place)) ends none = absurd (not_done outlet mid new (Read place) name cause None wide result ends none)
  listing_done (Err (Refused refusal)) ends none = absurd (not_done outlet mid new (Refused refusal) name cause None wide result ends none)
  listing_done (Err (RefusedIn refusal)) ends none = absurd (not_done outlet mid new (RefusedIn refusal) name cause None wide result ends none)

  pub done_where : (Done : ℕ → Writing W → Type 0) (answer : Result ℕ RunFault) → IfOk answer (λ status. Done status mid) →
      EndsListing outlet mid new answer name cause wide result → result.status ≡ 0 → Done 0 new
  done_where Done answer is ends none =
      let (done, same, quiet) = listing_done answer ends none in
      subst (Done 0) (sym same) (subst (λ (a : Result ℕ RunFault). IfOk a (λ status. Done status mid)) done is)

  -- where nothing is said no more was printed
  pub found_where : (Done : ℕ → Writing W → Type 0) (answer : Result ℕ RunFault) → IfOk answer (λ status. Done status mid) →
      EndsListing outlet mid new answer name cause wide result → result.note ≡ None → Done result.status new
  found_where Done (Ok status) done (is, same) quiet =
      subst (λ (e : Ended). Done e.status new) (sym is) (subst (Done status) (sym same) done)
  found_where Done (Err (Write written)) done (is, same) quiet = absurd (cc (sym (ap (λ (e : Ended). e.note) is) ∙ quiet))
  found_where Done (Err Memory) done ends quiet = absurd (said_of_fault outlet mid new Memory name cause None wide result ends quiet)
  found_where Done (Err HexText) done ends quiet = absurd (said_of_fault outlet mid new HexText name cause None wide result ends quiet)
  found_where Done (Err (Read place)) done ends quiet = absurd (said_of_fault outlet mid new (Read place) name cause None wide result ends quiet)
  found_where Done (Err (Refused refusal)) done ends quiet = absurd (said_of_fault outlet mid new (Refused refusal) name cause None wide result ends quiet)
  found_where Done (Err (RefusedIn refusal)) done ends quiet = absurd (said_of_fault outlet mid new (RefusedIn refusal) name cause None wide result ends quiet)

  -- a fault is one of the input
  pub names_listing : (order : Order) (answer : Result ℕ RunFault) → EndsListing outlet mid new answer name cause wide result → name ≡ input_of order →
      output_of order ≡ None → wide ≡ is_wide order → NamesFiles order result.note
  names_listing order (Ok status) (is, same) names none flag = subst (λ (e : Ended). NamesFiles order e.note) (sym is) tt
  names_listing order (Err (Write written)) (is, same) names none flag = subst (λ (e : Ended). NamesFiles order e.note) (sym is) tt
  names_listing order (Err Memory) ends names none flag = names_fault outlet mid new order Memory name cause None wide result ends tt
  names_listing order (Err HexText) ends names none flag = names_fault outlet mid new order HexText name cause None wide result ends (names, sym none, flag)
  names_listing order (Err (Read place)) ends names none flag = names_fault outlet mid new order (Read place) name cause None wide result ends (names, sym none, flag)
  names_listing order (Err (Refused refusal)) ends names none flag = names_fault outlet mid new order (Refused refusal) name cause None wide result ends (names, sym none, flag)
  names_listing order (Err (RefusedIn refusal)) ends names none flag = names_fault outlet mid new order (RefusedIn refusal) name cause None wide result ends (names, sym none, flag)
