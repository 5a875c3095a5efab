use Rattle.std.proofs.Common.{◌≡◌, ◌∙◌, ℕ, Bool, List, Option, Some, None, ap, inl, map, refl, subst, sym}
use Rattle.std.specs.Prelude.{IsErrAnd}
use Rattle.std.specs.String.{string_bytes}
use Rattle.hunk_command_line.specs.Line.{order_of}
use Rattle.hunk_command_line.specs.declared.asked.Order.{Order}
use Rattle.hunk_command_line.specs.declared.asked.Order.TheVariants.{Relocate, Rewrite, Show, Validate}
use Rattle.hunk_run.specs.Notes.{Notes, ended_with, input_of, is_wide, output_of}
use Rattle.hunk_run.specs.Asked.{AnswersListing}
use Rattle.hunk_run.specs.Orders.{EndsOrder, SaysInput, SaysLeftOut, SaysSpelled}
use Rattle.hunk_run.specs.Stores.{MadeFile, bytes_of_input}
use Rattle.hunk_run.specs.declared.TheConstants.{FILE_BYTES}
use Rattle.hunk_run.specs.Wide.{IsUnread}
use Rattle.hunk_run.specs.declared.note.Ended.{Ended}
use Rattle.hunk_run.specs.declared.listing.{Form.{Form}, Listing.{Listing}}
use Rattle.hunk_run.proofs.Noting.{bound_noted, notes_listing, notes_refusal, notes_rewriting, prints_no_help, tells_noted, unheard}
use Rattle.hunk_run.proofs.Stopping.{ListsOrder, listing_ends, makes_out, refusal_ends, rewriting_ends}
use Rattle.hunk_run.proofs.run.Given.{Over}
use Rattle.hunk_run.proofs.run.Goals.{in-Show, in-Validate, in-Relocate}
use Rattle.hunk_run.proofs.run.Goals as goal

-- the input is listed, as the order asks

module _ (g : Over) (c : goal.After-with_spelled-2 g) where
  abbrev made : Option MadeFile
  made = g.S.Store.made c.args.store

  -- what is known of the input of this name
  abbrev known : Option (List ℕ) → Option (List ℕ)
  known name = bytes_of_input (g.S.Store.holdings c.args.store) (g.S.Store.opened c.args.store) made name

  abbrev failing : Bool
  failing = g.S.Store.failed c.args.store

  abbrev failed : Bool
  failed = g.S.Store.failed c.list_file-answer.new.store

  abbrev EndsBy : Order → Ended → Type 0
  EndsBy order ended = EndsOrder g.W.Sink.outlet c.args.out.now c.end_listing-ended.new.out made (g.S.Store.made c.list_file-answer.new.store) failing failed FILE_BYTES (known (input_of order)) order ended

  abbrev Ends : Order → Type 0
  Ends order = EndsBy order c.with_spelled-2.result

  abbrev Lists : (Listing × Form × Option (List ℕ)) → Type 0
  Lists asked =
      ((c.match-order-2.listing.2 ≡ asked.2) × (c.match-order-2.listing.1 ≡ asked.1))
      × AnswersListing g.W.Sink.outlet asked.1.hex asked.1.wide asked.0 (known asked.2) FILE_BYTES c.args.out.now c.list_file-answer.new.out c.list_file-answer.result.0 c.list_file-answer.result.1
      × SaysInput asked.1.hex asked.1.wide FILE_BYTES (known asked.2) asked.2 (IsErrAnd c.list_file-answer.result.0 IsUnread) c.list_file-answer.result.2

  -- what is said of the spelling changes nothing else
  and_said : (Holds : Ended → Type 0) → Holds (ended_with c.list_file-answer.result.2 c.end_listing-ended.result) → Holds c.with_spelled-2.result
  and_said Holds holds = subst Holds (sym c.with_spelled-2.ensures) holds

  listed : Ends c.in-Ok.order
  listed =
      let lists : Lists c.match-order-2.listing = ((refl, refl), c.list_file-answer.ensures.answers, c.list_file-answer.ensures.spelled) in
      let for : (order : Order) → c.in-Ok.order ≡ order → output_of order ≡ None → c.match-order-2.listing.1.wide ≡ is_wide order →
      SaysLeftOut g.W.Sink.outlet c.args.out.now c.end_listing-ended.new.out made made FILE_BYTES (known (input_of order)) order None →
      ListsOrder g.W.Sink.outlet c.args.out.now c.list_file-answer.new.out made FILE_BYTES (known (input_of order)) order c.list_file-answer.result.0 c.match-order-2.listing.2
      c.list_file-answer.result.1 →
      SaysSpelled FILE_BYTES (known (input_of order)) order (IsErrAnd c.list_file-answer.result.0 IsUnread) c.list_file-answer.result.2 → Ends c.in-Ok.order =
      λ order is none flag unsaid all says.
      subst Ends (sym is) (and_said (EndsBy order)
      (subst (λ (m : Option MadeFile). EndsOrder g.W.Sink.outlet c.args.out.now c.end_listing-ended.new.out made m failing failed FILE_BYTES (known (input_of order)) order
      (ended_with c.list_file-answer.result.2 c.end_listing-ended.result)) (sym c.list_file-answer.ensures.makes)
      (listing_ends g.W.Sink.outlet c.args.out.now c.list_file-answer.new.out c.end_listing-ended.new.out made failing failed FILE_BYTES (known (input_of order)) order c.list_file-answer.result.0
      c.match-order-2.listing.2 c.list_file-answer.result.1 c.match-order-2.listing.1.wide c.end_listing-ended.result c.list_file-answer.result.2 c.list_file-answer.ensures.answers.outcome
      c.end_listing-ended.ensures c.list_file-answer.ensures.answers.reads c.list_file-answer.ensures.fails none flag unsaid all says))) in
      elim c.match-order-2.branch [
        | in-Show w ↦
            let (same, answers, says) = subst Lists w.listing-is lists in
            for (Show w.in-Show.hex w.in-Show.wide w.in-Show.file) w.in-Show.is refl (ap (λ (f : Form). f.wide) same.1) refl (same.0, answers.done, answers.stops, answers.succeeds) says
        | in-Validate w ↦
            let (same, answers, says) = subst Lists w.listing-is lists in
            for (Validate w.in-Validate.hex w.in-Validate.wide w.in-Validate.file) w.in-Validate.is refl (ap (λ (f : Form). f.wide) same.1) refl (same.0, answers.done, answers.stops, answers.succeeds) says
        | in-Relocate w ↦
            let (same, answers, says) = subst Lists w.listing-is lists in
            for (Relocate w.in-Relocate.hex w.in-Relocate.wide w.in-Relocate.base w.in-Relocate.budget w.in-Relocate.file) w.in-Relocate.is refl (ap (λ (f : Form). f.wide) same.1) refl (same.0, answers.done, answers.stops, answers.succeeds) says
      ]

  noted : Notes g.W.Sink.outlet c.args.out.now c.end_listing-ended.new.out c.with_spelled-2.result.status c.with_spelled-2.result.note
  noted = and_said (λ (e : Ended). Notes g.W.Sink.outlet c.args.out.now c.end_listing-ended.new.out e.status e.note)
      (notes_listing g.W.Sink.outlet c.args.out.now c.list_file-answer.new.out c.end_listing-ended.new.out c.match-order-2.listing.2 c.list_file-answer.result.1 c.match-order-2.listing.1.wide
      c.end_listing-ended.result
      c.list_file-answer.result.0 c.list_file-answer.ensures.answers.outcome c.end_listing-ended.ensures)

  asked : (order : Order) → order_of (map string_bytes c.args.words.now) ≡ Some order → c.in-Ok.order ≡ order
  asked order is = let own = c.in-Ok.ensures.order in cc

pub returns-clause-bound : goal.returns-clause-bound
returns-clause-bound g c = bound_noted g.W.Sink.outlet c.args.out.now c.end_listing-ended.new.out _ _ (noted g c)

pub returns-clause-tells : goal.returns-clause-tells
returns-clause-tells g c = tells_noted g.W.Sink.outlet c.args.out.now c.end_listing-ended.new.out _ _ (noted g c)

pub returns-clause-ordered : goal.returns-clause-ordered
returns-clause-ordered g c = λ order takes is. subst (Ends g c) (asked g c order is) (listed g c)

pub returns-clause-heard : goal.returns-clause-heard
returns-clause-heard g c = λ no_help no_version zero. (c.in-Ok.order, c.in-Ok.ensures.order, (listed g c).done zero)

pub returns-clause-makes : goal.returns-clause-makes
returns-clause-makes g c = inl c.list_file-answer.ensures.makes

pub returns-clause-notes : goal.returns-clause-notes
returns-clause-notes g c = noted g c

-- the file is rewritten, as the order asks

module _ (g : Over) (c : goal.After-with_spelled g) where
  abbrev then_made : Option MadeFile
  then_made = g.S.Store.made c.rewrite_file-store.result.0

  abbrev known_of : Order → Option (List ℕ)
  known_of order = bytes_of_input (g.S.Store.holdings c.args.store) (g.S.Store.opened c.args.store) (g.S.Store.made c.args.store) (input_of order)

  abbrev EndsTooBy : Order → Ended → Type 0
  EndsTooBy order ended = EndsOrder g.W.Sink.outlet c.args.out.now c.end_rewriting-ended.new.out (g.S.Store.made c.args.store) then_made
      (g.S.Store.failed c.args.store) (g.S.Store.failed c.rewrite_file-store.result.0) FILE_BYTES (known_of order) order ended

  abbrev EndsToo : Order → Type 0
  EndsToo order = EndsTooBy order c.with_spelled.result

  abbrev rewriting : Order
  rewriting = Rewrite c.in-Rewrite.strip c.in-Rewrite.wide c.in-Rewrite.input c.in-Rewrite.output

  rewritten : EndsToo c.in-Ok.order
  rewritten =
      subst EndsToo (sym c.in-Rewrite.is)
      (subst (EndsTooBy rewriting) (sym c.with_spelled.ensures)
      (rewriting_ends g.W.Sink.outlet c.args.out.now c.end_rewriting-ended.new.out (g.S.Store.made c.args.store) then_made
      (g.S.Store.failed c.args.store) (g.S.Store.failed c.rewrite_file-store.result.0) FILE_BYTES
      (known_of rewriting) c.in-Rewrite.strip c.in-Rewrite.wide c.rewrite_file-store.result.1 c.in-Rewrite.input c.in-Rewrite.output
      c.rewrite_file-store.result.2 c.end_rewriting-ended.result c.rewrite_file-store.result.3 c.end_rewriting-ended.ensures c.rewrite_file-store.ensures.answers
      c.rewrite_file-store.ensures.fails c.rewrite_file-store.ensures.spelled))

  rewriting_noted : Notes g.W.Sink.outlet c.args.out.now c.end_rewriting-ended.new.out c.with_spelled.result.status c.with_spelled.result.note
  rewriting_noted =
      subst (λ (e : Ended). Notes g.W.Sink.outlet c.args.out.now c.end_rewriting-ended.new.out e.status e.note) (sym c.with_spelled.ensures)
      (notes_rewriting g.W.Sink.outlet c.args.out.now c.end_rewriting-ended.new.out c.in-Rewrite.wide c.rewrite_file-store.result.1 c.in-Rewrite.input c.in-Rewrite.output
      c.rewrite_file-store.result.2 c.end_rewriting-ended.result c.end_rewriting-ended.ensures)

  rewriting_asked : (order : Order) → order_of (map string_bytes c.args.words.now) ≡ Some order → c.in-Ok.order ≡ order
  rewriting_asked order is = let own = c.in-Ok.ensures.order in cc

pub returns-in-Rewrite-clause-bound : goal.returns-in-Rewrite-clause-bound
returns-in-Rewrite-clause-bound g c = bound_noted g.W.Sink.outlet c.args.out.now c.end_rewriting-ended.new.out _ _ (rewriting_noted g c)

pub returns-in-Rewrite-clause-tells : goal.returns-in-Rewrite-clause-tells
returns-in-Rewrite-clause-tells g c = tells_noted g.W.Sink.outlet c.args.out.now c.end_rewriting-ended.new.out _ _ (rewriting_noted g c)

pub returns-in-Rewrite-clause-ordered : goal.returns-in-Rewrite-clause-ordered
returns-in-Rewrite-clause-ordered g c = λ order takes is. subst (EndsToo g c) (rewriting_asked g c order is) (rewritten g c)

pub returns-in-Rewrite-clause-heard : goal.returns-in-Rewrite-clause-heard
returns-in-Rewrite-clause-heard g c = λ no_help no_version zero. (c.in-Ok.order, c.in-Ok.ensures.order, (rewritten g c).done zero)

pub returns-in-Rewrite-clause-makes : goal.returns-in-Rewrite-clause-makes
returns-in-Rewrite-clause-makes g c =
    makes_out (g.S.Store.made c.args.store) (then_made g c) FILE_BYTES (known_of g c (rewriting g c)) c.in-Rewrite.strip c.in-Rewrite.wide
    c.in-Rewrite.output _ c.in-Rewrite.input c.rewrite_file-store.result.1 (c.in-Ok.ensures.order ∙ ap Some c.in-Rewrite.is) c.rewrite_file-store.ensures.answers.rewrites
    c.rewrite_file-store.ensures.answers.write c.rewrite_file-store.ensures.answers.untouched

pub returns-in-Rewrite-clause-notes : goal.returns-in-Rewrite-clause-notes
returns-in-Rewrite-clause-notes g c = rewriting_noted g c

-- they are none

pub returns-in-Err-clause-bound : goal.returns-in-Err-clause-bound
returns-in-Err-clause-bound g c =
    bound_noted g.W.Sink.outlet c.args.out.now c.refuse.new.out _ _ (notes_refusal g.W.Sink.outlet c.args.out.now c.refuse.new.out c.in-Err.fault c.refuse.result c.refuse.ensures)

pub returns-in-Err-clause-tells : goal.returns-in-Err-clause-tells
returns-in-Err-clause-tells g c =
    tells_noted g.W.Sink.outlet c.args.out.now c.refuse.new.out _ _ (notes_refusal g.W.Sink.outlet c.args.out.now c.refuse.new.out c.in-Err.fault c.refuse.result c.refuse.ensures)

pub returns-in-Err-clause-ordered : goal.returns-in-Err-clause-ordered
returns-in-Err-clause-ordered g c = λ order takes is.
    refusal_ends g.W.Sink.outlet c.args.out.now c.refuse.new.out _ _ _ _ _ order c.in-Err.fault c.refuse.result (c.in-Err.ensures.refuses takes) is c.refuse.ensures

pub returns-in-Err-clause-refused : goal.returns-in-Err-clause-refused
returns-in-Err-clause-refused g c = λ takes none.
    prints_no_help g.W.Sink.outlet c.args.out.now c.refuse.new.out _ c.in-Err.fault c.refuse.result (c.in-Err.ensures.refuses takes) c.refuse.ensures

pub returns-in-Err-clause-heard : goal.returns-in-Err-clause-heard
returns-in-Err-clause-heard g c = λ no_help no_version zero.
    absurd (unheard g.W.Sink.outlet c.args.out.now c.refuse.new.out c.in-Err.fault c.refuse.result c.refuse.ensures
    (λ help. no_help (c.in-Err.ensures.clap.asked help)) (λ version. no_version (c.in-Err.ensures.clap.versioned version)) zero)

pub returns-in-Err-clause-notes : goal.returns-in-Err-clause-notes
returns-in-Err-clause-notes g c = notes_refusal g.W.Sink.outlet c.args.out.now c.refuse.new.out c.in-Err.fault c.refuse.result c.refuse.ensures

pub returns-in-Err-clause-makes : goal.returns-in-Err-clause-makes
returns-in-Err-clause-makes g c = inl refl
