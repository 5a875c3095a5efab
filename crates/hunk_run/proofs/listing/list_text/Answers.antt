use Rattle.std.proofs.Common.{◌≡◌, ◌∙◌, ◌+◌, ℕ, false, true, List, Option, Some, Result, Ok, Err, inr, ap, refl, subst, sym, rules}
use Rattle.std.specs.Prelude.{IfErr, IfOk}
use Rattle.hunk_words.specs.Carriers.{Outlet, Supply, Writing}
use Rattle.hunk_commands.specs.Faults.{IsWrite}
use Rattle.hunk_commands.specs.declared.fault.RunFault.{RunFault}
use Rattle.hunk_run.specs.declared.listing.Listing.{Listing}
use Rattle.hunk_commands.specs.HexText.{ReadsHex}
use Rattle.hunk_run.specs.Inputs.{HasListed, slice}
use Rattle.hunk_run.specs.Refusals.{StopsListing, StopsText}
use Rattle.hunk_run.specs.Runs.{ListsSource}
use Rattle.hunk_run.proofs.Plainly.{same_bytes}
use Rattle.hunk_run.proofs.Telling.{lists_text}
use Rattle.hunk_run.proofs.listing.list_text.Goals as goal

-- what was listed of the bytes is listed of the text that spells them
lists_where_done : {W : Type 0} (outlet : W → Outlet) (old new : Writing W) (listing : Listing) (before after cut rest : Supply) (most : ℕ) (bytes : List ℕ)
    (result : Result ℕ RunFault) → ReadsHex before after most bytes → cut.left ≡ Some bytes →
    IfOk result (λ status. ListsSource outlet false status listing cut rest old new) → IfOk result (λ status. ListsSource outlet true status listing before after old new)
lists_where_done outlet old new listing before after cut rest most bytes (Ok status) read known lists =
    lists_text outlet old new status listing before after cut rest read.input bytes read.read.given read.read.at_end read.holds known lists
lists_where_done outlet old new listing before after cut rest most bytes (Err fault) read known lists = tt

-- where nothing is printed of the bytes, nothing is of the text that spells them
stops_where : (listing : Listing) (before after : Supply) (given rest bytes : List ℕ) (most : ℕ) (result : Result ℕ RunFault) →
    ReadsHex before after (most + 1) bytes → given ≡ bytes →
    IfErr result (λ fault. ¬ IsWrite fault → StopsListing listing (slice given) (slice rest) most fault) →
    IfErr result (λ fault. ¬ IsWrite fault → StopsText listing before after most fault)
stops_where listing before after given rest bytes most (Ok status) read known stops = tt
stops_where listing before after given rest bytes most (Err fault) read known stops =
    λ other.
    inr (record {
      bytes = bytes;
      read = read;
      rest = rest;
      stops = subst (λ (xs : List ℕ). StopsListing listing (slice xs) (slice rest) most fault) known (stops other);
    })

pub returns : goal.returns
returns g c =
    let bytes = c.in_ok-bytes.bytes.items in
    let cut = c.new.ensures ∙ c.as_slice.ensures.value in
    record {
      outcome = search rules;
      done = lists_where_done g.W.Sink.outlet c.args.out.now c.list_bytes.new.out c.args.listing _ _ (slice c.new.result) (slice c.list_bytes.new.source) _ bytes _
          c.in_ok-bytes.ensures.spelled (ap {B = Option (List ℕ)} (λ (xs : List ℕ). Some xs) cut) c.list_bytes.ensures.lists.done;
      succeeds = λ has sound writes.
          let same = same_bytes _ _ _ has.text has.bytes bytes has.left_is has.spells c.in_ok-bytes.ensures.spelled in
          c.list_bytes.ensures.lists.succeeds (subst (λ (xs : List ℕ). HasListed c.args.listing (slice xs) 67108864) (same ∙ sym cut) has.has) refl writes;
      tells_read = search rules;
      stops = stops_where c.args.listing _ _ c.new.result c.list_bytes.new.source bytes _ _ c.in_ok-bytes.ensures.spelled cut c.list_bytes.ensures.lists.stops;
    }
