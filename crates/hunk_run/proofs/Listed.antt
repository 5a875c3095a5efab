-- What comes of listing a source, or bytes, by what a command has answered.
use Rattle.std.proofs.Common.{◌≡◌, ◌∙◌, ◌++◌, ◌≤◌, ℕ, zero, suc, false, true≢false, List, Option, Some, None, Result, Ok, Err, inl, inr, ap, arith, refl, subst, sym}
use Rattle.std.specs.Prelude.{IfErr, IfSome}
use Rattle.std.specs.Io.KnownBytes.{Consumes, IsAtEnd}
use Rattle.std.proofs.lemmas.Result.{IfErr-weaker, IfOk-weaker}
use Rattle.hunk_words.specs.Carriers.{Outlet, Supply, Writing}
use Rattle.hunk_words.specs.Longs.{bytes_of}
use Rattle.hunk_files.specs.HunkFile.{AreFile}
use Rattle.hunk_files.specs.LoadFile.{IsLoadFile, LoadFileValue}
use Rattle.hunk_files.specs.LoadText.{text}
use Rattle.hunk_scatter.specs.LoadOutcomes.{HasFileWithin}
use Rattle.hunk_scatter.specs.Placing.{packed_from}
use Rattle.hunk_commands.specs.Engine.{PutsOrRefuses, ReadsNoFile, ReadsThenPuts}
use Rattle.hunk_commands.specs.Inputs.{HasFile, TellsReading}
use Rattle.hunk_commands.specs.Output.{Takes}
use Rattle.hunk_commands.specs.Refusals.{RefusesBytes}
use Rattle.hunk_commands.specs.Relocating.{Relocates}
use Rattle.hunk_commands.specs.Shown.{IsShown}
use Rattle.hunk_commands.specs.Validated.{IsValidated}
use Rattle.hunk_commands.specs.declared.fault.RunFault.{RunFault}
use Rattle.hunk_commands.specs.declared.fault.RunFault.TheVariants.{HexText, Memory, Read, Refused, RefusedIn, Write}
use Rattle.hunk_run.specs.Inputs.{HasListed, slice}
use Rattle.hunk_run.specs.Refusals.{IsOfFile, ListsSupply, StopsListing}
use Rattle.hunk_run.specs.Runs.{IsListed, StopsReading, answered, found_status}
use Rattle.hunk_run.specs.Status.{TellsFindings}
use Rattle.hunk_run.specs.Wide.{AreListed, ListsHeld, StopsBytes}
use Rattle.hunk_run.specs.declared.listing.Listing.{Listing}
use Rattle.hunk_run.specs.declared.listing.Listing.TheVariants as listings
use Rattle.hunk_run.proofs.Accepted.{read_file, shown_file, validated_file}
use Rattle.hunk_run.proofs.Telling.{listed_slice, lists_loaded, lists_source, takes_whole}

-- ---- what is listed has a status, and is of a file

found_bound : (count : ℕ) → found_status count ≤ 4
found_bound zero = omega arith
found_bound (suc more) = omega arith

found_tells : {W : Type 0} (outlet : W → Outlet) (old new : Writing W) (count : ℕ) (bytes printed : List ℕ) → IsValidated count bytes printed → Takes outlet old new printed →
    TellsFindings outlet old new (found_status count)
found_tells outlet old new zero bytes printed is takes = inl refl
found_tells outlet old new (suc more) bytes printed is takes = inr (bytes, printed, refl, (suc more, omega arith, is), takes)

module _ {W T : Type 0} (outlet : W → Outlet) (IsTextOf : T → List ℕ → List ℕ → Type 0) (status : T → ℕ) (listing : Listing) (old new : Writing W)
    (listed : (value : T) (input printed : List ℕ) → IsTextOf value input printed → IsListed (status value) listing input printed)
    (file : (value : T) (input printed : List ℕ) → IsTextOf value input printed → AreFile input) (bound : (value : T) → status value ≤ 4)
    (tells : (value : T) (input printed : List ℕ) → IsTextOf value input printed → Takes outlet old new printed → TellsFindings outlet old new (status value)) where
  -- of a source that is read to its end
  module _ (before after : Supply) (most : ℕ) where
    lists_whole : (answer : Result T RunFault) → ((given : List ℕ) → IsAtEnd after.left → StopsReading false listing given after) → (HasListed listing before most → HasFile before most) →
        ((fault : RunFault) → ReadsNoFile before after most fault → StopsListing listing before after most fault) →
        ReadsThenPuts outlet IsTextOf before after most old new answer → ListsSupply outlet false listing before after most old new (answered status answer)
    lists_whole (Ok value) at_end has stops all =
        let puts = all.done.holds in
        record {
          outcome = record {
            bound = bound value;
            tells = tells value all.done.input puts.0.text puts.0.is_text (takes_whole outlet old new (IsTextOf value all.done.input) puts);
            fails = tt;
          };
          done = lists_source outlet old new (status value) listing (IsTextOf value) before after most (listed value) at_end all.done;
          succeeds = λ asked sound works. tt;
          tells_read = all.tells_read;
          stops = tt;
        }
    lists_whole (Err fault) at_end has stops all = record {
      outcome = record { bound = tt; tells = tt; fails = all.fails };
      done = tt;
      succeeds = λ asked. all.succeeds (has asked);
      tells_read = all.tells_read;
      stops = λ other. stops fault (all.refused other);
    }

    whole_file : (answer : Result T RunFault) → ReadsThenPuts outlet IsTextOf before after most old new answer → IsOfFile before.left (answered status answer)
    whole_file (Ok value) all = read_file before after most all.done.input all.done.read (file value all.done.input all.done.holds.0.text all.done.holds.0.is_text)
    whole_file (Err (Write written)) all =
        let reads = (all.write written refl).1 in
        read_file before after most reads.input reads.read (file reads.holds.is_text.0 reads.input reads.holds.text reads.holds.is_text.1)
    whole_file (Err Memory) all = tt
    whole_file (Err HexText) all = tt
    whole_file (Err (Read place)) all = tt
    whole_file (Err (Refused refusal)) all = tt
    whole_file (Err (RefusedIn refusal)) all = tt

  -- of bytes at hand
  held : (bytes : List ℕ) (most : ℕ) (answer : Result T RunFault) → (AreListed listing bytes most → AreFile bytes) →
      ((fault : RunFault) → RefusesBytes fault bytes → StopsBytes listing bytes most fault) →
      PutsOrRefuses outlet (λ value. IsTextOf value bytes) bytes old new answer → ListsHeld outlet listing bytes most old new (answered status answer)
  held bytes most (Ok value) has stops all =
      let takes = takes_whole outlet old new (IsTextOf value bytes) all.done in
      record {
        outcome = record { bound = bound value; tells = tells value bytes all.done.0.text all.done.0.is_text takes; fails = tt };
        done = (all.done.0.text, listed value bytes all.done.0.text all.done.0.is_text, takes);
        stops = tt;
        succeeds = λ asked works. tt;
      }
  held bytes most (Err fault) has stops all = record {
    outcome = record { bound = tt; tells = tt; fails = all.fails };
    done = tt;
    stops = λ other. stops fault (all.refused other);
    succeeds = λ asked works. absurd (true≢false (sym (all.fails.broken (all.succeeds (has asked))) ∙ works));
  }

-- ---- of a load file that is loaded as it comes

relocated_file : (left after : Option (List ℕ)) (given : List ℕ) (file : LoadFileValue) → Consumes left after given → IsLoadFile file → given ≡ bytes_of (text file) → IfSome left AreFile
relocated_file None after given file consumed is same = tt
relocated_file (Some bytes) None given file consumed is same = absurd consumed
relocated_file (Some bytes) (Some rest) given file consumed is same =
    inl (record { value = file; is_load_file = is; rest = rest; split = consumed ∙ ap (λ (xs : List ℕ). xs ++ rest) same })

module _ {W T : Type 0} (outlet : W → Outlet) (base budget : ℕ) (before after : Supply) (most : ℕ) (old new : Writing W) where
  lists_relocated : (answer : Result T RunFault) → Relocates outlet base (record { budget = budget; file_bytes = most }) before after old new answer → TellsReading before after answer →
      (HasFileWithin (packed_from base) (record { budget = budget; file_bytes = most }) before → after.failed ≡ false → (outlet new.sink).failed ≡ false →
      IfErr answer (λ fault. fault ≡ Memory)) → ListsSupply outlet false (listings.Relocate base budget) before after most old new (answered (λ _. 0) answer)
  lists_relocated (Ok value) all tells succeeds = record {
    outcome = record { bound = omega arith; tells = inl refl; fails = tt };
    done = lists_loaded outlet old new base (record { budget = budget; file_bytes = most }) before after value all;
    succeeds = λ asked sound works. tt;
    tells_read = tells;
    stops = tt;
  }
  lists_relocated (Err fault) all tells succeeds = record {
    outcome = record { bound = tt; tells = tt; fails = all.fails };
    done = tt;
    succeeds = succeeds;
    tells_read = tells;
    stops = λ other. (all.given, all.gives, all.stops other);
  }

  loaded_file : (answer : Result T RunFault) → Relocates outlet base (record { budget = budget; file_bytes = most }) before after old new answer →
      IsOfFile before.left (answered (λ _. 0) answer)
  loaded_file (Ok value) all =
      let is = all.done.0.is_text in relocated_file before.left after.left all.given is.file all.gives.consumed is.is_listing.is_file is.given_is
  loaded_file (Err (Write written)) all =
      let is = (all.write written refl).1.is_text in relocated_file before.left after.left all.given is.file all.gives.consumed is.is_listing.is_file is.given_is
  loaded_file (Err Memory) all = tt
  loaded_file (Err HexText) all = tt
  loaded_file (Err (Read place)) all = tt
  loaded_file (Err (Refused refusal)) all = tt
  loaded_file (Err (RefusedIn refusal)) all = tt

-- ---- of a listing, where the command has answered so

-- what comes of listing a source, of a file
abbrev pub Lists : {W : Type 0} → (W → Outlet) → Listing → Supply → Supply → ℕ → Writing W → Writing W → Result ℕ RunFault → Type 0
Lists outlet listing before after most old new result = ListsSupply outlet false listing before after most old new result × IsOfFile before.left result

module _ {W : Type 0} (outlet : W → Outlet) (listing : Listing) (most : ℕ) (old new : Writing W) (result : Result ℕ RunFault) where
  pub shown : (before after : Supply) (answer : Result (Unit {0}) RunFault) → listing ≡ listings.Show → result ≡ answered (λ _. 0) answer →
      ReadsThenPuts outlet (λ (_ : Unit {0}). IsShown) before after most old new answer → Lists outlet listing before after most old new result
  shown before after answer is told all =
      subst (λ (l : Listing). Lists outlet l before after most old new result) (sym is)
      (subst (λ (r : Result ℕ RunFault). Lists outlet listings.Show before after most old new r) (sym told) (
        lists_whole outlet (λ (_ : Unit {0}). IsShown) (λ _. 0) listings.Show old new (λ value input printed own. (refl, own)) (λ value. shown_file) (λ value. omega arith)
            (λ value input printed own takes. inl refl) before after most answer (λ given at_end. at_end) (λ asked. asked) (λ fault stops. stops) all,
        whole_file outlet (λ (_ : Unit {0}). IsShown) (λ _. 0) listings.Show old new (λ value input printed own. (refl, own)) (λ value. shown_file) (λ value. omega arith)
            (λ value input printed own takes. inl refl) before after most answer all,
      ))

  pub validated : (before after : Supply) (answer : Result ℕ RunFault) → listing ≡ listings.Validate → result ≡ answered found_status answer →
      ReadsThenPuts outlet IsValidated before after most old new answer → Lists outlet listing before after most old new result
  validated before after answer is told all =
      subst (λ (l : Listing). Lists outlet l before after most old new result) (sym is)
      (subst (λ (r : Result ℕ RunFault). Lists outlet listings.Validate before after most old new r) (sym told) (
        lists_whole outlet IsValidated found_status listings.Validate old new (λ count input printed own. (count, refl, own)) validated_file found_bound
            (found_tells outlet old new) before after most answer (λ given at_end. at_end) (λ asked. asked) (λ fault stops. stops) all,
        whole_file outlet IsValidated found_status listings.Validate old new (λ count input printed own. (count, refl, own)) validated_file found_bound
            (found_tells outlet old new) before after most answer all,
      ))

  pub relocated : (before after : Supply) (base budget : ℕ) (answer : Result (Unit {0}) RunFault) → listing ≡ listings.Relocate base budget → result ≡ answered (λ _. 0) answer →
      Relocates outlet base (record { budget = budget; file_bytes = most }) before after old new answer → TellsReading before after answer →
      (HasFileWithin (packed_from base) (record { budget = budget; file_bytes = most }) before → after.failed ≡ false → (outlet new.sink).failed ≡ false →
      IfErr answer (λ fault. fault ≡ Memory)) → Lists outlet listing before after most old new result
  relocated before after base budget answer is told all tells succeeds =
      subst (λ (l : Listing). Lists outlet l before after most old new result) (sym is)
      (subst (λ (r : Result ℕ RunFault). Lists outlet (listings.Relocate base budget) before after most old new r) (sym told) (
        lists_relocated outlet base budget before after most old new answer all tells succeeds,
        loaded_file outlet base budget before after most old new answer all,
      ))

  -- of bytes at hand
  pub held_shown : (bytes : List ℕ) (answer : Result (Unit {0}) RunFault) → listing ≡ listings.Show → result ≡ answered (λ _. 0) answer →
      PutsOrRefuses outlet (λ (_ : Unit {0}). IsShown bytes) bytes old new answer → ListsHeld outlet listing bytes most old new result
  held_shown bytes answer is told all =
      subst (λ (l : Listing). ListsHeld outlet l bytes most old new result) (sym is)
      (subst (λ (r : Result ℕ RunFault). ListsHeld outlet listings.Show bytes most old new r) (sym told)
      (held outlet (λ (_ : Unit {0}). IsShown) (λ _. 0) listings.Show old new (λ value input printed own. (refl, own)) (λ value. shown_file) (λ value. omega arith)
      (λ value input printed own takes. inl refl) bytes most answer (λ asked. asked) (λ fault stops. stops) all))

  pub held_validated : (bytes : List ℕ) (answer : Result ℕ RunFault) → listing ≡ listings.Validate → result ≡ answered found_status answer →
      PutsOrRefuses outlet (λ count. IsValidated count bytes) bytes old new answer → ListsHeld outlet listing bytes most old new result
  held_validated bytes answer is told all =
      subst (λ (l : Listing). ListsHeld outlet l bytes most old new result) (sym is)
      (subst (λ (r : Result ℕ RunFault). ListsHeld outlet listings.Validate bytes most old new r) (sym told)
      (held outlet IsValidated found_status listings.Validate old new (λ count input printed own. (count, refl, own)) validated_file found_bound
      (found_tells outlet old new) bytes most answer (λ asked. asked) (λ fault stops. stops) all))

  pub held_relocated : (bytes rest : List ℕ) (base budget : ℕ) → listing ≡ listings.Relocate base budget →
      ListsSupply outlet false listing (slice bytes) (slice rest) most old new result → ListsHeld outlet listing bytes most old new result
  held_relocated bytes rest base budget is lists =
      subst (λ (l : Listing). ListsHeld outlet l bytes most old new result) (sym is)
      (of_slice (subst (λ (l : Listing). ListsSupply outlet false l (slice bytes) (slice rest) most old new result) is lists))
    where
      of_slice : ListsSupply outlet false (listings.Relocate base budget) (slice bytes) (slice rest) most old new result →
          ListsHeld outlet (listings.Relocate base budget) bytes most old new result
      of_slice all = record {
        outcome = all.outcome;
        done = IfOk-weaker result _ _ (λ status own. (
          own.text,
          listed_slice status (listings.Relocate base budget) bytes own.given own.text (Some rest) false own.consumed own.stops
              (subst (λ (xs : List ℕ). IsListed status (listings.Relocate base budget) xs own.text) own.is_input own.is_listed),
          own.takes,
        )) all.done;
        stops = IfErr-weaker result _ _ (λ fault stops other. (rest, stops other)) all.stops;
        succeeds = λ asked works. all.succeeds asked refl works;
      }
