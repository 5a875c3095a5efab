-- A file is its own plain spelling, and what was listed or written is one.
use Rattle.std.proofs.Common.{◌≡◌, ◌∙◌, ℕ, Bool, false, List, [], Option, Some, None, Result, Ok, Err, inl, inr, ap, refl, subst, sym, append-nil, true, true≢false}
use Rattle.std.specs.Prelude.{IfErr, IfSome, if◌then◌else◌, is_some}
use Rattle.std.specs.declared.io.Error.{Error}
use Rattle.std.proofs.KnownBytes.{Consumes-whole}
use Rattle.hunk_words.specs.Carriers.{Outlet, Supply, Writing}
use Rattle.hunk_files.specs.HunkFile.{AreFile}
use Rattle.hunk_wide.specs.Plain.{plain}
use Rattle.hunk_wide.proofs.Along.{plain_stays}
use Rattle.hunk_wide.proofs.SpelledObjects.{object_stays}
use Rattle.hunk_commands.specs.Engine.{ReadsNoFile}
use Rattle.hunk_commands.specs.Faults.{IsWrite}
use Rattle.hunk_commands.specs.Inputs.{ReadsInVain, ReadsWhole}
use Rattle.hunk_commands.specs.Refusals.{RefusesBytes}
use Rattle.hunk_commands.specs.Rewritten.{IsRewritten}
use Rattle.hunk_commands.specs.Shown.{IsShown}
use Rattle.hunk_commands.specs.Validated.{IsValidated}
use Rattle.hunk_commands.specs.declared.fault.RunFault.{RunFault}
use Rattle.hunk_commands.specs.declared.fault.RunFault.TheVariants.{HexText, Memory, Read, Refused, RefusedIn, Write}
use Rattle.hunk_commands.specs.declared.rewriting.Rewritten.{Rewritten}
use Rattle.hunk_run.specs.Asked.{AnswersListing, EndsAtOnce, ListsFirst, ListsFirstOf, ListsRead, StopsRewriting, TellsInput}
use Rattle.hunk_run.specs.Inputs.{unread}
use Rattle.hunk_run.specs.Orders.{AnswersRewriting, RewritesFirst, RewritesInput, RewritesTo}
use Rattle.hunk_run.specs.Refusals.{IsOfFile, IsRead, ListsSupply, StopsInput, StopsListing, refuses_input}
use Rattle.hunk_run.specs.Runs.{IsListed, ListsSource}
use Rattle.hunk_run.specs.Stores.{Holdings, Leaves, MadeFile, bytes_of_input}
use Rattle.hunk_run.specs.Wide.{IsPlain, IsUnread}
use Rattle.hunk_run.specs.declared.listing.Listing.{Listing}
use Rattle.hunk_run.specs.declared.listing.Listing.TheVariants as listings
use Rattle.hunk_run.proofs.Failing.{listing_failed}
use Rattle.hunk_run.proofs.Telling.{listed_slice}

pub plain_file : (bytes : List ℕ) → AreFile bytes → plain bytes ≡ bytes
plain_file bytes (inl file) = subst (λ (xs : List ℕ). plain xs ≡ xs) (sym file.split) (plain_stays file.value file.rest file.is_load_file)
plain_file bytes (inr file) = subst (λ (xs : List ℕ). plain xs ≡ xs) (sym file.text_is) (object_stays file.value file.is_object_file)

pub plain_known : (known : Option (List ℕ)) → IfSome known AreFile → IsPlain known
plain_known None is = tt
plain_known (Some bytes) is = plain_file bytes is

-- what is known of a file that can be read again stays known once it was opened
pub known_again : (holdings : Holdings) (opened later : Bool) (made : Option MadeFile) (name : List ℕ) → holdings.again name ≡ true →
    bytes_of_input holdings later made (Some name) ≡ bytes_of_input holdings opened made (Some name)
known_again holdings opened later (Some file) name again = refl
known_again holdings false false None name again = refl
known_again holdings true true None name again = refl
known_again holdings false true None name again = ap (λ (b : Bool). if b then holdings.content name else None) again
known_again holdings true false None name again = sym (ap (λ (b : Bool). if b then holdings.content name else None) again)

-- what is known of it is what was left of its reader
pub plain_left : (known left : Option (List ℕ)) → Leaves known left → IsPlain left → IsPlain known
plain_left None left leaves is = tt
plain_left (Some bytes) left leaves is = subst IsPlain leaves is

-- ---- what is printed or written is of a file

pub shown_file : (bytes written : List ℕ) → IsShown bytes written → AreFile bytes
shown_file bytes written (inl (file, is)) = inl file
shown_file bytes written (inr (file, is)) = inr file

pub validated_file : (count : ℕ) (bytes written : List ℕ) → IsValidated count bytes written → AreFile bytes
validated_file count bytes written (inl (file, none, is)) = inl file
validated_file count bytes written (inr (file, found, is)) = inr file

pub rewritten_file : (strip : Bool) (done : Rewritten) (bytes written : List ℕ) → IsRewritten strip done bytes written → AreFile bytes
rewritten_file strip done bytes written (inl (file, sizes, is)) = inl file
rewritten_file strip done bytes written (inr (file, sizes, is)) = inr file

listed_file : (status : ℕ) (listing : Listing) (bytes written : List ℕ) → IsListed status listing bytes written → AreFile bytes
listed_file status listings.Show bytes written (done, is) = shown_file bytes written is
listed_file status listings.Validate bytes written (count, told, is) = validated_file count bytes written is
listed_file status (listings.Relocate base budget) bytes written (done, is) = inl (record { value = is.file; is_load_file = is.is_listing.is_file; rest = is.rest; split = is.split })

-- ---- of a source

-- it was read to its end
pub read_file : (before after : Supply) (most : ℕ) (input : List ℕ) → ReadsWhole before after most input → AreFile input → IfSome before.left AreFile
read_file before after most input read is = Consumes-whole before.left after.left input AreFile read.given read.at_end is

-- ---- what is listed of a file is listed of its plain spelling

listed_plain : (status : ℕ) (listing : Listing) (bytes written : List ℕ) → IsListed status listing bytes written → IsListed status listing (plain bytes) written
listed_plain status listing bytes written is = subst (λ (xs : List ℕ). IsListed status listing xs written) (sym (plain_file bytes (listed_file status listing bytes written is))) is

pub lists_plainly : {W : Type 0} (outlet : W → Outlet) (status : ℕ) (listing : Listing) (left : Option (List ℕ)) (failed : Bool) (after : Supply) (old new : Writing W) →
    ListsSource outlet false status listing (record { left = left; failed = failed }) after old new → ListsRead outlet false true status listing left old new
lists_plainly outlet status listing None failed after old new lists = (
  unread None,
  record {
    given = lists.given;
    consumed = tt;
    at_end = tt;
    input = lists.input;
    is_input = lists.is_input;
    lists = (lists.text, listed_plain status listing lists.input lists.text lists.is_listed, lists.takes);
  },
)
lists_plainly outlet status listing (Some bytes) failed after old new lists =
    let own = subst (λ (xs : List ℕ). IsListed status listing xs lists.text) lists.is_input lists.is_listed in
    let all = listed_slice status listing bytes lists.given lists.text after.left after.failed lists.consumed lists.stops own in (
      unread (Some []),
      record {
        given = bytes;
        consumed = sym (append-nil bytes);
        at_end = refl;
        input = bytes;
        is_input = refl;
        lists = (lists.text, listed_plain status listing bytes lists.text all, lists.takes);
      },
    )

-- ---- what is answered then

module _ {W : Type 0} (outlet : W → Outlet) (listing : Listing) (known : Option (List ℕ)) (most : ℕ) (old new : Writing W) where
  -- it is an answer for the plain spelling
  answers_wide : (answer : Result ℕ RunFault) (cause : Option Error) → ListsFirstOf outlet listing known most old new answer cause →
      AnswersListing outlet false true listing known most old new answer cause
  answers_wide (Ok status) cause first = record {
    outcome = first.lists.outcome;
    done = (first.left, first.leaves, first.lists.done);
    stops = tt;
    reads = first.reads;
    succeeds = λ has none works. tt;
  }
  answers_wide (Err fault) cause first = ended first.lists.ends
    where
      ended : EndsAtOnce fault → AnswersListing outlet false true listing known most old new (Err fault) cause
      ended (inl write) = record {
        outcome = first.lists.outcome;
        done = tt;
        stops = λ other. absurd (other write);
        reads = first.reads;
        succeeds = λ has none works. absurd (true≢false (sym (first.lists.outcome.fails.broken write) ∙ works));
      }
      ended (inr (inl memory)) = record {
        outcome = first.lists.outcome;
        done = tt;
        stops = λ other. inl memory;
        reads = first.reads;
        succeeds = λ has none works. memory;
      }
      ended (inr (inr read)) = record {
        outcome = first.lists.outcome;
        done = tt;
        stops = λ other. elim (first.lists.stops read) [
          | inl first_byte ↦ inr (inl first_byte)
          | inr in_vain ↦ inr (inr (first.left, first.leaves, (in_vain.0, inl in_vain.1)))
        ];
        reads = first.reads;
        succeeds = λ has none works. absurd (true≢false (sym (first.reads.1 read) ∙ ap is_some none));
      }

  pub answers_first : (hex wide : Bool) (answer : Result ℕ RunFault) (cause : Option Error) → hex ≡ false → wide ≡ true →
      ListsFirstOf outlet listing known most old new answer cause → AnswersListing outlet hex wide listing known most old new answer cause
  answers_first true wide answer cause plain flag first = absurd (true≢false plain)
  answers_first false false answer cause plain flag first = absurd (true≢false (sym flag))
  answers_first false true answer cause plain flag first = answers_wide answer cause first

  -- nothing is said of the spelling
  pub says_first : (hex wide : Bool) (answer : Result ℕ RunFault) (cause : Option Error) → ListsFirstOf outlet listing known most old new answer cause →
      TellsInput known hex wide most answer None
  says_first hex wide (Ok status) cause first = inr (refl, plain_left known first.left first.leaves first.lists.is_plain)
  says_first hex wide (Err fault) cause first = told first.lists.ends
    where
      told : EndsAtOnce fault → TellsInput {T = ℕ} known hex wide most (Err fault) None
      told (inl write) = inr (refl, plain_left known first.left first.leaves (first.lists.is_plain write))
      told (inr (inl memory)) = inl (λ flag. subst IsUnread (sym memory) tt)
      told (inr (inr read)) = inl (λ flag. subst IsUnread (sym read.1) tt)

-- where the input is not refused the answer ends the run
pub ends_accepted : {T : Type 0} (answer : Result T RunFault) → refuses_input answer ≡ false → IfErr answer EndsAtOnce
ends_accepted (Ok value) is = tt
ends_accepted (Err (Write written)) is = inl tt
ends_accepted (Err Memory) is = inr (inl refl)
ends_accepted (Err (Read place)) is = inr (inr (place, refl))
ends_accepted (Err HexText) is = absurd (true≢false is)
ends_accepted (Err (Refused refusal)) is = absurd (true≢false is)
ends_accepted (Err (RefusedIn refusal)) is = absurd (true≢false is)

-- where it is, this holds, which does after any fault but one of writing
pub of_refused : {T : Type 0} (answer : Result T RunFault) (Holds : Type 0) → refuses_input answer ≡ true → IfErr answer (λ fault. ¬ IsWrite fault → Holds) → Holds
of_refused (Err (Refused refusal)) Holds is holds = holds (λ write. write)
of_refused (Err (RefusedIn refusal)) Holds is holds = holds (λ write. write)
of_refused (Err HexText) Holds is holds = holds (λ write. write)
of_refused (Ok value) Holds is holds = absurd (true≢false (sym is))
of_refused (Err (Write written)) Holds is holds = absurd (true≢false (sym is))
of_refused (Err Memory) Holds is holds = absurd (true≢false (sym is))
of_refused (Err (Read place)) Holds is holds = absurd (true≢false (sym is))

-- a source of these bytes is listed as it is
module _ {W : Type 0} (outlet : W → Outlet) (listing : Listing) (left : Option (List ℕ)) (failed : Bool) (after : Supply) (most : ℕ) (old new : Writing W) where
  pub lists_first : (answer : Result ℕ RunFault) → refuses_input answer ≡ false → ListsSupply outlet false listing (record { left = left; failed = failed }) after most old new answer →
      IsOfFile left answer → ListsFirst outlet listing left most old new answer
  lists_first (Ok status) is lists of_file = record {
    outcome = lists.outcome;
    done = lists_plainly outlet status listing left failed after old new lists.done;
    ends = tt;
    stops = tt;
    is_plain = plain_known left of_file;
  }
  lists_first (Err fault) is lists of_file = record {
    outcome = lists.outcome;
    done = tt;
    ends = ends_accepted {T = ℕ} (Err fault) is;
    stops = λ (place, read).
        let stops : StopsListing listing (record { left = left; failed = failed }) after most (Read place) =
        subst (λ (f : RunFault). StopsListing listing (record { left = left; failed = failed }) after most f) read (lists.stops (subst (λ (f : RunFault). ¬ IsWrite f) (sym read) (λ write. write))) in
        inr (after, subst (λ (f : RunFault). ReadsInVain f (unread left) after most) (sym read) (listing_failed listing (record { left = left; failed = failed }) after most place stops));
    is_plain = written fault of_file;
  }
    where
      written : (fault : RunFault) → IsOfFile {T = ℕ} left (Err fault) → IsWrite fault → IsPlain left
      written (Write count) of_file write = plain_known left of_file
      written fault of_file write = absurd write

-- ---- what is written of a file is written of its plain spelling

module _ (first made : Option MadeFile) (known : Option (List ℕ)) (output : List ℕ) (strip : Bool) (most : ℕ) where
  rewritten_plain : (done : Rewritten) (bytes written : List ℕ) → IsRewritten strip done bytes written → IsRewritten strip done (plain bytes) written
  rewritten_plain done bytes written is = subst (λ (xs : List ℕ). IsRewritten strip done xs written) (sym (plain_file bytes (rewritten_file strip done bytes written is))) is

  whole_plain : (done : Rewritten) → RewritesInput known (RewritesTo first made output strip false done) most → RewritesInput known (RewritesTo first made output strip true done) most
  whole_plain done (left, leaves, (after, reads)) =
      let to = reads.holds in (
        left,
        leaves,
        (
          after,
          record {
            input = reads.input;
            read = reads.read;
            holds = record { text = to.text; is_rewritten = rewritten_plain done reads.input to.text to.is_rewritten; told = to.told; makes = to.makes };
          },
        ),
      )

  first_plain : (written : ℕ) → RewritesInput known (RewritesFirst first made output strip false written) most → RewritesInput known (RewritesFirst first made output strip true written) most
  first_plain written (left, leaves, (after, reads)) =
      let to = reads.holds in (
        left,
        leaves,
        (
          after,
          record {
            input = reads.input;
            read = reads.read;
            holds = record {
              text = to.text;
              is_text = (to.is_text.0, rewritten_plain to.is_text.0 reads.input to.text to.is_text.1);
              count = to.count;
              fits = to.fits;
              makes = to.makes;
              told = to.told;
            };
          },
        ),
      )

  plain_read : (Holds : List ℕ → Type 0) → ((input : List ℕ) → Holds input → AreFile input) → RewritesInput known Holds most → IsPlain known
  plain_read Holds file (left, leaves, (after, reads)) =
      plain_left known left leaves (plain_known left (read_file (unread left) after most reads.input reads.read (file reads.input reads.holds)))

  -- a file of which reading fails was not read, whatever is asked of it
  unread_file : (fault : RunFault) (before after : Supply) → IsRead fault → ReadsNoFile before after most fault → ReadsInVain fault before after most
  unread_file fault before after read (inl in_vain) = in_vain
  unread_file fault before after (place, is) (inr input) = absurd (subst (λ (f : RunFault). RefusesBytes f input.input) is input.holds)

  stops_unread : (fault : RunFault) → IsRead fault → StopsInput known (λ before after. StopsRewriting false before after most) fault →
      StopsInput known (λ before after. StopsRewriting true before after most) fault
  stops_unread fault read (inl memory) = inl memory
  stops_unread fault read (inr (inl first_byte)) = inr (inl first_byte)
  stops_unread fault read (inr (inr (left, leaves, (after, stops)))) = inr (inr (left, leaves, (after, inl (unread_file fault (unread left) after read stops))))

  -- an answer for the file as it is that ends the run is one for the plain spelling
  pub answers_plain : (result : Result Rewritten RunFault) (cause : Option Error) → IfErr result EndsAtOnce → AnswersRewriting first made known output strip false most result cause →
      AnswersRewriting first made known output strip true most result cause
  answers_plain (Ok done) cause ends answers = record {
    rewrites = whole_plain done answers.rewrites;
    write = tt;
    untouched = tt;
    stops = tt;
    of_system = answers.of_system;
    succeeds = λ has none. tt;
  }
  answers_plain (Err fault) cause (inl write) answers = record {
    rewrites = tt;
    write = λ written is. first_plain written (answers.write written is);
    untouched = answers.untouched;
    stops = λ other. absurd (other write);
    of_system = answers.of_system;
    succeeds = λ has none. absurd (true≢false (sym (subst (λ (c : Option Error). is_some c ≡ true) none (answers.of_system.1 (inr write)))));
  }
  answers_plain (Err fault) cause (inr (inl memory)) answers = record {
    rewrites = tt;
    write = λ written is. absurd (cc (sym memory ∙ is));
    untouched = answers.untouched;
    stops = λ other. inl memory;
    of_system = answers.of_system;
    succeeds = λ has none. memory;
  }
  answers_plain (Err fault) cause (inr (inr read)) answers = record {
    rewrites = tt;
    write = λ written is. absurd (cc (sym read.1 ∙ is));
    untouched = answers.untouched;
    stops = λ other. stops_unread fault read (answers.stops other);
    of_system = answers.of_system;
    succeeds = λ has none. absurd (true≢false (sym (subst (λ (c : Option Error). is_some c ≡ true) none (answers.of_system.1 (inl read)))));
  }

  pub says_plain : (result : Result Rewritten RunFault) (cause : Option Error) → IfErr result EndsAtOnce → AnswersRewriting first made known output strip false most result cause →
      TellsInput known false true most result None
  says_plain (Ok done) cause ends answers =
      inr (refl, plain_read (RewritesTo first made output strip false done) (λ input to. rewritten_file strip done input to.text to.is_rewritten) answers.rewrites)
  says_plain (Err (Write written)) cause ends answers =
      inr (
        refl,
        plain_read (RewritesFirst first made output strip false written) (λ input to. rewritten_file strip to.is_text.0 input to.text to.is_text.1) (answers.write written refl),
      )
  says_plain (Err Memory) cause ends answers = inl (λ flag. tt)
  says_plain (Err HexText) cause (inl write) answers = absurd write
  says_plain (Err HexText) cause (inr (inl memory)) answers = absurd (cc memory)
  says_plain (Err HexText) cause (inr (inr read)) answers = absurd (cc read.1)
  says_plain (Err (Read place)) cause ends answers = inl (λ flag. tt)
  says_plain (Err (Refused refusal)) cause (inl write) answers = absurd write
  says_plain (Err (Refused refusal)) cause (inr (inl memory)) answers = absurd (cc memory)
  says_plain (Err (Refused refusal)) cause (inr (inr read)) answers = absurd (cc read.1)
  says_plain (Err (RefusedIn refusal)) cause (inl write) answers = absurd write
  says_plain (Err (RefusedIn refusal)) cause (inr (inl memory)) answers = absurd (cc memory)
  says_plain (Err (RefusedIn refusal)) cause (inr (inr read)) answers = absurd (cc read.1)

  -- with `--wide`, where the input is not refused
  pub answers_asked : (wide : Bool) (result : Result Rewritten RunFault) (cause : Option Error) → wide ≡ true → refuses_input result ≡ false →
      AnswersRewriting first made known output strip false most result cause → AnswersRewriting first made known output strip wide most result cause
  answers_asked true result cause flag is answers = answers_plain result cause (ends_accepted result is) answers
  answers_asked false result cause flag is answers = absurd (true≢false (sym flag))

  pub says_asked : (wide : Bool) (result : Result Rewritten RunFault) (cause : Option Error) → wide ≡ true → refuses_input result ≡ false →
      AnswersRewriting first made known output strip false most result cause → TellsInput known false wide most result None
  says_asked true result cause flag is answers = says_plain result cause (ends_accepted result is) answers
  says_asked false result cause flag is answers = absurd (true≢false (sym flag))
