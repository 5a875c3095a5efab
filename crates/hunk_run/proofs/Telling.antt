-- What a run lists or rewrites, by what an engine function has written.
use Rattle.std.proofs.Common.{◌≡◌, ◌++◌, ◌∙◌, ℕ, Bool, true, false, List, [], Option, Some, None, length, take, refl, ap, sym, subst, arith, append-nil, append_assoc}
use Rattle.std.specs.Prelude.{Ok}
use Rattle.std.specs.Io.KnownBytes.{Consumes, IsAtEnd}
use Rattle.std.proofs.lemmas.List.{take_all}
use Rattle.hunk_words.specs.Carriers.{Outlet, Supply, Writing, saturated}
use Rattle.hunk_words.specs.Longs.{bytes_of}
use Rattle.hunk_files.specs.LoadText.{text}
use Rattle.hunk_scatter.specs.declared.loading.Limits.{Limits}
use Rattle.hunk_commands.specs.Engine.{PutsAll, PutsFirst}
use Rattle.hunk_commands.specs.Output.{Takes}
use Rattle.hunk_run.specs.OutFile.{OutFile, file_outlet}
use Rattle.hunk_run.specs.Orders.{RewritesTo}
use Rattle.hunk_run.specs.Wide.{meant}
use Rattle.hunk_run.specs.Stores.{MadeFile, MakesAtMost, MakesFirst, MakesWhole}
use Rattle.hunk_commands.specs.Rewritten.{IsRewritten}
use Rattle.hunk_commands.specs.declared.rewriting.Rewritten.{Rewritten}
use Rattle.hunk_run.specs.declared.listing.Listing.{Listing}
use Rattle.hunk_run.specs.declared.listing.Listing.TheVariants as listings
use Rattle.hunk_commands.specs.HexText.{SpellsHex}
use Rattle.hunk_commands.specs.Inputs.{ReadsInput}
use Rattle.hunk_commands.specs.Relocating.{IsListingOf, Relocates}
use Rattle.hunk_run.specs.Runs.{IsListed, ListsSource, StopsReading}

-- a text that was put whole
pub takes_whole : {W : Type 0} (outlet : W → Outlet) (old new : Writing W) (Is : List ℕ → Type 0) (all : PutsAll outlet Is old new) → Takes outlet old new all.0.text
takes_whole outlet old new Is all = subst (λ (xs : List ℕ). Takes outlet old new xs) (take_all all.0.puts.count all.0.text (omega (arith, all.0.puts.rose, all.1))) all.0.puts.gone

-- an input that was read to its end
pub lists_source : {W : Type 0} (outlet : W → Outlet) (old new : Writing W) (status : ℕ) (listing : Listing) (Is : List ℕ → List ℕ → Type 0)
    (before after : Supply) (most : ℕ) → ((input text : List ℕ) → Is input text → IsListed status listing input text) →
    ((given : List ℕ) → IsAtEnd after.left → StopsReading false listing given after) →
    ReadsInput (λ input. PutsAll outlet (Is input) old new) before after most → ListsSource outlet false status listing before after old new
lists_source outlet old new status listing Is before after most listed at_end all = record {
  given = all.input;
  consumed = all.read.given;
  stops = at_end all.input all.read.at_end;
  input = all.input;
  is_input = refl;
  text = all.holds.0.text;
  is_listed = listed all.input all.holds.0.text all.holds.0.is_text;
  takes = takes_whole outlet old new (Is all.input) all.holds;
}

-- a load file that was loaded as it came
pub lists_loaded : {W T : Type 0} (outlet : W → Outlet) (old new : Writing W) (base : ℕ) (limits : Limits) (before after : Supply) (value : T) →
    Relocates {T = T} outlet base limits before after old new (Ok value) → ListsSource outlet false 0 (listings.Relocate base limits.budget) before after old new
lists_loaded outlet old new base limits before after value all =
    let is = all.done.0.is_text in
    record {
      given = all.given;
      consumed = all.gives.consumed;
      stops = (is.file, is.is_listing.is_file, is.given_is);
      input = all.given;
      is_input = refl;
      text = all.done.0.text;
      is_listed = (refl, record { file = is.file; is_listing = is.is_listing; rest = []; split = is.given_is ∙ sym (append-nil (bytes_of (text is.file))) });
      takes = takes_whole outlet old new (IsListingOf base limits.budget all.given) all.done;
    }

-- what is printed of a front is printed of the bytes, where the reading stops after it
listed_front : (status : ℕ) (listing : Listing) (bytes given written rest : List ℕ) (failed : Bool) → bytes ≡ given ++ rest →
    StopsReading false listing given (record { left = Some rest; failed = failed }) → IsListed status listing given written → IsListed status listing bytes written
listed_front status listings.Show bytes given written rest failed split stops is =
    subst (λ (xs : List ℕ). IsListed status listings.Show xs written) (sym (split ∙ ap (λ (xs : List ℕ). given ++ xs) stops ∙ append-nil given)) is
listed_front status listings.Validate bytes given written rest failed split stops is =
    subst (λ (xs : List ℕ). IsListed status listings.Validate xs written) (sym (split ∙ ap (λ (xs : List ℕ). given ++ xs) stops ∙ append-nil given)) is
listed_front status (listings.Relocate base budget) bytes given written rest failed split stops (done, is) =
    let file = bytes_of (text is.file) in (
      done,
      record {
        file = is.file;
        is_listing = is.is_listing;
        rest = is.rest ++ rest;
        split = split ∙ ap (λ (xs : List ℕ). xs ++ rest) is.split ∙ append_assoc file is.rest rest;
      },
    )

pub listed_slice : (status : ℕ) (listing : Listing) (bytes given written : List ℕ) (left : Option (List ℕ)) (failed : Bool) → Consumes (Some bytes) left given →
    StopsReading false listing given (record { left = left; failed = failed }) → IsListed status listing given written → IsListed status listing bytes written
listed_slice status listing bytes given written (Some rest) failed consumed stops is = listed_front status listing bytes given written rest failed consumed stops is
listed_slice status listing bytes given written None failed consumed stops is = absurd consumed

-- the text of a source spells the bytes of which this is printed
pub lists_text : {W : Type 0} (outlet : W → Outlet) (old new : Writing W) (status : ℕ) (listing : Listing) (before after cut rest : Supply) (given bytes : List ℕ) →
    Consumes before.left after.left given → IsAtEnd after.left → SpellsHex given bytes → cut.left ≡ Some bytes → ListsSource outlet false status listing cut rest old new →
    ListsSource outlet true status listing before after old new
lists_text outlet old new status listing before after cut rest given bytes consumed at_end spells known lists = record {
  given = given;
  consumed = consumed;
  stops = at_end;
  input = bytes;
  is_input = spells;
  text = lists.text;
  is_listed = listed_slice status listing bytes lists.given lists.text rest.left rest.failed (subst (λ (o : Option (List ℕ)). Consumes o rest.left lists.given) known lists.consumed) lists.stops
      (subst (λ (xs : List ℕ). IsListed status listing xs lists.text) lists.is_input lists.is_listed);
  takes = lists.takes;
}

-- ---- OUT, of which nothing was pushed at first; `kept` is the file as it is in the end

module _ (old new : Writing OutFile) (kept : OutFile) (first outset made : Option MadeFile) (name output : List ℕ) (written : ℕ)
    (empty : old.sink.taken ≡ []) (unwritten : old.written ≡ 0) (same : kept.taken ≡ new.sink.taken) (told : written ≡ saturated new.written)
    (is_first : first ≡ outset) (is_name : output ≡ name) (is_made : made ≡ kept.made) where
  -- what is known of the file is known of what the store has made
  of_store : (Holds : Option MadeFile → Option MadeFile → List ℕ → List ℕ → Type 0) (text : List ℕ) → kept.taken ≡ text → Holds outset kept.made name kept.taken →
      Holds first made output text
  of_store Holds text taken holds =
      subst (λ (o : Option MadeFile). Holds o made output text) (sym is_first)
      (subst (λ (o : Option MadeFile). Holds outset o output text) (sym is_made)
      (subst (λ (xs : List ℕ). Holds outset kept.made xs text) (sym is_name)
      (subst (λ (xs : List ℕ). Holds outset kept.made name xs) taken holds)))

  taken_of : (Is : List ℕ → Type 0) (puts : PutsFirst file_outlet Is old new) → kept.taken ≡ take puts.puts.count puts.text
  taken_of Is puts = same ∙ puts.puts.gone ∙ ap (λ (xs : List ℕ). xs ++ take puts.puts.count puts.text) empty

  -- it has taken the first bytes of a text
  pub makes_first : (Is : List ℕ → Type 0) → MakesAtMost outset kept.made name kept.taken → PutsFirst file_outlet Is old new → MakesFirst Is first made output written
  makes_first Is makes puts = record {
    text = puts.text;
    is_text = puts.is_text;
    count = puts.puts.count;
    fits = puts.puts.fits;
    makes = of_store MakesAtMost (take puts.puts.count puts.text) (taken_of Is puts) makes;
    told = told ∙ ap saturated (let all : new.written ≡ puts.puts.count = omega (arith, puts.puts.rose, unwritten) in all);
  }

  -- it has taken all of what a rewriting writes
  pub rewrites_to : (strip wide : Bool) (done : Rewritten) (input : List ℕ) → done.written ≡ written → MakesWhole outset kept.made name kept.taken →
      PutsAll file_outlet (IsRewritten strip done (meant wide input)) old new → RewritesTo first made output strip wide done input
  rewrites_to strip wide done input count makes (puts, all) =
      let whole : puts.puts.count ≡ length puts.text = omega (arith, puts.puts.rose, all) in
      record {
        text = puts.text;
        is_rewritten = puts.is_text;
        told = count ∙ told ∙ ap saturated (let bytes : new.written ≡ length puts.text = omega (arith, all, unwritten) in bytes);
        makes = of_store MakesWhole puts.text (taken_of (IsRewritten strip done (meant wide input)) puts ∙ take_all puts.puts.count puts.text (omega (arith, whole))) makes;
      }
