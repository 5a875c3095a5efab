-- What holds of an input that was read whole, by what holds of its plain spelling.
use Rattle.std.proofs.Common.{◌≡◌, ◌∙◌, ◌+◌, ◌<◌, ℕ, length, Bool, false, true, true≢false, List, Option, Some, None, Result, Ok, Err, inr, refl, subst, sym}
use Rattle.std.specs.Prelude.{IfOk, IfSome}
use Rattle.std.proofs.KnownBytes.{Consumes-whole}
use Rattle.std.proofs.lemmas.Result.{IfErr-weaker, IfOk-weaker}
use Rattle.hunk_words.specs.Carriers.{Outlet, Supply, Writing, saturated}
use Rattle.hunk_wide.specs.Plain.{plain}
use Rattle.hunk_wide.specs.declared.spelling.Spelling.{Spelling}
use Rattle.hunk_commands.specs.Engine.{PutsOrRefuses, ReadsThenPuts}
use Rattle.hunk_commands.specs.HexText.{ReadsHex, SpellsHex}
use Rattle.hunk_commands.specs.Inputs.{ReadsWhole, TellsReading}
use Rattle.hunk_commands.specs.Rewritten.{IsRewritten}
use Rattle.hunk_commands.specs.declared.fault.RunFault.{RunFault}
use Rattle.hunk_commands.specs.declared.fault.RunFault.TheVariants.{HexText, Memory, Read, Refused, RefusedIn, Write}
use Rattle.hunk_commands.specs.declared.rewriting.Rewritten.{Rewritten}
use Rattle.hunk_run.specs.Asked.{AsksListing, AsksRewriting, HasAsked}
use Rattle.hunk_run.specs.Inputs.{HasListed, unread}
use Rattle.hunk_run.specs.Stores.{Leaves}
use Rattle.hunk_run.specs.Wide.{AreListed, HasBytes, IsSpellingOf, ListsBytes, ListsPlain, ListsWide, ReadsBytes, RewritesPlain, placed}
use Rattle.hunk_run.specs.declared.listing.Listing.{Listing}
use Rattle.hunk_run.specs.declared.listing.Listing.TheVariants as listings

-- a text that was read to its end spells no other bytes
pub same_bytes : (before after : Supply) (most : ℕ) (text bytes items : List ℕ) → before.left ≡ Some text → SpellsHex text bytes → ReadsHex before after most items → bytes ≡ items
same_bytes before after most text bytes items known spells read =
    let whole = Consumes-whole before.left after.left read.input (λ xs. SpellsHex xs items) read.read.given read.read.at_end read.holds in
    let also : SpellsHex text items = subst (λ (o : Option (List ℕ)). IfSome o (λ xs. SpellsHex xs items)) known whole in
    cc

-- the input that it has is the one that was read
same_input : (hex : Bool) (before after : Supply) (most : ℕ) (known input : List ℕ) → HasBytes hex before most known → ReadsBytes hex before after most input → known ≡ input
same_input true before after most known input (text, left, few, spells) read = same_bytes before after (most + 1) text known input left spells read
same_input false before after most known input (left, few) read =
    subst (λ (o : Option (List ℕ)). IfSome o (λ xs. xs ≡ input)) left (Consumes-whole before.left after.left input (λ xs. xs ≡ input) read.given read.at_end refl)

lists_read : {W : Type 0} (outlet : W → Outlet) (hex : Bool) (status : ℕ) (listing : Listing) (before after : Supply) (most : ℕ) (old new : Writing W) (input : List ℕ) →
    ReadsBytes hex before after most input → ListsBytes outlet status listing (plain input) old new → ListsWide outlet hex status listing before after old new
lists_read outlet true status listing before after most old new input read lists =
    record { given = read.input; consumed = read.read.given; at_end = read.read.at_end; input = input; is_input = read.holds; lists = lists }
lists_read outlet false status listing before after most old new input read lists =
    record { given = input; consumed = read.given; at_end = read.at_end; input = input; is_input = refl; lists = lists }

module _ {T W : Type 0} (outlet : W → Outlet) (before after : Supply) (most : ℕ) (old new : Writing W) (input : List ℕ) (list : T) (spelling : Spelling)
    (sound : TellsReading before after (Ok list)) (told : IsSpellingOf spelling input) where
  pub lists_wide : (hex : Bool) (listing : Listing) (result : Result ℕ RunFault) → ReadsBytes hex before after most input →
      ListsPlain outlet listing input most old new result → AsksListing outlet hex true listing before after most old new result (Some spelling)
  lists_wide hex listing result read lists = record {
    outcome = lists.outcome;
    done = IfOk-weaker result _ _ (λ status done. lists_read outlet hex status listing before after most old new input read done) lists.done;
    succeeds = λ has works writes.
        (let same = same_input hex before after most has.input input has.has read in
        lists.succeeds (subst (λ (xs : List ℕ). length (plain xs) < most) same has.few) (subst (λ (xs : List ℕ). AreListed listing (plain xs) most) same has.listed) writes);
    tells_read = λ fresh now. absurd (sound fresh now);
    stops = IfErr-weaker result _ _ (λ fault stops other. inr (input, read, stops other)) lists.stops;
    spelled = (refl, (input, read, told));
  }

  pub rewrites_wide : (strip : Bool) (result : Result Rewritten RunFault) → ReadsWhole before after most input →
      RewritesPlain outlet strip input most old new result → AsksRewriting outlet strip true before after most old new result (Some spelling)
  rewrites_wide strip result read writes = record {
    done = IfOk-weaker result _ _ (λ done puts. record { input = input; read = read; holds = puts }) writes.done;
    counted = writes.counted;
    no_failure = writes.no_failure;
    write = IfErr-weaker result _ _ (λ fault stops written is. (let stop = stops written is in (stop.0, record { input = input; read = read; holds = stop.1 }))) writes.write;
    fails = writes.fails;
    succeeds = λ has works sink.
        (let same = same_input false before after most has.input input has.has read in
        writes.succeeds (subst (λ (xs : List ℕ). length (plain xs) < most) same has.few) (subst (λ (xs : List ℕ). AreListed listings.Show (plain xs) most) same has.listed) sink);
    tells_read = λ fresh now. absurd (sound fresh now);
    stops = IfErr-weaker result _ _ (λ fault stops other. inr (input, read, stops other)) writes.stops;
    spelled = (refl, (input, read, told));
  }

-- ---- what is written

-- what comes of writing bytes, where these are the plain spelling: a fault is told as one of the input
abbrev pub told_of : {T : Type 0} → List ℕ → Result T RunFault → Result T RunFault
told_of input (Ok value) = Ok value
told_of input (Err fault) = Err (placed input fault)

module _ {W : Type 0} (outlet : W → Outlet) (strip : Bool) (input : List ℕ) (most : ℕ) (old new : Writing W) where
  abbrev Puts : Result Rewritten RunFault → Type 0
  Puts result = PutsOrRefuses outlet (λ done. IsRewritten strip done (plain input)) (plain input) old new result

  abbrev Writes : Result Rewritten RunFault → Type 0
  Writes result = RewritesPlain outlet strip input most old new result

  writes_told : (result : Result Rewritten RunFault) → Puts result → IfOk result (λ done. done.written ≡ saturated new.written) → Writes (told_of input result)
  writes_told (Ok done) puts counted =
      record { done = puts.done; counted = counted; no_failure = puts.no_failure; write = tt; fails = tt; stops = tt; succeeds = λ few is works. tt }
  writes_told (Err (Write written)) puts counted = record {
    done = tt;
    counted = tt;
    no_failure = tt;
    write = puts.write;
    fails = puts.fails;
    stops = λ other. absurd (other tt);
    succeeds = λ few is works. absurd (true≢false (sym (puts.fails.broken tt) ∙ works));
  }
  writes_told (Err (RefusedIn refusal)) puts counted = record {
    done = tt;
    counted = tt;
    no_failure = tt;
    write = λ written same. (let clash : ⊥ = cc in absurd clash);
    fails = record { broken = λ write. absurd write; untouched = λ other. puts.fails.untouched (λ is. is) };
    stops = λ other. record { own = RefusedIn refusal; stops = inr (puts.refused (λ is. is)); told = refl };
    succeeds = λ few is works. absurd (puts.succeeds is);
  }
  writes_told (Err Memory) puts counted = absurd (puts.refused (λ is. is))
  writes_told (Err HexText) puts counted = absurd (puts.refused (λ is. is))
  writes_told (Err (Read place)) puts counted = absurd (puts.refused (λ is. is))
  writes_told (Err (Refused refusal)) puts counted = absurd (puts.refused (λ is. is))

  pub writes_plain : (bytes : List ℕ) (own result : Result Rewritten RunFault) → bytes ≡ plain input → result ≡ told_of input own →
      PutsOrRefuses outlet (λ done. IsRewritten strip done bytes) bytes old new own → IfOk own (λ done. done.written ≡ saturated new.written) →
      RewritesPlain outlet strip input most old new result
  writes_plain bytes own result is told puts counted =
      subst Writes (sym told) (writes_told own (subst (λ (xs : List ℕ). PutsOrRefuses outlet (λ done. IsRewritten strip done xs) xs old new own) is puts) counted)

-- without `--wide` it is what is written of the input itself
pub rewrites_same : {W : Type 0} (outlet : W → Outlet) (strip wide : Bool) (before after : Supply) (most : ℕ) (old new : Writing W) (result : Result Rewritten RunFault) →
    wide ≡ false → ReadsThenPuts outlet (IsRewritten strip) before after most old new result → IfOk result (λ done. done.written ≡ saturated new.written) →
    AsksRewriting outlet strip wide before after most old new result None
rewrites_same outlet strip true before after most old new result flag puts counted = absurd (true≢false flag)
rewrites_same outlet strip false before after most old new result flag puts counted = record {
  done = puts.done;
  counted = counted;
  no_failure = puts.no_failure;
  write = puts.write;
  fails = puts.fails;
  succeeds = puts.succeeds;
  tells_read = puts.tells_read;
  stops = puts.refused;
  spelled = λ wanted. absurd (true≢false (sym wanted));
}

-- ---- an input that can be asked for

no_bytes : (hex : Bool) (most : ℕ) (input : List ℕ) → HasBytes hex (unread None) most input → ⊥
no_bytes true most input (text, left, few, spells) = cc
no_bytes false most input (left, few) = cc

none_listed : (listing : Listing) (most : ℕ) → HasListed listing (unread None) most → ⊥
none_listed listings.Show most has = let left = has.left in cc
none_listed listings.Validate most has = let left = has.left in cc
none_listed (listings.Relocate base budget) most has = let left = has.split in cc

none_asked : (hex wide : Bool) (listing : Listing) (most : ℕ) → HasAsked hex wide listing (unread None) most → ⊥
none_asked hex true listing most has = no_bytes hex most has.input has.has
none_asked true false listing most has = let left = has.left_is in cc
none_asked false false listing most has = none_listed listing most has

-- what is known of it is what is left of its reader
pub asked_left : (hex wide : Bool) (listing : Listing) (known left : Option (List ℕ)) (most : ℕ) → Leaves known left → HasAsked hex wide listing (unread known) most →
    HasAsked hex wide listing (unread left) most
asked_left hex wide listing None left most leaves has = absurd (none_asked hex wide listing most has)
asked_left hex wide listing (Some bytes) left most leaves has = subst (λ (o : Option (List ℕ)). HasAsked hex wide listing (unread o) most) (sym leaves) has
