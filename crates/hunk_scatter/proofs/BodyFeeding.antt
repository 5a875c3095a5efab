-- A piece of a source that the loader of a body is fed, and why none is.
use Rattle.std.proofs.Common.{◌≡◌, ℕ, zero, suc, ◌+◌, ◌^◌, ◌<◌, ◌≤◌, List, [], ◌++◌, length, take, drop, None, Ok, Err, true, false, refl, sym, ap, subst, ◌∙◌, append_assoc, append-nil, take-append-drop, length-append, arith, inl, inr}
use Rattle.std.proofs.lemmas.List.{length-take-le, take-take}
use Rattle.std.specs.{Prelude.IsTrue, Io.KnownBytes.Consumes}
use Rattle.hunk_words.specs.{Carriers.Supply, declared.fault.Fault.Fault}
use Rattle.hunk_grammar.specs.declared.file_kind.Sniff.TheVariants as sniffs
use Rattle.hunk_files.specs.{Fault.HasRefusal, FileParts.IsPartAt, declared.row.Row.Row}
use Rattle.hunk_files.specs.declared.part.Part.TheVariants as parts
use Rattle.hunk_scatter.specs.{BodyFeeds.{FeedsMore, IsCutShort}, LoadOutcomes.{GoesPastNoFile, IsBodyStop, IsReadFault}, LoadRefusals.IsFaultIn}
use Rattle.hunk_scatter.specs.{LoaderReasons.is_of_body, LoaderValues.{BodyLoaderValue, FeedsFront, HasNoRefusal, IsBodyRefusal, IsHunkRefusal, IsWholeFile, MayGoOnInFile}}
use Rattle.hunk_scatter.proofs.{Faults.{no_refusal_on, part_within, refusal_after, refusal_ends, refusal_told, refusal_within, told_at}, Feeding.{file_fed, file_within_more}, PartLaws.read_fault_in}

-- nothing was given
pub none_given : (old new : Supply) (limit : ℕ) (loader : BodyLoaderValue) (want : ℕ) (f : Fault) → Consumes old.left new.left [] → length loader.fed ≤ limit → IsCutShort loader want →
    IsReadFault limit new (length loader.fed) f → FeedsMore old new limit loader loader (Err f)
none_given old new limit loader want f consumed within short why =
    let same : loader.fed ≡ loader.fed ++ [] = sym (append-nil loader.fed) in
    record {
      piece = [];
      consumed = consumed;
      within = omega (arith, within, ap length same);
      in_file = file_within_more loader.fed [] want short.least (omega arith) _ short.truncated;
      rows = refl;
      fed = tt;
      works = tt;
      stops = subst (λ (bs : List ℕ). IsBodyStop limit new bs f × IsFaultIn bs (parts.Hunk loader.hunk) f) same
          (inr (record { clean = short.clean; truncated = short.truncated; why = why }), read_fault_in _ _ loader.fed _ f why short.of_hunk);
    }

-- a longword of the piece is refused, so that no file is in front of more
pub refused : (old new : Supply) (limit : ℕ) (before after : BodyLoaderValue) (piece : List ℕ) (f : Fault) → Consumes old.left new.left piece → length (before.fed ++ piece) ≤ limit → limit < 2 ^ 64 →
    after.rows ≡ before.rows → IsHunkRefusal (before.fed ++ piece) after.hunk f → IsTrue (is_of_body f.reason) → (MayGoOnInFile (before.fed ++ piece) → false ≡ true) → FeedsMore old new limit before after (Err f)
refused old new limit before after piece f consumed within bound rows refusal own no_file =
    let short : length (before.fed ++ piece) < 2 ^ 64 = omega (arith, within, bound) in
    record {
      piece = piece;
      consumed = consumed;
      within = within;
      in_file = λ v more is e. absurd (let clash : false ≡ true = no_file (record { value = v; is_load_file = is; more = more; fits = inr e }) in cc);
      rows = rows;
      fed = tt;
      works = tt;
      stops = (
        inl (record { refusal = refusal_told _ _ short refusal.refusal; own_reasons = own }),
        λ judged. subst (λ (n : ℕ). IsPartAt sniffs.Load (before.fed ++ piece) n (parts.Hunk after.hunk)) (told_at _ _ short refusal.refusal) refusal.of_hunk,
      );
    }

-- all of the piece was taken, as it has no more than is wanted
pub whole_piece : (old new : Supply) (limit : ℕ) (before after : BodyLoaderValue) (piece : List ℕ) (want n : ℕ) → Consumes old.left new.left piece → length (before.fed ++ piece) ≤ limit → new.failed ≡ old.failed →
    IsCutShort before want → length piece ≤ want → 0 < length piece → after.rows ≡ before.rows → after.refused ≡ None → FeedsFront before.fed piece after.fed n →
    (n < length piece → IsWholeFile after.rows after.fed) → FeedsMore old new limit before after (Ok tt)
whole_piece old new limit before after piece want n consumed within works short fits some rows reading taken all =
    record {
      piece = piece;
      consumed = consumed;
      within = within;
      in_file = file_within_more before.fed piece want short.least fits _ short.truncated;
      rows = rows;
      fed = (reading, file_fed before.fed piece want short.least fits after.rows after.fed n taken.0 taken.1 all, some);
      works = works;
      stops = tt;
    }

-- ---- of what the source holds

-- the longword that is refused ends in the piece
pub refused_in : (fed piece : List ℕ) (f : Fault) → HasNoRefusal fed → length (fed ++ piece) < 2 ^ 64 → IsBodyRefusal (fed ++ piece) f → (length fed < f.place + 4) × (f.place + 4 ≤ length (fed ++ piece))
refused_in fed piece f clean few r =
    let h : HasRefusal (fed ++ piece) f.place f.reason = refusal_told (fed ++ piece) f few r in
    (refusal_after fed piece f.place f.reason clean h, refusal_ends (fed ++ piece) f.place f.reason h)

-- up to its end it is the refusal of the bytes
refusal_cut : (bytes rest : List ℕ) (hunk : ℕ) (f : Fault) → length (bytes ++ rest) < 2 ^ 64 → length bytes ≡ f.place + 4 → IsHunkRefusal (bytes ++ rest) hunk f → IsHunkRefusal bytes hunk f
refusal_cut bytes rest hunk f few ends k =
    let is : k.refusal.0 ≡ f.place = told_at (bytes ++ rest) f few k.refusal in
    record {
      refusal = (k.refusal.0, refusal_within bytes rest k.refusal.0 f.reason k.refusal.1 (omega (arith, is, ends)), k.refusal.2);
      of_hunk = part_within sniffs.Load bytes rest k.refusal.0 (parts.Hunk hunk) k.of_hunk (omega (arith, is, ends));
    }

-- what is held was taken up to the end of the longword that is refused
pub held_refused : (old new : Supply) (limit : ℕ) (before after : BodyLoaderValue) (shown : List ℕ) (most n : ℕ) (f : Fault) → Consumes old.left new.left (take n shown) → length before.fed + most ≤ limit → limit < 2 ^ 64 →
    most ≤ length shown → length before.fed + n ≡ f.place + 4 → n ≤ most → after.rows ≡ before.rows → IsHunkRefusal (before.fed ++ take most shown) after.hunk f → IsTrue (is_of_body f.reason) →
    FeedsMore old new limit before after (Err f)
held_refused old new limit before after shown most n f consumed within bound fits ends le rows k own =
    let count : length (take n shown) ≡ n = length-take-le n shown (omega (arith, le, fits)) in
    let size : length (before.fed ++ take n shown) ≡ f.place + 4 = omega (arith, length-append before.fed (take n shown), count, ends) in
    let joined : before.fed ++ take most shown ≡ (before.fed ++ take n shown) ++ drop n (take most shown) =
    ap (λ (xs : List ℕ). before.fed ++ xs) (sym (take-append-drop n (take most shown)))
    ∙ ap (λ (xs : List ℕ). before.fed ++ (xs ++ drop n (take most shown))) (take-take n most shown le)
    ∙ sym (append_assoc before.fed (take n shown) (drop n (take most shown))) in
    let few : length ((before.fed ++ take n shown) ++ drop n (take most shown)) < 2 ^ 64 = omega (arith, ap length joined, length-append before.fed (take most shown), length-take-le most shown fits, within, bound) in
    let cut : IsHunkRefusal (before.fed ++ take n shown) after.hunk f =
    refusal_cut (before.fed ++ take n shown) (drop n (take most shown)) after.hunk f few size (subst (λ (bs : List ℕ). IsHunkRefusal bs after.hunk f) joined k) in
    refused old new limit before after (take n shown) f consumed (omega (arith, length-append before.fed (take n shown), count, le, within)) bound rows cut own (λ on. absurd (no_refusal_on _ _ _ on cut.refusal.1))

-- where no file is whole yet, something is taken
some_taken : (before after : BodyLoaderValue) (n : ℕ) (piece : List ℕ) → 0 < length piece → (IsWholeFile before.rows before.fed → ⊥) → after.rows ≡ before.rows → FeedsFront before.fed piece after.fed n →
    (n < length piece → IsWholeFile after.rows after.fed) → 0 < n
some_taken before after zero piece some goes_on rows taken all =
    absurd (goes_on (subst (λ (rs : List Row). IsWholeFile rs before.fed) rows (subst (IsWholeFile after.rows) (taken.1 ∙ append-nil before.fed) (all some))))
some_taken before after (suc n) piece some goes_on rows taken all = omega arith

-- the front of what is held was taken
pub held_taken : (old new : Supply) (limit : ℕ) (before after : BodyLoaderValue) (shown : List ℕ) (most n : ℕ) → Consumes old.left new.left (take n shown) → length before.fed + most ≤ limit → most ≤ length shown →
    0 < most → new.failed ≡ old.failed → (IsWholeFile before.rows before.fed → ⊥) → after.rows ≡ before.rows → after.refused ≡ None → FeedsFront before.fed (take most shown) after.fed n →
    GoesPastNoFile after.fed → (n < length (take most shown) → IsWholeFile after.rows after.fed) → FeedsMore old new limit before after (Ok tt)
held_taken old new limit before after shown most n consumed within fits positive works goes_on rows reading taken in_file all =
    let size : length (take most shown) ≡ most = length-take-le most shown fits in
    let le : n ≤ most = omega (arith, taken.0, size) in
    let is : after.fed ≡ before.fed ++ take n shown = taken.1 ∙ ap (λ (xs : List ℕ). before.fed ++ xs) (take-take n most shown le) in
    let count : length (take n shown) ≡ n = length-take-le n shown (omega (arith, le, fits)) in
    let some : 0 < n = some_taken before after n (take most shown) (omega (arith, size, positive)) goes_on rows taken all in
    record {
      piece = take n shown;
      consumed = consumed;
      within = omega (arith, length-append before.fed (take n shown), count, le, within);
      in_file = subst GoesPastNoFile is in_file;
      rows = rows;
      fed = (reading, is, omega (arith, count, some));
      works = works;
      stops = tt;
    }
