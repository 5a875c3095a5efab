-- The two stages of a load together, and when a load succeeds.
use Rattle.std.proofs.Common.{rules, ◌≡◌, ℕ, ◌+◌, ◌-◌, ◌*◌, ◌/◌, ◌≤◌, true, false, List, [], ◌∷◌, ◌++◌, length, take, refl, sym, ap, subst, ◌∙◌, append_assoc, append-nil, arith, length-append, Option, Some, None, Result, Ok, Err, ◌⊎◌, inl, inr, min}
use Rattle.std.proofs.Math.Seq.{take-append-add}
use Rattle.std.specs.{Prelude.{IfErr, IsErrAnd, IsTrue, IsSome, MatchResult}, Io.KnownBytes.IsAtEnd}
use Rattle.hunk_words.specs.{Carriers.Supply, Longs.{longs, bytes_of}, declared.fault.Fault.Fault}
use Rattle.hunk_words.specs.declared.reason.Reason.{Reason}
use Rattle.hunk_words.specs.declared.reason.Reason.TheVariants as reasons
use Rattle.hunk_words.proofs.LongLaws.{length-bytes_of, length-longs}
use Rattle.hunk_files.specs.{declared.row.Row.Row, Fault.{Expects, HasRefusal, HasFault, IsTruncated}}
use Rattle.hunk_files.specs.{Image.declared_bytes, LoadFile.{TableEntry, LoadFileValue, IsLoadFile}}
use Rattle.hunk_files.specs.LoadText.{table, text}
use Rattle.hunk_grammar.specs.Roles.{Role as roles}
use Rattle.hunk_scatter.specs.{LoaderReasons.{is_of_header, is_of_file}, HeaderBytes.{IsHeaderTable, header_bytes}}
use Rattle.hunk_scatter.specs.{HeaderFaults.{ExceedsBudget, IsOverBudget, IsHeaderFaultBy}, LoaderValues.{ImageValue, MayGoOnInFile, IsImageOf}, LoadRefusals.fault_of}
use Rattle.hunk_scatter.specs.LoadOutcomes.{Gives, IsHeaderWithin, GoesPastNoFile, IsReadFault, StopsInHeader, StopsShort, IsBodyStop, KeepsToHeader, LoadStop, InHeader, Between, InBody, LoadEnds}
use Rattle.hunk_scatter.specs.{LoadRefusals.{LoadsOrNames, NamesPart, without_part}, declared.load_refusal.LoadRefusal.LoadRefusal}
use Rattle.hunk_scatter.specs.Rows.{entries_of, bases_of}
use Rattle.hunk_scatter.specs.{Placing.{Placing, AreBases, HasBases, IsUnplacedFor}, declared.loading.Limits.Limits}
use Rattle.hunk_scatter.proofs.{Faults.{refusal_more, no_refusal_on}, Feeding.fronts_of}
use Rattle.hunk_scatter.proofs.HeaderFronts.{one_table, text_header, table_within, passes_more, passes_front, refused_front}
use Rattle.hunk_scatter.proofs.LoadLaws.{IsSplit, split_of, stop_is}
use Rattle.std.proofs.lemmas.List.{drop_all, length-take}

-- at the end of what a source has nothing is left
nothing_left : (left : Option (List ℕ)) (rest : List ℕ) → left ≡ Some rest → IsAtEnd left → rest ≡ []
nothing_left None rest e a = absurd cc
nothing_left (Some xs) rest e a = let same : xs ≡ rest = cc in sym same ∙ a

-- ---- the body after its header

pub has_bases : (base : Placing) (t : List TableEntry) (bases : List ℕ) → AreBases base t bases → HasBases base t
has_bases base t bases h i less = subst IsSome (sym (h.each i less)) refl

pub ends_body : (base : Placing) (limits : Limits) (now : Supply) (t : List TableEntry) (header more : List ℕ) (rows : List Row) (result : Result ImageValue Fault) →
    IsHeaderWithin limits.budget header t → entries_of rows ≡ t → AreBases base t (bases_of rows) →
    MatchResult result (λ image. IsImageOf rows (header ++ more) image.segments × (image.rows ≡ rows)) (IsBodyStop limits.file_bytes now (header ++ more)) → LoadEnds base limits now (header ++ more) result
ends_body base limits now t header more rows (Ok placed) h e b (image, same) = search rules
ends_body base limits now t header more rows (Err f) h e b stop = InBody t header more h refl stop

pub body_keeps : (base : Placing) (budget : ℕ) (t : List TableEntry) (header more : List ℕ) → IsHeaderWithin budget header t → HasBases base t → KeepsToHeader base budget (header ++ more)
body_keeps base budget t header more h b u m is e = search (rules, one_table)

-- ---- success

module _ (base : Placing) (limits : Limits) (old now : Supply) (given : List ℕ) (gives : Gives old now limits.file_bytes given) (one : GoesPastNoFile given) (works : now.failed ≡ false) where
  -- a file that fits and can be placed
  module _ (v : LoadFileValue) (rest : List ℕ) (is : IsLoadFile v) (input : old.left ≡ Some (bytes_of (text v) ++ rest)) (fits : length (bytes_of (text v)) ≤ limits.file_bytes) (within : declared_bytes (table v) ≤ limits.budget) (bases : HasBases base (table v)) where
    split : IsSplit old now (bytes_of (text v) ++ rest) given
    split = split_of old now (bytes_of (text v) ++ rest) given input gives.consumed

    -- what was given is a front of the file
    front : (m : List ℕ) × (bytes_of (text v) ≡ given ++ m) × (split.rest ≡ m ++ rest)
    front = go (fronts_of given split.rest (bytes_of (text v)) rest (sym split.split))
      where
        go : ((m : List ℕ) × (given ≡ bytes_of (text v) ++ m) × (m ++ split.rest ≡ rest)) ⊎ ((m : List ℕ) × (bytes_of (text v) ≡ given ++ m) × (split.rest ≡ m ++ rest)) →
            (m : List ℕ) × (bytes_of (text v) ≡ given ++ m) × (split.rest ≡ m ++ rest)
        go (inl (m, p, q)) = search rules
        go (inr k) = k

    on : MayGoOnInFile given
    on = record { value = v; is_load_file = is; more = front.0; fits = inl front.1 }

    no_refusal : (at : ℕ) (r : Reason) → HasRefusal given at r → ⊥
    no_refusal at r h = no_refusal_on given at r on h

    no_pass : (at : ℕ) → ExceedsBudget limits.budget given at → ⊥
    no_pass at p =
        let h = text_header v is in
        table_within (table v) h.0 limits.budget (given ++ front.0) h.1.0 within (sym front.1 ∙ h.1.1) at (passes_more limits.budget given front.0 at p)

    not_whole : (at : ℕ) → IsTruncated given at → front.0 ≡ [] → ⊥
    not_whole at t e = t.not_whole (record { value = v; is_load_file = is; rest = []; split = sym (append-nil given) ∙ ap (λ (xs : List ℕ). given ++ xs) (sym e) ∙ sym front.1 ∙ sym (append-nil (bytes_of (text v))) })

    not_short : (f : Fault) → StopsShort limits.file_bytes now given f → f.reason ≡ reasons.OutOfMemory
    not_short f s = go s.why
      where
        go : IsReadFault limits.file_bytes now (length given) f → f.reason ≡ reasons.OutOfMemory
        go (inl (e, p, c)) = absurd (not_whole _ s.truncated (drop_all 0 front.0 (omega (arith, c, fits, ap length front.1, length-append given front.0))))
        go (inr (inl (e, p, x))) = absurd (let clash : true ≡ false = sym x ∙ works in cc)
        go (inr (inr (e, p, a))) =
            let none = sym front.2 ∙ nothing_left now.left split.rest split.left_is a in
            absurd (not_whole _ s.truncated (drop_all 0 front.0 (omega (arith, ap length none, length-append front.0 rest))))

    by_header : (r : Reason) (at : ℕ) → IsTrue (is_of_header r) → IsHeaderFaultBy r limits.budget given at → r ≡ reasons.OutOfMemory
    by_header reasons.Budget at o h = absurd (no_pass at h)
    by_header reasons.OutOfMemory at o h = refl
    by_header _ at o h = absurd (no_refusal at _ h)

    missing : (t : List TableEntry) (r : Reason) → t ≡ table v → IsUnplacedFor base t r → r ≡ reasons.OutOfMemory
    missing t (reasons.NoBase hunk) e u = search rules
    missing t reasons.OutOfMemory e u = refl
    missing t _ e u = absurd u

    stops : (f : Fault) → LoadStop base limits now given f → f.reason ≡ reasons.OutOfMemory
    stops f (InHeader (inl s)) = by_header f.reason f.place s.own_reasons s.fault
    stops f (InHeader (inr (s, n))) = not_short f s
    stops f (Between t h u p) =
        let k = text_header v is in
        missing t f.reason
        (one_table t (table v) front.0 k.1.0 h.is_table k.0 (ap (λ (xs : List ℕ). xs ++ front.0) (sym h.header) ∙ sym front.1 ∙ k.1.1)) u
    stops f (InBody t header more h e (inl s)) = absurd (no_refusal f.place f.reason s.refusal)
    stops f (InBody t header more h e (inr s)) = not_short f s

    -- It is loaded, unless memory is wanted.
    pub file_loads : (result : Result ImageValue Fault) → LoadEnds base limits now given result → IfErr result (λ f. f.reason ≡ reasons.OutOfMemory)
    file_loads (Ok placed) h = tt
    file_loads (Err f) h = stops f h

  -- ---- a table that passes the budget

  module _ (input : List ℕ) (is : old.left ≡ Some input) (at : ℕ) (p : ExceedsBudget limits.budget (take limits.file_bytes input) at) where
    cut : IsSplit old now input given
    cut = split_of old now input given is gives.consumed

    after : List ℕ
    after = take (limits.file_bytes - length given) cut.rest

    -- the bytes that may be read, around those that were given
    around : take limits.file_bytes input ≡ given ++ after
    unfolding after
    around =
        let n : limits.file_bytes ≡ length given + (limits.file_bytes - length given) = omega (arith, gives.within) in
        ap (take limits.file_bytes) cut.split ∙ ap (λ (k : ℕ). take k (given ++ cut.rest)) n ∙ take-append-add given cut.rest (limits.file_bytes - length given)

    here : ExceedsBudget limits.budget (given ++ after) at
    here = subst (λ (bs : List ℕ). ExceedsBudget limits.budget bs at) around p

    not_in : (t : List TableEntry) (more : List ℕ) → IsHeaderTable t → declared_bytes t ≤ limits.budget → given ≡ header_bytes t ++ more → ⊥
    not_in t more ok le e = table_within t ok limits.budget (given ++ after) (more ++ after) le (ap (λ (xs : List ℕ). xs ++ after) e ∙ append_assoc (header_bytes t) more after) at here

    not_all : after ≡ [] → ((k : ℕ) → ExceedsBudget limits.budget given k → ⊥) → ⊥
    not_all e n = n at (subst (λ (bs : List ℕ). ExceedsBudget limits.budget bs at) (ap (λ (xs : List ℕ). given ++ xs) e ∙ append-nil given) here)

    read_all : (f : Fault) → StopsShort limits.file_bytes now given f → after ≡ []
    unfolding after
    read_all f s = go s.why
      where
        none_taken : min (limits.file_bytes - length given) (length cut.rest) ≡ 0 → take (limits.file_bytes - length given) cut.rest ≡ []
        none_taken e = drop_all 0 (take (limits.file_bytes - length given) cut.rest) (omega (arith, length-take (limits.file_bytes - length given) cut.rest, e))

        go : IsReadFault limits.file_bytes now (length given) f → take (limits.file_bytes - length given) cut.rest ≡ []
        go (inl (e, q, c)) = none_taken (omega (arith, c))
        go (inr (inl (e, q, x))) = absurd (let clash : true ≡ false = sym x ∙ works in cc)
        go (inr (inr (e, q, a))) = none_taken (omega (arith, ap length (nothing_left now.left cut.rest cut.left_is a)))

    outside : (f : Fault) (r : Reason) → f.reason ≡ r → IsTrue (is_of_header r) → IsHeaderFaultBy r limits.budget given f.place → (m : List ℕ) → here.before ≡ longs given ++ m → IsOverBudget at f
    outside f reasons.Budget e o h m d =
        let le = here.first h.before (h.after ++ m) h.word (d ∙ ap (λ (xs : List ℕ). xs ++ m) h.split ∙ append_assoc h.before (h.word ∷ h.after) m) h.expects in
        absurd (omega (arith, le, h.passes))
    outside f reasons.OutOfMemory e o h m d =
        inr (
          e,
          omega (
            arith,
            here.place,
            ap length d,
            length-append (longs given) m,
            length-longs given,
            h.place,
            ap length h.split,
            length-append (bytes_of (h.before ++ h.word ∷ [])) h.rest,
            length-bytes_of (h.before ++ h.word ∷ []),
            length-append h.before (h.word ∷ []),
          ),
        )
    outside f _ e o h m d = absurd (refused_front given f.place _ m h (subst (λ (xs : List ℕ). Expects xs roles.SizeWord) d here.expects))

    in_header : (f : Fault) → StopsInHeader limits.budget given f → ExceedsBudget limits.budget given at ⊎ ((m : List ℕ) × (here.before ≡ longs given ++ m)) → IsOverBudget at f
    in_header f s (inl q) = s.over at q
    in_header f s (inr (m, d)) = outside f f.reason refl s.own_reasons s.fault m d

    over : (f : Fault) → LoadStop base limits now given f → IsOverBudget at f
    over f (InHeader (inl s)) = in_header f s (passes_front limits.budget given after at here)
    over f (InHeader (inr (s, n))) = absurd (not_all (read_all f s) n)
    over f (Between t h u q) = absurd (not_in t [] h.is_table h.within (h.header ∙ sym (append-nil (header_bytes t))))
    over f (InBody t header more h e s) = absurd (not_in t more h.is_table h.within (e ∙ ap (λ (xs : List ℕ). xs ++ more) h.header))

    -- It stops there, or before it since memory runs out.
    pub budget_stops : (result : Result ImageValue Fault) → LoadEnds base limits now given result → IsErrAnd result (IsOverBudget at)
    budget_stops (Ok placed) (v, loaded, e) =
        let k = text_header v loaded.is_load_file in
        absurd (not_in (table v) k.1.0 k.0 loaded.within (e ∙ k.1.1))
    budget_stops (Err f) h = over f h

-- ---- the fault of a file

file_header : (budget : ℕ) (given : List ℕ) (r : Reason) (at : ℕ) → IsTrue (is_of_file r) → IsTrue (is_of_header r) → IsHeaderFaultBy r budget given at → HasRefusal given at r
file_header budget given reasons.Budget at o w h = absurd cc
file_header budget given reasons.OutOfMemory at o w h = absurd cc
file_header budget given _ at o w h = h

place_not : (base : Placing) (t : List TableEntry) (r : Reason) → IsTrue (is_of_file r) → IsUnplacedFor base t r → ⊥
place_not base t (reasons.NoBase hunk) o u = absurd cc
place_not base t reasons.OutOfMemory o u = absurd cc
place_not base t _ o u = u

module _ (limits : Limits) (old now : Supply) (given : List ℕ) (gives : Gives old now limits.file_bytes given) (input : List ℕ) (is : old.left ≡ Some input) where
  parts : IsSplit old now input given
  parts = split_of old now input given is gives.consumed

  refused : (at : ℕ) (r : Reason) → HasRefusal given at r → HasFault input at r
  refused at r h = inl (subst (λ (bs : List ℕ). HasRefusal bs at r) (sym parts.split) (refusal_more given parts.rest at r h))

  short : (f : Fault) → IsTrue (is_of_file f.reason) → StopsShort limits.file_bytes now given f → HasFault input f.place f.reason
  short f o s = go s.why
    where
      go : IsReadFault limits.file_bytes now (length given) f → HasFault input f.place f.reason
      go (inl (e, p, c)) = absurd (let clash : true ≡ false = sym o ∙ ap is_of_file e in cc)
      go (inr (inl (e, p, x))) = absurd (let clash : true ≡ false = sym o ∙ ap is_of_file e in cc)
      go (inr (inr (e, p, a))) =
          let all : given ≡ input = sym (append-nil given) ∙ ap (λ (xs : List ℕ). given ++ xs) (sym (nothing_left now.left parts.rest parts.left_is a)) ∙ sym parts.split in
          inr (e, subst (λ (n : ℕ). IsTruncated input n) (sym p) (subst (λ (bs : List ℕ). IsTruncated bs (4 * (length given / 4))) all s.truncated))

  file_stop : (base : Placing) (f : Fault) → IsTrue (is_of_file f.reason) → LoadStop base limits now given f → HasFault input f.place f.reason
  file_stop base f o (InHeader (inl s)) = refused f.place f.reason (file_header limits.budget given f.reason f.place o s.own_reasons s.fault)
  file_stop base f o (InHeader (inr (s, n))) = short f o s
  file_stop base f o (Between t h u p) = absurd (place_not base t f.reason o u)
  file_stop base f o (InBody t header more h e (inl s)) = refused f.place f.reason s.refusal
  file_stop base f o (InBody t header more h e (inr s)) = short f o s

-- what a load comes to, by how it ends
pub ends_loads : (base : Placing) (limits : Limits) (old now : Supply) (given : List ℕ) (result : Result ImageValue LoadRefusal) → Gives old now limits.file_bytes given →
    LoadEnds base limits now given (without_part result) → IfErr result (NamesPart given) → LoadsOrNames base limits old now result
ends_loads base limits old now given (Ok placed) g h n = record { loads = record { given = given; gives = g; outcome = h; of_file = tt }; names = tt }
ends_loads base limits old now given (Err r) g h n = record {
  loads = record {
    given = given;
    gives = g;
    outcome = stop_is base limits now given (fault_of r) h;
    of_file = λ input is o. file_stop limits old now given g input is base (fault_of r) o h;
  };
  names = n;
}
