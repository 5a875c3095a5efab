-- The check of a load file that comes by pieces.
use Rattle.std.proofs.Common.{rules, ◌≡◌, ℕ, ◌+◌, ◌-◌, ◌*◌, ◌/◌, ◌^◌, ◌<◌, ◌≤◌, Bool, true, false, List, [], ◌∷◌, ◌++◌, length, take, drop, ltb, min, true≢false, refl, sym, ap, subst, ◌∙◌, append_assoc, arith, inr, length-append, length-drop, take-append-drop}
use Rattle.std.proofs.lemmas.Bool.{ltb-false, ltb-true}
use Rattle.std.proofs.lemmas.List.{length-map, take-append-le, take_all}
use Rattle.std.specs.Prelude.{IsTrue}
use Rattle.hunk_words.specs.{Longs.{bytes_of, longs}, declared.fault.Fault.Fault, declared.reason.Reason.Reason}
use Rattle.hunk_words.specs.declared.reason.Reason.TheVariants as reasons
use Rattle.hunk_words.proofs.LongLaws.{length-bytes_of}
use Rattle.hunk_grammar.specs.Positions.{is_after_header, is_done}
use Rattle.hunk_grammar.specs.declared.file_kind.Sniff.TheVariants as sniffs
use Rattle.hunk_files.specs.{Fault.{BeginsWithLoadFile, HasFault, HasRefusal, IsTruncated, is_load_refusal}, FileParts.IsPartAt, Image.declared_bytes, LoadFile.{HunkValue}, LoadText.{text}}
use Rattle.hunk_files.specs.{Tables.row_entry, declared.part.Part.Part, declared.refusal.Refusal.Refusal, declared.row.Row.Row}
use Rattle.hunk_files.specs.declared.part.Part.TheVariants as parts
use Rattle.hunk_files.proofs.walk.Scan.{no_fault}
use Rattle.hunk_scatter.specs.{Checking.{IsCheckedTo}, HeaderBytes.{IsHeader, header_words}, HeaderFaults.{IsHeaderFault, IsHeaderFaultBy}, HeaderLoaderFields.HeaderReading}
use Rattle.hunk_scatter.specs.{LoadChecks.{IsSummary, IsRefusedLoad, no_budget}, LoaderReasons.{is_of_body, is_of_header}, LoaderValues.{IsHunkRefusal, IsWholeFile}, Rows.entries_of}
use Rattle.hunk_scatter.specs.{declared.header_state.HeaderState.HeaderState, declared.load_check.LoadSummary.LoadSummary, declared.stream.Standing.Standing}
use Rattle.hunk_scatter.proofs.{BodyFields.{fed_truncated, whole_file}, Faults.{longs-more, refusal_more, refusal_told, told_at}, HeaderFields.{heading_table, heading_truncated}}
use Rattle.hunk_scatter.proofs.{PartLaws.{header_next, hunk_here}, TableLimit.never_passes}

-- ---- reasons

reason_of_header : (r : Reason) → IsTrue (is_of_header r) → (r ≡ reasons.Budget → ⊥) → IsTrue (is_load_refusal r)
reason_of_header r own not = search rules

reason_of_body : (r : Reason) → IsTrue (is_of_body r) → IsTrue (is_load_refusal r)
reason_of_body r own = search rules

-- ---- the header

-- It is refused, where memory is not what was wanting.
pub header_refused : (bytes : List ℕ) (f : Fault) → IsHeaderFault no_budget bytes f → (f.reason ≡ reasons.OutOfMemory → ⊥) → IsTrue (is_of_header f.reason) → IsPartAt sniffs.Load bytes f.place parts.Header →
    IsRefusedLoad bytes (record { fault = f; part = parts.Header })
header_refused bytes f fault memory own part =
    record { refused = go f.reason fault memory; own_reasons = reason_of_header f.reason own (λ e. within f.reason e fault); part = part }
  where
    within : (r : Reason) → r ≡ reasons.Budget → IsHeaderFaultBy r no_budget bytes f.place → ⊥
    within r e k = never_passes bytes f.place (subst (λ (q : Reason). IsHeaderFaultBy q no_budget bytes f.place) e k)

    go : (r : Reason) → IsHeaderFaultBy r no_budget bytes f.place → (r ≡ reasons.OutOfMemory → ⊥) → HasRefusal bytes f.place r
    go reasons.Budget k m = absurd (never_passes bytes f.place k)
    go reasons.OutOfMemory k m = absurd (m refl)
    go _ k m = k

-- no header has no bytes
pub no_header : IsHeader [] → ⊥
no_header (t, is, e) = omega (arith, ap length e, length-bytes_of (header_words t))

module _ (budget : ℕ) (rows : List Row) (s : HeaderState) (pending fed : List ℕ) (r : HeaderReading budget rows s pending fed) (not_whole : IsHeader fed → ⊥) where
  header_open : (b : Bool) → is_after_header s.position ≡ b → b ≡ false
  header_open true e = let t = heading_table budget rows s pending fed r e in absurd (not_whole (entries_of rows, t.0, t.1))
  header_open false e = refl

  -- It is cut short.
  pub header_short : IsTruncated fed (4 * (length fed / 4)) × IsPartAt sniffs.Load fed (4 * (length fed / 4)) parts.Header
  header_short = (heading_truncated budget rows s pending fed r, header_next budget rows s pending fed r (header_open (is_after_header s.position) refl))

-- ---- the body

module _ (rows : List Row) (to : Standing) (fed piece : List ℕ) where
  -- A longword of it is refused.
  pub body_refused : (f : Fault) (hunk : ℕ) → IsHunkRefusal (fed ++ piece) to.state.hunk f → IsTrue (is_of_body f.reason) → hunk ≡ to.state.hunk → length (fed ++ piece) < 2 ^ 64 →
      IsRefusedLoad (fed ++ piece) (record { fault = f; part = parts.Hunk hunk })
  body_refused f hunk k own same few = record {
    refused = refusal_told (fed ++ piece) f few k.refusal;
    own_reasons = reason_of_body f.reason own;
    part =
        subst (λ (n : ℕ). IsPartAt sniffs.Load (fed ++ piece) n (parts.Hunk hunk)) (told_at (fed ++ piece) f few k.refusal)
        (subst (λ (h : ℕ). IsPartAt sniffs.Load (fed ++ piece) k.refusal.0 (parts.Hunk h)) (sym same) k.of_hunk);
  }

  module _ (n : ℕ) (h : IsCheckedTo rows to (fed ++ take n piece)) where
    -- It is whole.
    pub body_whole : is_done to.state.position ≡ true → n ≤ length piece → (hunks total rest : ℕ) → hunks ≡ length rows → total ≡ declared_bytes (entries_of rows) → rest ≡ length piece - n →
        IsSummary (fed ++ piece) (record { hunks = hunks; bytes = total; rest = rest })
    body_whole done inside hunks total rest count sum left =
        let w : IsWholeFile rows (fed ++ take n piece) = whole_file rows h.0 to (fed ++ take n piece) h.1 done in
        record {
          file = record {
            value = w.0;
            is_load_file = w.1.is_load_file;
            rest = drop n piece;
            split =
                ap (λ (xs : List ℕ). fed ++ xs) (sym (take-append-drop n piece))
                ∙ sym (append_assoc fed (take n piece) (drop n piece))
                ∙ ap (λ (xs : List ℕ). xs ++ drop n piece) (sym w.1.bytes_are);
          };
          hunks = omega (arith, count, ap length w.1.table_is, length-map w.0 (λ (x : HunkValue). x.entry), length-map rows row_entry);
          declares = sum ∙ ap declared_bytes (sym w.1.table_is);
          follow = left ∙ sym (length-drop n piece);
        }

    -- It goes on after all of the piece.
    pub body_goes_on : is_done to.state.position ≡ false → (n < length piece → is_done to.state.position ≡ true) → IsCheckedTo rows to (fed ++ piece)
    body_goes_on more all = subst (λ (xs : List ℕ). IsCheckedTo rows to (fed ++ xs)) (take_all n piece (none_left (ltb n (length piece)) refl)) h
      where
        none_left : (b : Bool) → ltb n (length piece) ≡ b → length piece ≤ n
        none_left true e = absurd (true≢false (sym (all (ltb-true n (length piece) e)) ∙ more))
        none_left false e = ltb-false n (length piece) e

-- It is cut short.
pub body_short : (rows : List Row) (s : Standing) (fed : List ℕ) → IsCheckedTo rows s fed → is_done s.state.position ≡ false →
    IsTruncated fed (4 * (length fed / 4)) × IsPartAt sniffs.Load fed (4 * (length fed / 4)) (parts.Hunk s.state.hunk)
body_short rows s fed h more = (fed_truncated rows h.0 s fed h.1 more, hunk_here rows h.0 s.state _ fed h.1.stands more)

-- ---- what follows

pub few_before : (bytes more : List ℕ) → length (bytes ++ more) < 2 ^ 64 → length bytes < 2 ^ 64
few_before bytes more few = omega (arith, few, length-append bytes more)

-- A refusal stays.
pub refused_more : (bytes more : List ℕ) (refusal : Refusal) → IsRefusedLoad bytes refusal → IsRefusedLoad (bytes ++ more) refusal
refused_more bytes more refusal h =
    let r = longs-more bytes more in
    let inside : refusal.fault.place / 4 ≤ length (longs bytes) =
    omega (arith, h.refused.place, ap length h.refused.split, length-append h.refused.before (h.refused.word ∷ h.refused.after)) in
    let same : take (refusal.fault.place / 4) (longs (bytes ++ more)) ≡ take (refusal.fault.place / 4) (longs bytes) =
    ap (λ (xs : List ℕ). take (refusal.fault.place / 4) xs) r.1 ∙ take-append-le (refusal.fault.place / 4) (longs bytes) r.0 inside in
    record {
      refused = refusal_more bytes more _ _ h.refused;
      own_reasons = h.own_reasons;
      part = rw same h.part;
    }

-- More bytes follow the file.
pub summary_more : (bytes more : List ℕ) (s : LoadSummary) (rest : ℕ) → IsSummary bytes s → length (bytes ++ more) < 2 ^ 64 → rest ≡ min (s.rest + length more) (2 ^ 64 - 1) →
    IsSummary (bytes ++ more) (record { hunks = s.hunks; bytes = s.bytes; rest = rest })
summary_more bytes more s rest h few counted = record {
  file = record {
    value = h.file.value;
    is_load_file = h.file.is_load_file;
    rest = h.file.rest ++ more;
    split = ap (λ (xs : List ℕ). xs ++ more) h.file.split ∙ append_assoc (bytes_of (text h.file.value)) h.file.rest more;
  };
  hunks = h.hunks;
  declares = h.declares;
  follow =
      omega (
        arith,
        counted,
        few,
        h.follow,
        length-append bytes more,
        length-append h.file.rest more,
        ap length h.file.split,
        length-append (bytes_of (text h.file.value)) h.file.rest,
      );
}

-- ---- the end

-- What is refused, or cut short, begins with no load file.
pub no_file : (bytes : List ℕ) (at : ℕ) (reason : Reason) → HasFault bytes at reason → BeginsWithLoadFile bytes → ⊥
no_file bytes at reason fault begins = no_fault bytes at reason begins fault

module _ (bytes : List ℕ) (refusal : Refusal) (reason : refusal.fault.reason ≡ reasons.Truncated) where
  abbrev IsJudged : Type 0
  IsJudged = HasFault bytes refusal.fault.place refusal.fault.reason × IsPartAt sniffs.Load bytes refusal.fault.place refusal.part

  judged : (part : Part) → IsTruncated bytes (4 * (length bytes / 4)) × IsPartAt sniffs.Load bytes (4 * (length bytes / 4)) part → refusal.fault.place ≡ 4 * (length bytes / 4) → refusal.part ≡ part → IsJudged
  judged part short place is = rw (place, is) (inr (reason, short.0), short.1)

  -- It is cut short in the header.
  pub header_ends : (budget : ℕ) (rows : List Row) (s : HeaderState) (pending fed : List ℕ) → HeaderReading budget rows s pending fed → fed ≡ bytes → (IsHeader bytes → ⊥) →
      (count : ℕ) → count ≡ length bytes → refusal.fault.place ≡ 4 * (count / 4) → refusal.part ≡ parts.Header → IsJudged
  header_ends budget rows s pending fed r same not_whole count counted place is =
      let read = subst (λ (bs : List ℕ). HeaderReading budget rows s pending bs) same r in
      judged parts.Header (header_short budget rows s pending bytes read not_whole) (omega (arith, place, counted)) is

  -- It is cut short in the body.
  pub body_ends : (rows : List Row) (s : Standing) → IsCheckedTo rows s bytes → is_done s.state.position ≡ false → length bytes < 2 ^ 64 →
      (hunk : ℕ) → hunk ≡ s.state.hunk → refusal.fault.place ≡ 4 * (s.fed / 4) → refusal.part ≡ parts.Hunk hunk → IsJudged
  body_ends rows s h more few hunk same place is =
      judged (parts.Hunk s.state.hunk) (body_short rows s bytes h more) (omega (arith, place, h.1.counted, few)) (is ∙ ap parts.Hunk same)
