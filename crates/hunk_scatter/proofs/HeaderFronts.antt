-- The header in front of bytes: it is one, its size words keep to its declared bytes, and each load text begins with one.
use Rattle.std.proofs.Common.{rules, ◌≡◌, ℕ, ◌+◌, ◌*◌, ◌≤◌, Bool, true, false, List, [], ◌∷◌, ◌++◌, length, refl, sym, ap, ◌∙◌, append_assoc, arith, subst, ◌⊎◌, inl, inr}
use Rattle.std.specs.List.{flat_map}
use Rattle.std.proofs.lemmas.List.{length-map, map-append}
use Rattle.hunk_words.specs.{Bits.size_longs, Longs.{longs, bytes_of}, declared.reason.Reason.Reason}
use Rattle.hunk_words.proofs.LongLaws.{bytes_of-append, longs-bytes_of}
use Rattle.hunk_grammar.specs.{Positions.is_after_header, Roles.{Role, Role as roles}}
use Rattle.hunk_blocks.proofs.FaultScan.{front_passes}
use Rattle.hunk_blocks.specs.Faults.{words}
use Rattle.hunk_files.specs.{Fault.{Expects, HasRefusal, load_files}, Image.declared_bytes, LoadFile.{TableEntry, LoadFileValue, IsLoadFile}}
use Rattle.hunk_files.specs.LoadText.{labelled, header_labelled, hunk_labelled, table, text}
use Rattle.hunk_files.specs.FileSteps.{Progress, AtSizeWord, Next, More, Finished, open_hunk, role_of, step_file, Leads}
use Rattle.hunk_files.specs.{ReaderPosition.{position_of, table_of, IsAfterHeader}, WordsRead.{HasRead, Labelled, AreAccepted}}
use Rattle.hunk_files.proofs.{walk.FileProgress.{ProgressFits, NextFits, step_keeps}, walk.FileText.entries_fit}
use Rattle.hunk_files.proofs.{walk.Reading.{reads, rest_read}, walk.Scan.{expected_place, load_reader, load_reads}}
use Rattle.hunk_scatter.specs.{HeaderBytes.{IsHeaderTable, header_words, header_bytes, entries_so_far}, HeaderFaults.{IsWithinBudget, ExceedsBudget}}
use Rattle.hunk_scatter.specs.{HeaderLoaderFields.{declares, declared_so_far, OpensFirst}, LoadOutcomes.{GoesPastNoHeader, GoesPastNoFile}}
use Rattle.hunk_scatter.proofs.{After.{table_after, no_size_word}, Faults.longs-more, Feeding.fronts_of, Forget.{step_after, step_table}}
use Rattle.hunk_scatter.proofs.HeaderSteps.{IsInHeader, step_declares, rows_total}
use Rattle.hunk_scatter.proofs.{HeaderStops.header_longs, HeaderTexts.{header_read, rows_read}, ListCuts.fronts}

-- ---- one header

after_table : (n c : Next) → IsAfterHeader n → (ls : Labelled) → Leads n ls c → table_of c ≡ table_of n
after_table n c b [] leads = ap table_of (sym leads)
after_table (More q) c b (l ∷ ls) leads = after_table (step_file q l.1) c (step_after q l.1 b) ls leads.1 ∙ step_table q l.1 b
after_table (Finished v) c b (l ∷ ls) leads = absurd leads

opened : (t : List TableEntry) → IsHeaderTable t → table_of (open_hunk (length t) [] t) ≡ t
opened t is = search rules

longer : (t u : List TableEntry) (m : List ℕ) → IsHeaderTable t → IsHeaderTable u → header_words u ≡ header_words t ++ m → u ≡ t
longer t u m is ok e =
    let r = rest_read (header_words t) (open_hunk (length t) [] t) (header_read t is) (header_words u) (open_hunk (length u) [] u) (header_read u ok) m e in
    sym (opened u ok) ∙ after_table (open_hunk (length t) [] t) (open_hunk (length u) [] u) (table_after t is) r.0 r.1 ∙ opened t is

-- Bytes begin with one header.
pub one_table : (t u : List TableEntry) (xs ys : List ℕ) → IsHeaderTable t → IsHeaderTable u → header_bytes t ++ xs ≡ header_bytes u ++ ys → t ≡ u
one_table t u xs ys is ok e = go (fronts_of (header_words t) (longs xs) (header_words u) (longs ys) spelled)
  where
    spelled : header_words t ++ longs xs ≡ header_words u ++ longs ys
    spelled = sym (longs-bytes_of (header_words t) xs (header_longs t is)) ∙ ap longs e ∙ longs-bytes_of (header_words u) ys (header_longs u ok)

    go : ((m : List ℕ) × (header_words t ≡ header_words u ++ m) × (m ++ longs xs ≡ longs ys)) ⊎ ((m : List ℕ) × (header_words u ≡ header_words t ++ m) × (longs xs ≡ m ++ longs ys)) → t ≡ u
    go (inl (m, p, q)) = longer u t m ok is p
    go (inr (m, p, q)) = sym (longer t u m is ok p)

-- ---- a load text

-- A load text begins with the header of its table.
pub text_header : (v : LoadFileValue) → IsLoadFile v → IsHeaderTable (table v) × ((rest : List ℕ) × (bytes_of (text v) ≡ header_bytes (table v) ++ rest))
unfolding labelled
text_header v is = (
  record {
    some = omega (arith, is.some, length-map v (λ h. h.entry));
    most = omega (arith, is.most, length-map v (λ h. h.entry));
    each = entries_fit (length v) v is.each;
  },
  (
    bytes_of (words (flat_map (hunk_labelled (length v)) v)),
    ap bytes_of (map-append (λ (x : Role × ℕ). x.1) (header_labelled (table v)) (flat_map (hunk_labelled (length v)) v))
        ∙ bytes_of-append (header_words (table v)) (words (flat_map (hunk_labelled (length v)) v)),
  ),
)

right_nil : (xs ys : List ℕ) → xs ++ ys ≡ [] → ys ≡ []
right_nil [] ys e = e
right_nil (x ∷ xs) ys e = absurd cc

pub within_file : (bytes : List ℕ) → GoesPastNoHeader bytes → GoesPastNoFile bytes
within_file bytes w v more is e =
    let h = text_header v is in
    right_nil h.1.0 more (w (table v) (h.1.0 ++ more) h.0 (e ∙ ap (λ (bs : List ℕ). bs ++ more) h.1.1 ∙ append_assoc (header_bytes (table v)) h.1.0 more))

-- ---- the budget

module _ (t : List TableEntry) (is : IsHeaderTable t) where
  -- a run from here to the end of the header
  abbrev TotalsTo : Next → Labelled → Type 0
  TotalsTo n ls = NextFits n → OpensFirst n → AreAccepted ls → Leads n ls (open_hunk (length t) [] t) → declared_so_far n ≤ declared_bytes t

  word_total : (p : Progress) (l : Role × ℕ) (ls : Labelled) → TotalsTo (step_file p l.1) ls → ProgressFits p → AreAccepted (l ∷ ls) → Leads (More p) (l ∷ ls) (open_hunk (length t) [] t) → IsInHeader p →
      declared_so_far (More p) + declares (position_of (More p)) l.1 ≤ declared_bytes t
  word_total p l ls rest f ok leads e = search (rules, step_keeps, step_declares)

  past_total : (p : Progress) (ls : Labelled) → OpensFirst (More p) → is_after_header (position_of (More p)) ≡ true → Leads (More p) ls (open_hunk (length t) [] t) → declared_so_far (More p) ≤ declared_bytes t
  past_total p ls o e leads = search (rules, after_table)

  run_total : (ls : Labelled) (n : Next) → TotalsTo n ls
  run_total [] n f o ok leads = omega (arith, ap declared_so_far leads, rows_total (length t) t 0)
  run_total (l ∷ ls) (Finished v) f o ok leads = absurd leads
  run_total (l ∷ ls) (More p) f o ok leads = go (run_total ls (step_file p l.1)) (is_after_header (position_of (More p))) refl
    where
      go : TotalsTo (step_file p l.1) ls → (b : Bool) → is_after_header (position_of (More p)) ≡ b → declared_so_far (More p) ≤ declared_bytes t
      go rest true e = past_total p (l ∷ ls) o e leads
      go rest false e = let le = word_total p l ls rest f ok leads e in omega (arith, le)

  -- the longword that a run from a size word goes by
  first_word : (p : Progress) (before : List ℕ) (word : ℕ) (after : List ℕ) → HasRead before (More p) → role_of p ≡ roles.SizeWord → (ls : Labelled) → AreAccepted ls → words ls ≡ word ∷ after →
      Leads (More p) ls (open_hunk (length t) [] t) → declared_bytes (entries_so_far before) + 4 * size_longs word ≤ declared_bytes t
  first_word p before word after h role [] ok e leads = absurd cc
  first_word (AtSizeWord hunks done owed) before word after h role (l ∷ ls) ok e leads =
      let same : l.1 ≡ word = cc in
      let rows = rows_read (More (AtSizeWord hunks done owed)) before h (λ b. absurd cc) in
      let le = word_total (AtSizeWord hunks done owed) l ls (run_total ls (step_file (AtSizeWord hunks done owed) l.1)) (reads h).0 ok leads refl in
      omega (arith, le, ap declared_bytes rows, ap size_longs same)
  first_word _ before word after h role (l ∷ ls) ok e leads = absurd cc

  -- The size words of a header keep to its declared bytes.
  pub header_within : IsWithinBudget (declared_bytes t) (header_words t)
  header_within before after word e x =
      let place = expected_place before roles.SizeWord x in
      let h : HasRead before (More place.0) = record { done = x.done; leads = place.1.leads; accepted = place.1.accepted; all = x.begins } in
      let r = rest_read before (More place.0) h (header_words t) (open_hunk (length t) [] t) (header_read t is) (word ∷ after) e in
      first_word place.0 before word after h place.1.role_is r.0 r.2 r.3 r.1

  -- Bytes that begin with a header within the budget do not pass it.
  pub table_within : (budget : ℕ) (bytes more : List ℕ) → declared_bytes t ≤ budget → bytes ≡ header_bytes t ++ more → (at : ℕ) → ExceedsBudget budget bytes at → ⊥
  table_within budget bytes more le e at p =
      go (fronts p.before p.word p.after (header_words t) (longs more) (sym p.split ∙ ap longs e ∙ longs-bytes_of (header_words t) more (header_longs t is)))
    where
      go : ((m : List ℕ) × (header_words t ≡ p.before ++ p.word ∷ m)) ⊎ ((m : List ℕ) × (p.before ≡ header_words t ++ m)) → ⊥
      go (inl (m, d)) = let fits = header_within p.before m p.word d p.expects in omega (arith, fits, le, p.passes)
      go (inr (m, d)) = no_size_word (header_words t) m (open_hunk (length t) [] t) (header_read t is) (table_after t is) (subst (λ (xs : List ℕ). Expects xs roles.SizeWord) d p.expects)

-- What passes the budget does so as bytes follow.
pub passes_more : (budget : ℕ) (bytes more : List ℕ) (at : ℕ) → ExceedsBudget budget bytes at → ExceedsBudget budget (bytes ++ more) at
passes_more budget bytes more at p =
    let r = longs-more bytes more in
    record {
      before = p.before;
      word = p.word;
      after = p.after ++ r.0;
      split = r.1 ∙ ap (λ (xs : List ℕ). xs ++ r.0) p.split ∙ append_assoc p.before (p.word ∷ p.after) r.0;
      place = p.place;
      expects = p.expects;
      first = p.first;
      passes = p.passes;
    }

-- It does so in the front, or after it.
pub passes_front : (budget : ℕ) (bytes more : List ℕ) (at : ℕ) → (p : ExceedsBudget budget (bytes ++ more) at) → ExceedsBudget budget bytes at ⊎ ((m : List ℕ) × (p.before ≡ longs bytes ++ m))
passes_front budget bytes more at p = go (fronts p.before p.word p.after (longs bytes) r.0 (sym p.split ∙ r.1))
  where
    r : (rest : List ℕ) × (longs (bytes ++ more) ≡ longs bytes ++ rest)
    r = longs-more bytes more

    go : ((m : List ℕ) × (longs bytes ≡ p.before ++ p.word ∷ m)) ⊎ ((m : List ℕ) × (p.before ≡ longs bytes ++ m)) → ExceedsBudget budget bytes at ⊎ ((m : List ℕ) × (p.before ≡ longs bytes ++ m))
    go (inl (m, d)) = inl (record { before = p.before; word = p.word; after = m; split = d; place = p.place; expects = p.expects; first = p.first; passes = p.passes })
    go (inr k) = inr k

-- No size word is expected after a longword that is refused.
pub refused_front : (bytes : List ℕ) (at : ℕ) (reason : Reason) (m : List ℕ) → HasRefusal bytes at reason → Expects (longs bytes ++ m) roles.SizeWord → ⊥
refused_front bytes at reason m h e =
    front_passes load_files load_reader load_reads (longs bytes) at reason h
    (record {
      value = e.value;
      is = e.is;
      more = m ++ e.word ∷ words e.more;
      begins =
          ap words e.labels
          ∙ map-append (λ (x : Role × ℕ). x.1) e.done ((roles.SizeWord, e.word) ∷ e.more)
          ∙ ap (λ (xs : List ℕ). xs ++ e.word ∷ words e.more) e.begins
          ∙ append_assoc (longs bytes) m (e.word ∷ words e.more);
    })
