-- What was wanted is consumed whole, and goes past no end.
use Rattle.std.proofs.Common.{◌≡◌, ℕ, suc, ◌+◌, ◌<◌, ◌≤◌, List, [], ◌∷◌, ◌++◌, length, take, refl, sym, ap, subst, ◌∙◌, append_assoc, length-append, length-take, arith, ◌⊎◌, inl, inr}
use Rattle.std.proofs.lemmas.Grind.{common_steps}
use Rattle.std.proofs.lemmas.List.{take_all}
use Rattle.std.specs.Io.KnownBytes.{Consumes}
use Rattle.hunk_words.specs.{Carriers.Supply, Longs.{bytes_of, IsBytes}, declared.{fault.Fault.Fault, reason.Reason.Reason}}
use Rattle.hunk_words.proofs.LongLaws.{length-bytes_of}
use Rattle.hunk_files.specs.{Fault.IsTruncated, LoadFile.{TableEntry, LoadFileValue, IsLoadFile}, LoadText.text, declared.row.Row.Row}
use Rattle.hunk_scatter.specs.{HeaderBytes.{IsHeaderTable, IsHeader, header_bytes, IsHeaderFront}, LoadOutcomes.{Gives, GoesPastNoHeader, GoesPastNoFile}}
use Rattle.hunk_scatter.specs.{HeaderFaults.{CompletesRow, IsHeaderFault, IsHeaderFaultBy}, LoaderValues.IsWholeFile}
use Rattle.hunk_words.specs.declared.reason.Reason.TheVariants as reasons

no_less : (m n : ℕ) → (m < n → ⊥) → n ≤ m
no_less m n h = omega (arith, h)

-- the second front of a list is within the first, or goes on after it
pub fronts_of : (xs cs ys bs : List ℕ) → xs ++ cs ≡ ys ++ bs → ((m : List ℕ) × (xs ≡ ys ++ m) × (m ++ cs ≡ bs)) ⊎ ((m : List ℕ) × (ys ≡ xs ++ m) × (cs ≡ m ++ bs))
fronts_of [] cs ys bs e = inr (ys, refl, e)
fronts_of (x ∷ xs) cs [] bs e = inl (x ∷ xs, refl, e)
fronts_of (x ∷ xs) cs (y ∷ ys) bs e =
    let head : x ≡ y = cc in
    let tail : xs ++ cs ≡ ys ++ bs = cc in
    go head (fronts_of xs cs ys bs tail)
  where
    go : x ≡ y → ((m : List ℕ) × (xs ≡ ys ++ m) × (m ++ cs ≡ bs)) ⊎ ((m : List ℕ) × (ys ≡ xs ++ m) × (cs ≡ m ++ bs)) →
        ((m : List ℕ) × (x ∷ xs ≡ (y ∷ ys) ++ m) × (m ++ cs ≡ bs)) ⊎ ((m : List ℕ) × (y ∷ ys ≡ (x ∷ xs) ++ m) × (cs ≡ m ++ bs))
    go h (inl (m, p, q)) = inl (m, (λ i. h i ∷ p i), q)
    go h (inr (m, p, q)) = inr (m, (λ i. (sym h) i ∷ p i), q)

-- ---- a piece of a source

pub gives_more : (a b c : Supply) (limit : ℕ) (fed piece after : List ℕ) → Gives a b limit fed → Consumes b.left c.left piece → length fed + length piece ≤ limit → after ≡ fed ++ piece → Gives a c limit after
gives_more a b c limit fed piece after g k le e = grind (arith, common_steps)

-- ---- in a header

module _ (fed piece : List ℕ) (want : ℕ) (least : (t : List TableEntry) (more : List ℕ) → IsHeaderTable t → header_bytes t ≡ fed ++ more → want ≤ length more) (fits : length piece ≤ want) where
  pub header_fed : (after : List ℕ) (m : ℕ) → m ≤ length piece → after ≡ fed ++ take m piece → (m < length piece → IsHeader after) → after ≡ fed ++ piece
  header_fed after m le is all =
      let whole : length piece ≤ m = no_less m (length piece) (λ lt. short (all lt) lt) in
      is ∙ ap (λ (xs : List ℕ). fed ++ xs) (take_all m piece whole)
    where
      short : IsHeader after → m < length piece → ⊥
      short (t, ok, e) lt =
          let far : want ≤ length (take m piece) = least t (take m piece) ok (sym e ∙ is) in
          omega (arith, length-take m piece, far)

  pub header_within_more : 0 < want → (IsHeader fed → want ≡ 0) → GoesPastNoHeader fed → GoesPastNoHeader (fed ++ piece)
  header_within_more some over w t more ok e = grind (arith, common_steps, fronts_of)

-- ---- in a file

module _ (fed piece : List ℕ) (want : ℕ) (least : (v : LoadFileValue) (more : List ℕ) → IsLoadFile v → bytes_of (text v) ≡ fed ++ more → want ≤ length more) (fits : length piece ≤ want) where
  pub file_fed : (rows : List Row) (after : List ℕ) (m : ℕ) → m ≤ length piece → after ≡ fed ++ take m piece → (m < length piece → IsWholeFile rows after) → after ≡ fed ++ piece
  file_fed rows after m le is all =
      let whole : length piece ≤ m = no_less m (length piece) (λ lt. short (all lt) lt) in
      is ∙ ap (λ (xs : List ℕ). fed ++ xs) (take_all m piece whole)
    where
      short : IsWholeFile rows after → m < length piece → ⊥
      short w lt =
          let far : want ≤ length (take m piece) = least w.0 (take m piece) w.1.is_load_file (w.1.bytes_are ∙ is) in
          omega (arith, length-take m piece, far)

  pub file_within_more : (at : ℕ) → IsTruncated fed at → GoesPastNoFile (fed ++ piece)
  file_within_more at short v more ok e = grind (arith, common_steps, fronts_of)

-- ---- out of memory

rest_are_bytes : (m rest : List ℕ) → IsBytes (m ++ rest) → IsBytes rest
rest_are_bytes [] rest h i = h i
rest_are_bytes (x ∷ m) rest h i = rest_are_bytes m rest (λ k. h (suc k)) i

-- the rest of a piece of bytes
pub rest_bytes : (fed piece front rest : List ℕ) → IsBytes piece → fed ++ piece ≡ front ++ rest → length fed < length front → IsBytes rest
rest_bytes fed piece front rest are e less = go (fronts_of fed piece front rest e)
  where
    go : ((m : List ℕ) × (fed ≡ front ++ m) × (m ++ piece ≡ rest)) ⊎ ((m : List ℕ) × (front ≡ fed ++ m) × (piece ≡ m ++ rest)) → IsBytes rest
    go (inl (m, p, q)) = absurd (omega (arith, less, ap length p, length-append front m))
    go (inr (m, p, q)) = rest_are_bytes m rest (subst IsBytes q are)

-- A piece with which a row is completed is that of a header.
pub row_begins : (fed piece : List ℕ) (want at : ℕ) → ((t : List TableEntry) (more : List ℕ) → IsHeaderTable t → header_bytes t ≡ fed ++ more → want ≤ length more) → length piece ≤ want →
    length fed < at + 4 → CompletesRow (fed ++ piece) at → IsHeaderFront (fed ++ piece)
row_begins fed piece want at least fits less h = go (fronts_of fed piece (bytes_of (h.before ++ h.word ∷ [])) h.rest h.split)
  where
    ends : length (bytes_of (h.before ++ h.word ∷ [])) ≡ at + 4
    ends = omega (arith, h.place, length-bytes_of (h.before ++ h.word ∷ []), length-append h.before (h.word ∷ []))

    go : ((m : List ℕ) × (fed ≡ bytes_of (h.before ++ h.word ∷ []) ++ m) × (m ++ piece ≡ h.rest)) ⊎ ((m : List ℕ) × (bytes_of (h.before ++ h.word ∷ []) ≡ fed ++ m) × (piece ≡ m ++ h.rest))
        → IsHeaderFront (fed ++ piece)
    go (inl (m, p, q)) = absurd (omega (arith, less, ap length p, length-append (bytes_of (h.before ++ h.word ∷ [])) m, ends))
    go (inr (m, p, q)) =
        h.begins
        (λ t k is e.
        let far = least t (m ++ k) is (e ∙ ap (λ (bs : List ℕ). bs ++ k) p ∙ append_assoc fed m k) in
        omega (arith, far, fits, ap length q, length-append m h.rest, length-append m k))

pub header_wants : (f : Fault) (budget : ℕ) (bytes : List ℕ) → f.reason ≡ reasons.OutOfMemory → IsHeaderFault budget bytes f → CompletesRow bytes f.place
header_wants f budget bytes e h = subst (λ (r : Reason). IsHeaderFaultBy r budget bytes f.place) e h
