-- Where the position of a reader says that a header, a hunk or the file ends, the text does.
use Rattle.std.proofs.Common.{◌≡◌, ℕ, suc, Bool, true, false, List, [], ◌∷◌, ◌++◌, length, refl, sym, ap, subst, ◌∙◌, append-nil, length-append, arith, inl, inr}
use Rattle.std.specs.Prelude.{◌↔◌, ◌⊎◌}
use Rattle.hunk_grammar.specs.declared.position.Position.{Position}
use Rattle.hunk_grammar.specs.declared.position.Position.TheVariants as positions
use Rattle.hunk_grammar.specs.Positions.{is_after_header, is_between_hunks, is_done}
use Rattle.hunk_files.specs.LoadFile.{LoadFileValue, IsLoadFile}
use Rattle.hunk_files.specs.LoadText.{table, text}
use Rattle.hunk_files.specs.Tables.{header_text, hunk_texts}
use Rattle.hunk_files.specs.FileSteps.{Progress, AtFirst, Next, More, Finished, open_hunk}
use Rattle.hunk_files.specs.Machines.{EndsHunk, load_at}
use Rattle.hunk_files.specs.ReaderPosition.{opened, position_of}
use Rattle.hunk_files.specs.WordsRead.{HasRead}
use Rattle.hunk_files.proofs.{parts.LoadParts.read_stepped, walk.Reading.file_read, cuts.TableReading.text_is}
use Rattle.hunk_files.proofs.parts.OpenedHunks.{after_count, header_count, opens_between}
use Rattle.hunk_files.proofs.parts.TextPlaces.{IsInHunks, header_place, hunk_place, hunks_read, in_header, in_hunk, in_text, opens_here}

not_done : (p : Progress) → is_done (position_of (More p)) ≡ false
not_done AtFirst = refl
not_done _ = refl

between_after : (p : Position) → is_between_hunks p ≡ true → is_after_header p ≡ true
between_after (positions.Body o phase) b = refl
between_after positions.Done b = refl
between_after _ b = absurd cc

-- After longwords that were read stands the position of the reader.
pub position_at : (ws : List ℕ) (n : Next) → HasRead ws n → load_at ws ≡ position_of n
position_at ws n h = sym (read_stepped ws n h)

module _ (v : LoadFileValue) (is : IsLoadFile v) (ws : List ℕ) where
  -- all of it was read
  module _ (e : text v ≡ ws ++ []) where
    all_read : ws ≡ text v
    all_read = sym (e ∙ append-nil ws)

    done_at : load_at ws ≡ positions.Done
    done_at = position_at ws (Finished v) (subst (λ (xs : List ℕ). HasRead xs (Finished v)) (sym all_read) (file_read v is))

  -- the next longword is of the header
  module _ (w : ℕ) (rest : List ℕ) (h : header_text v ≡ ws ++ w ∷ rest) where
    header_here : (p : Progress) × HasRead ws (More p) × (length (opened p) ≡ 0)
    header_here = header_place ws (in_header v is ws w rest h)

    not_after : is_after_header (load_at ws) ≡ true → ⊥
    not_after b = let p = header_here in omega (arith, after_count (More p.0) (ap is_after_header (sym (position_at ws (More p.0) p.1)) ∙ b), p.2)

  -- it is of a hunk
  module _ (w : ℕ) (front : List ℕ) (d : ws ≡ header_text v ++ front) (i : IsInHunks v front w) where
    hunk_here : (p : Progress) × HasRead ws (More p) × (length (opened p) ≡ suc (length i.before))
    hunk_here = hunk_place ws (length i.before) (in_hunk v is ws w front d i)

    now_after : is_after_header (load_at ws) ≡ true
    now_after = let p = hunk_here in ap is_after_header (position_at ws (More p.0) p.1) ∙ go p.0 p.2 (is_after_header (position_of (More p.0))) refl
      where
        go : (p : Progress) → length (opened p) ≡ suc (length i.before) → (b : Bool) → is_after_header (position_of (More p)) ≡ b → is_after_header (position_of (More p)) ≡ true
        go p count true e = e
        go p count false e = absurd (omega (arith, header_count (More p) e, count))

    opens : is_between_hunks (load_at ws) ≡ true → EndsHunk v ws
    opens b =
        let p = hunk_here in
        let none : i.front ≡ [] = opens_here ws (length i.before) (in_hunk v is ws w front d i) p.0 p.1 (ap is_between_hunks (sym (position_at ws (More p.0) p.1)) ∙ b) in
        record {
          whole = i.before;
          ahead = i.item ∷ i.after;
          hunks_are = i.items_are;
          text_is = d ∙ ap (λ (xs : List ℕ). header_text v ++ xs) (i.done_is ∙ ap (λ (xs : List ℕ). hunk_texts i.before ++ xs) none ∙ append-nil (hunk_texts i.before));
        }

  -- ---- the tests

  pub done_tells : (more : List ℕ) → text v ≡ ws ++ more → is_done (load_at ws) ≡ true ↔ (more ≡ [])
  done_tells [] e = (λ b. refl, λ n. ap is_done (done_at e))
  done_tells (w ∷ more) e = (λ b. absurd (go (in_text v ws w more e) b), λ n. absurd cc)
    where
      open_still : (p : Progress) → HasRead ws (More p) → is_done (load_at ws) ≡ true → ⊥
      open_still p h b = let clash : false ≡ true = sym (not_done p) ∙ ap is_done (sym (position_at ws (More p) h)) ∙ b in cc

      go : ((rest : List ℕ) × (header_text v ≡ ws ++ w ∷ rest)) ⊎ ((front : List ℕ) × (ws ≡ header_text v ++ front) × IsInHunks v front w) → is_done (load_at ws) ≡ true → ⊥
      go (inl r) b = let p = header_here w r.0 r.1 in open_still p.0 p.1 b
      go (inr r) b = let p = hunk_here w r.0 r.1 r.2 in open_still p.0 p.1 b

  pub after_tells : (more : List ℕ) → text v ≡ ws ++ more → is_after_header (load_at ws) ≡ true ↔ ((rest : List ℕ) × (ws ≡ header_text v ++ rest))
  after_tells [] e = (λ b. (hunk_texts v, all_read e ∙ text_is v), λ r. ap is_after_header (done_at e))
  after_tells (w ∷ more) e = elim (in_text v ws w more e) [
    | inl r ↦ (
      λ b. absurd (not_after w r.0 r.1 b),
      λ f. absurd (omega (arith, ap length r.1, ap length f.1, length-append ws (w ∷ r.0), length-append (header_text v) f.0)),
    )
    | inr r ↦ (λ b. (r.0, r.1), λ f. now_after w r.0 r.1 r.2)
  ]

  between_at : EndsHunk v ws → is_between_hunks (load_at ws) ≡ true
  between_at h =
      let n : Next = open_hunk (length (h.whole ++ h.ahead)) h.whole (table h.ahead) in
      let same : header_text (h.whole ++ h.ahead) ++ hunk_texts h.whole ≡ ws = ap (λ (u : LoadFileValue). header_text u ++ hunk_texts h.whole) (sym h.hunks_are) ∙ sym h.text_is in
      let read = subst (λ (xs : List ℕ). HasRead xs n) same (hunks_read h.whole h.ahead (subst IsLoadFile h.hunks_are is)) in
      ap is_between_hunks (position_at ws n read) ∙ opens_between (length (h.whole ++ h.ahead)) h.whole (table h.ahead)

  pub between_tells : (more : List ℕ) → text v ≡ ws ++ more → is_between_hunks (load_at ws) ≡ true ↔ EndsHunk v ws
  between_tells [] e = (λ b. record { whole = v; ahead = []; hunks_are = sym (append-nil v); text_is = all_read e ∙ text_is v }, between_at)
  between_tells (w ∷ more) e = (
    λ b. elim (in_text v ws w more e) [
      | inl r ↦ absurd (not_after w r.0 r.1 (between_after (load_at ws) b))
      | inr r ↦ opens w r.0 r.1 r.2 b
    ],
    between_at,
  )
