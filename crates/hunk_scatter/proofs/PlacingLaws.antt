-- Rows are placed one after another.
use Rattle.std.proofs.Common.{rules, ◌≡◌, ℕ, zero, suc, ◌+◌, ◌*◌, ◌<◌, ◌≤◌, ◌^◌, List, [], ◌∷◌, ◌++◌, length, map, take, drop, get_or, set, refl, sym, ap, ap₂, subst, ◌∙◌, arith, Some, length-take}
use Rattle.std.proofs.lemmas.Grind.{common_steps}
use Rattle.std.proofs.Math.Seq.{take-suc}
use Rattle.std.proofs.lemmas.List.{get_or-map, length-map, map-set}
use Rattle.hunk_words.specs.Bits.{size_longs}
use Rattle.hunk_files.specs.{declared.row.Row.Row, LoadFile.TableEntry, Tables.row_entry}
use Rattle.hunk_scatter.specs.{Placing.{Placing, base_at, ArePlacedTo}, Rows.{entries_of, row_of}}
use Rattle.hunk_scatter.proofs.DeclaredBytes.{declared_limit}

abbrev no_entry : TableEntry
no_entry = record { word = 0; extra = 0 }

module _ (base : Placing) (old rows : List Row) (i before : ℕ) (d : Row) (inside : i < length old) (unplaced : old ≡ map row_of (entries_of old)) (p : ArePlacedTo base (entries_of old) old rows i before) where
  -- the row that is asked for
  pub asked : get_or rows i d ≡ row_of (get_or (entries_of old) i no_entry)
  asked = search (rules, get_or-map, length-map)

  pub answer_is : base i (get_or rows i d) before ≡ base_at base (entries_of old) i
  answer_is = ap₂ (λ (r : Row) (n : ℕ). base i r n) asked p.before_is

  -- One more hunk is placed.
  pub placed_more : (b : ℕ) (row : Row) → base_at base (entries_of old) i ≡ Some b → row.base ≡ b → row_entry row ≡ row_entry (get_or rows i d) →
      ArePlacedTo base (entries_of old) old (set rows i row) (suc i) (before + 4 * size_longs (get_or rows i d).word)
  placed_more b row is e same = grind (arith, common_steps, take-suc, map-set)

abbrev pub no_row : Row
no_row = record { word = 0; extra = 0; base = 0 }

abbrev pub with_base : Row → ℕ → Row
with_base row b = record { word = row.word; extra = row.extra; base = b }

-- One turn of the loop.
pub placed_next : (base : Placing) (old rows : List Row) (i before b w size j sum : ℕ) → i < length old → old ≡ map row_of (entries_of old) → ArePlacedTo base (entries_of old) old rows i before →
    base i (get_or rows i no_row) before ≡ Some b → w ≡ (get_or rows i no_row).word → size ≡ 4 * size_longs w → j ≡ suc i → sum ≡ before + size →
    ArePlacedTo base (entries_of old) old (set rows i (with_base (get_or rows i no_row) b)) j sum
placed_next base old rows i before b w size j sum inside unplaced p e v s f d =
    subst (λ (k : ℕ). ArePlacedTo base (entries_of old) old (set rows i (with_base (get_or rows i no_row) b)) k sum) (sym f)
    (subst (λ (k : ℕ). ArePlacedTo base (entries_of old) old (set rows i (with_base (get_or rows i no_row) b)) (suc i) k)
    (sym (d ∙ ap (λ (n : ℕ). before + n) (s ∙ ap (λ (n : ℕ). 4 * size_longs n) v)))
    (placed_more base old rows i before no_row inside unplaced p b (with_base (get_or rows i no_row) b) (sym (answer_is base old rows i before no_row inside unplaced p) ∙ e) refl refl))

pub next_room : (base : Placing) (old rows : List Row) (i before w size : ℕ) → i < length old → old ≡ map row_of (entries_of old) → ArePlacedTo base (entries_of old) old rows i before →
    length old ≤ 65536 → w ≡ (get_or rows i no_row).word → size ≡ 4 * size_longs w → before + size < 2 ^ 49
next_room base old rows i before w size inside unplaced p few v s = search (rules, declared_limit, length-take, length-map)

-- ---- bases taken away

pub unplaced_next : (old items : List Row) (i j base : ℕ) → base ≡ 0 → i < length old → j ≡ suc i → items ≡ map row_of (entries_of (take i old)) ++ drop i old →
    set items i (with_base (get_or items i no_row) base) ≡ map row_of (entries_of (take j old)) ++ drop j old
unplaced_next old items i j base none inside f e =
    ap (λ (b : ℕ). set items i (with_base (get_or items i no_row) b)) none
    ∙ ap (λ (xs : List Row). set xs i (with_base (get_or xs i no_row) 0)) e
    ∙ go old i inside
    ∙ ap (λ (n : ℕ). map row_of (entries_of (take n old)) ++ drop n old) (sym f)
  where
    go : (rs : List Row) (n : ℕ) → n < length rs →
        set (map row_of (entries_of (take n rs)) ++ drop n rs) n (with_base (get_or (map row_of (entries_of (take n rs)) ++ drop n rs) n no_row) 0) ≡ map row_of (entries_of (take (suc n) rs)) ++ drop (suc n) rs
    go [] n less = absurd (omega (arith, less))
    go (r ∷ rs) zero less = refl
    go (r ∷ rs) (suc n) less = ap (λ (xs : List Row). row_of (row_entry r) ∷ xs) (go rs n (omega (arith, less)))
