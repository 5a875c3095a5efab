-- What the caller sees of a block.
use Rattle.std.proofs.Common.{rules, ◌≡◌, ℕ, ◌+◌, ◌*◌, List, [], ◌∷◌, length, refl, ap, ◌∙◌, arith, length-append}
use Rattle.std.proofs.lemmas.List.Sums.{sum_by-cons}
use Rattle.hunk_words.specs.Carriers.{saturated}
use Rattle.hunk_blocks.specs.Parts.{group_text}
use Rattle.hunk_blocks.specs.Values.{RelocGroup, offset_count}
use Rattle.hunk_parts.specs.Listing.{item_rows}
use Rattle.hunk_c.specs.{Blocks.Span, Counting.Counts, Relocations.{Relocated, group_rows, offset_rows}}

-- a count that begins at 0
pub rows_counted : {Row : Type 0} (n : ℕ) (xs ys : List Row) → Counts 0 xs n → xs ≡ ys → n ≡ saturated (length ys)
rows_counted n xs ys counts same = counts 0 (omega arith) ∙ ap saturated (omega (arith, ap length same))

-- two spans that end at one byte, and have as many bytes
pub same_span : (a b : Span) → a.place + a.bytes ≡ b.place + b.bytes → a.bytes ≡ b.bytes → a ≡ b
same_span a b end bytes = search rules

-- There is a row for each item.
pub length-item_rows : {A Row : Type 0} (row : ℕ → A → Row) (text : A → List ℕ) (place : ℕ) (xs : List A) → length (item_rows row text place xs) ≡ length xs
length-item_rows row text place [] = omega arith
length-item_rows row text place (x ∷ xs) = omega (arith, length-item_rows row text (place + 4 * length (text x)) xs)

-- ---- the rows of relocations

length-offset_rows : (r : Relocated) (target place : ℕ) (offsets : List ℕ) → length (offset_rows r target place offsets) ≡ length offsets
length-offset_rows r target place [] = refl
length-offset_rows r target place (o ∷ os) = omega (arith, length-offset_rows r target (place + 4) os)

-- There is one for each offset.
pub length-group_rows : (r : Relocated) (place : ℕ) (groups : List RelocGroup) → length (group_rows r place groups) ≡ offset_count groups
length-group_rows r place [] = refl
length-group_rows r place (g ∷ gs) =
    let next = place + 4 * length (group_text g) in
    omega (
      arith,
      length-append (offset_rows r g.target (place + 8) g.offsets) (group_rows r next gs),
      sum_by-cons (λ (group : RelocGroup). length group.offsets) g gs,
      length-offset_rows r g.target (place + 8) g.offsets,
      length-group_rows r next gs,
    )
