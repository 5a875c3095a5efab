-- A load file has no more warnings than bytes.
use Rattle.std.proofs.Common.{◌≡◌, ℕ, ◌+◌, ◌*◌, ◌≤◌, ◌<◌, Bool, true, false, cond, List, [], ◌∷◌, ◌++◌, length, get_or, take, drop, refl, ap, ap₂, ◌∙◌, arith, nat_lt, length-append, Option, Some, None, ◌==◌, ◌%◌}
use Rattle.std.specs.Prelude.{◌&&◌}
use Rattle.std.specs.List.{AllByRecursion, count_by, filter, flat_map}
use Rattle.std.proofs.lemmas.{Bool.{cond-false, le-ltb, ltb-true}, List.Sums.sum_by-cons}
use Rattle.hunk_words.specs.Longs.{bytes_of}
use Rattle.hunk_words.specs.Bits.{memory_bits}
use Rattle.hunk_words.proofs.LongLaws.{length-bytes_of}
use Rattle.hunk_grammar.specs.Standings.{is_content}
use Rattle.hunk_blocks.specs.Parts.{block_text, group_text, symbol_text}
use Rattle.hunk_blocks.specs.Values.{BlockBody, BlockValue, RelocGroup, SymbolEntry, Code, Data, Bss, Reloc, Ext, Symbol, End}
use Rattle.hunk_blocks.proofs.PartTexts.{body_text_is, group_text_is}
use Rattle.hunk_files.specs.Hunks.{block_texts}
use Rattle.hunk_files.specs.Image.{block_content, filled}
use Rattle.hunk_files.specs.LoadFile.{AreInOrder, HunkValue, IsHunk, IsLoadFile, LoadFileValue, declared_longs, standing}
use Rattle.hunk_files.specs.LoadText.{text}
use Rattle.hunk_files.specs.SumImage.{long_at}
use Rattle.hunk_files.specs.Tables.{header_text, hunk_texts}
use Rattle.hunk_files.proofs.{cuts.TableReading.text_is, image.FillingLaws.IsNoContent, walk.FileText.standings}
use Rattle.hunk_lint.specs.Collecting.{blocks_content}
use Rattle.hunk_lint.specs.Suspicious.{ignores_memory, is_close, is_outside, least}
use Rattle.hunk_lint.specs.Facts.{HunkFacts, facts_of, is_bss}
use Rattle.hunk_lint.specs.Warnings.{block_warning, block_warnings, blocks_warnings, body_warnings, content_warnings, group_warnings, hunks_warnings, in_turn, offset_warning, offset_warnings, sizes_of, symbol_warnings, told, told_of, warnings}
use Rattle.hunk_lint.specs.declared.warning.Warning.{Warning}
use Rattle.hunk_lint.specs.declared.warning.WarningKind.TheVariants.{InBss, MemoryIgnored, NoEntry, OddOffset, OutsideTarget, Overlap, Twice}
use Rattle.hunk_lint.proofs.Collected.{bss_count, none_after}
use Rattle.hunk_lint.proofs.Zeros.{byte_from}

-- ---- a hunk with BSS is zeros

not_bss : (body : BlockBody) → is_content (standing body) ≡ false → cond {A = ℕ} (is_bss body) 1 0 ≡ 0
not_bss (Bss size) e = absurd cc
not_bss _ e = refl

empty : (body : BlockBody) → is_content (standing body) ≡ false → block_content body ≡ []
empty (Code top words) e = absurd cc
empty (Data top words) e = absurd cc
empty _ e = refl

pub first_count : (b : BlockValue) (bs : List BlockValue) → bss_count (b ∷ bs) ≡ cond {A = ℕ} (is_bss b.body) 1 0 + bss_count bs
first_count b bs = sum_by-cons (λ (x : BlockValue). cond (is_bss x.body) 1 0) b bs

no_bss : (bs : List BlockValue) → AllByRecursion IsNoContent bs → bss_count bs ≡ 0
no_bss [] all = refl
no_bss (b ∷ bs) all = omega (arith, no_bss bs all.1, first_count b bs, not_bss b.body all.0)

no_contents : (bs : List BlockValue) → AllByRecursion IsNoContent bs → blocks_content bs ≡ []
no_contents [] all = refl
no_contents (b ∷ bs) all = ap₂ (λ (xs ys : List ℕ). xs ++ ys) (empty b.body all.0) (no_contents bs all.1)

bss_alone : (bs : List BlockValue) → AreInOrder false (standings bs) → 0 < bss_count bs → blocks_content bs ≡ []
bss_alone [] order some = absurd order
bss_alone (b ∷ bs) order some = of b.body order (omega (arith, some, first_count b bs)) (bss_alone bs)
  where
    of : (body : BlockBody) → AreInOrder false (standing body ∷ standings bs) → 0 < cond {A = ℕ} (is_bss body) 1 0 + bss_count bs → (AreInOrder false (standings bs) → 0 < bss_count bs → blocks_content bs ≡ []) →
        block_content body ++ blocks_content bs ≡ []
    of (Code top words) o n rest = absurd (omega (arith, n, no_bss bs (none_after bs o)))
    of (Data top words) o n rest = absurd (omega (arith, n, no_bss bs (none_after bs o)))
    of (Bss size) o n rest = no_contents bs (none_after bs o)
    of (Reloc groups) o n rest = absurd o
    of (Ext entries) o n rest = absurd o
    of End o n rest = absurd o
    of _ o n rest = rest o (omega (arith, n))

-- ---- rows

few_told : (b : Bool) (w : Warning) → length (told b w) ≤ 1
few_told true w = omega arith
few_told false w = omega arith

few_told_of : (o : Option ℕ) (row : ℕ → Warning) → length (told_of o row) ≤ 1
few_told_of None row = omega arith
few_told_of (Some n) row = omega arith

-- Where the hunk has BSS, each of its longwords is 0.
abbrev IsZeroBss : HunkFacts → Type 0
IsZeroBss f = f.is_bss ≡ true → (offset : ℕ) → long_at f.content offset ≡ 0

no_bytes : (size offset : ℕ) → long_at (filled size []) offset ≡ 0
no_bytes size offset =
    omega (arith, byte 0 (omega arith), byte 1 (omega arith), byte 2 (omega arith), byte 3 (omega arith))
  where
    byte : (i : ℕ) → i < 4 → get_or {A = ℕ} (take 4 (drop offset (filled size []))) i 0 ≡ 0
    byte i less = byte_from [] size offset i (offset + i) less refl

bss_is_zero : (sizes : List ℕ) (number hunks : ℕ) (h : HunkValue) → IsHunk hunks h → IsZeroBss (facts_of sizes number h)
bss_is_zero sizes number hunks h is bss offset =
    let none = bss_alone h.blocks is.order (ltb-true 0 (bss_count h.blocks) bss) in
    ap (λ (bytes : List ℕ). long_at (filled (4 * declared_longs h) bytes) offset) none ∙ no_bytes (4 * declared_longs h) offset

zero_is_inside : (size : ℕ) → is_outside size 0 ≡ false
zero_is_inside size = cond-false (nat_lt size 0) _ _ (le-ltb size 0 (omega arith))

one_told : (a b : Bool) (v w : Warning) → (a ≡ true → b ≡ false) → length (told a v) + length (told b w) ≤ 1
one_told false b v w not_both = omega (arith, few_told b w)
one_told true b v w not_both = omega (arith, ap (λ (t : Bool). length (told t w)) (not_both refl))

-- an offset has InBss or OutsideTarget, but not both
few_of_offset : (f : HunkFacts) (target place offset : ℕ) → IsZeroBss f → length (offset_warnings f target place offset) ≤ 4
few_of_offset f target place offset zero =
    let row = offset_warning f target place offset in
    let size = get_or f.sizes target 0 in
    let value = long_at f.content offset in
    let not_both = one_told f.is_bss (is_outside size value) (row InBss 0) (row OutsideTarget 0) (λ bss. ap (is_outside size) (zero bss offset) ∙ zero_is_inside size) in
    simp length-append (
    omega (
      arith,
      few_told (offset % 2 == 1) (row OddOffset 0),
      few_told (nat_lt 1 (count_by (λ o. o == offset) f.offsets)) (row Twice 0),
      few_told_of (least (filter (is_close offset) f.offsets)) (row Overlap),
      not_both,
    )
    )

module _ {A : Type 0} (found : ℕ → A → List Warning) (text : A → List ℕ) (few : (place : ℕ) (x : A) → length (found place x) ≤ 4 * length (text x)) where
  few_in_turn : (place : ℕ) (xs : List A) → length (in_turn found text place xs) ≤ 4 * length (flat_map text xs)
  few_in_turn place [] = omega arith
  few_in_turn place (x ∷ xs) =
      let next = place + 4 * length (text x) in
      omega (arith, few place x, few_in_turn next xs, length-append (found place x) (in_turn found text next xs), length-append (text x) (flat_map text xs))

one_each : (xs : List ℕ) → length (flat_map (λ x. x ∷ []) xs) ≡ length xs
one_each [] = refl
one_each (x ∷ xs) = omega (arith, one_each xs)

module _ (f : HunkFacts) (zero : IsZeroBss f) where
  few_of_group : (place : ℕ) (g : RelocGroup) → length (group_warnings f place g) ≤ 4 * length (group_text g)
  few_of_group place g =
      omega (
        arith,
        few_in_turn (offset_warnings f g.target) (λ o. o ∷ []) (λ at o. few_of_offset f g.target at o zero) (place + 8) g.offsets,
        one_each g.offsets,
        ap (λ (ws : List ℕ). length ws) (group_text_is g),
      )

  few_of_symbol : (place : ℕ) (s : SymbolEntry) → length (symbol_warnings f place s) ≤ 4 * length (symbol_text s)
  few_of_symbol place s = omega (arith, few_told)

  few_of_content : (place word : ℕ) (is_empty : Bool) → length (content_warnings f place word is_empty) ≤ 2
  few_of_content place word is_empty = simp length-append (
      omega (
        arith,
        few_told (is_empty && f.number == 0) (block_warning f place NoEntry 0),
        few_told (ignores_memory (memory_bits word) (memory_bits f.word)) (block_warning f place MemoryIgnored (memory_bits word)),
      )
      )

  few_of_block : (place : ℕ) (b : BlockValue) → length (block_warnings f place b) ≤ 4 * length (block_text b)
  few_of_block place b = of b.body
    where
      of : (body : BlockBody) → length (body_warnings f place b.word body) ≤ 4 * length (block_text (record { word = b.word; body = body }))
      of (Code top words) = omega (arith, few_of_content place b.word (length words == 0))
      of (Data top words) = omega (arith, few_of_content place b.word (length words == 0))
      of (Bss size) = omega (arith, few_of_content place b.word true)
      of (Reloc groups) =
          omega (
            arith,
            few_in_turn (group_warnings f) group_text few_of_group (place + 4) groups,
            ap (λ (ws : List ℕ). length ws) (body_text_is (Reloc groups)),
            length-append (flat_map group_text groups) (0 ∷ []),
          )
      of (Symbol entries) =
          omega (
            arith,
            few_in_turn (symbol_warnings f) symbol_text few_of_symbol (place + 4) entries,
            ap (λ (ws : List ℕ). length ws) (body_text_is (Symbol entries)),
            length-append (flat_map symbol_text entries) (0 ∷ []),
          )
      of _ = omega arith

few_of_hunks : (sizes : List ℕ) (number place hunks : ℕ) (v : LoadFileValue) → AllByRecursion (IsHunk hunks) v → length (hunks_warnings sizes number place v) ≤ 4 * length (hunk_texts v)
few_of_hunks sizes number place hunks [] each = omega arith
few_of_hunks sizes number place hunks (h ∷ v) each =
    let f = facts_of sizes number h in
    let next = place + 4 * length (block_texts h.blocks) in
    omega (
      arith,
      few_in_turn (block_warnings f) block_text (few_of_block f (bss_is_zero sizes number hunks h each.0)) place h.blocks,
      few_of_hunks sizes (number + 1) next hunks v each.1,
      length-append (blocks_warnings f place h.blocks) (hunks_warnings sizes (number + 1) next v),
      length-append (block_texts h.blocks) (hunk_texts v),
    )

pub few_warnings : (v : LoadFileValue) → IsLoadFile v → length (warnings v) ≤ length (bytes_of (text v))
few_warnings v is =
    omega (
      arith,
      few_of_hunks (sizes_of v) 0 (4 * length (header_text v)) (length v) v is.each,
      ap (λ (ws : List ℕ). length ws) (text_is v),
      length-append (header_text v) (hunk_texts v),
      length-bytes_of (text v),
    )
