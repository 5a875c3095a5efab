-- The numbers that the lines of a block have.
use Rattle.std.proofs.Common.{◌≡◌, ℕ, ◌^◌, ◌<◌, ◌≤◌, List, [], ◌∷◌, ◌++◌, length, refl, sym, ap, ◌∙◌, arith, length-append}
use Rattle.std.specs.List.{flat_map}
use Rattle.std.proofs.lemmas.List.{length-map}
use Rattle.hunk_words.specs.Longs.{bytes_of}
use Rattle.hunk_words.proofs.LongLaws.{length-bytes_of}
use Rattle.hunk_grammar.specs.BlockParts.{Part}
use Rattle.hunk_blocks.proofs.PartTexts.{offsets_few}
use Rattle.hunk_blocks.specs.Parts.{block_text, body_parts, body_text, ext_parts, group_parts, symbol_parts}
use Rattle.hunk_blocks.specs.Values.{RelocGroup, ExtEntry, SymbolEntry, BlockBody, Reloc, Ext, Symbol, BlockValue, offset_count}

-- ---- numbers that fit

-- each item has a longword of the text
items_within : {A : Type 0} (parts : A → List (Part × ℕ)) → ((x : A) → 0 < length (parts x)) → (xs : List A) → length xs ≤ length (flat_map parts xs)
items_within parts some [] = omega arith
items_within parts some (x ∷ xs) = omega (arith, some x, items_within parts some xs, length-append (parts x) (flat_map parts xs))

-- The bytes of the text can be counted, and so can what has a longword of a list in it.
list_fits : (block : BlockValue) (body : BlockBody) (items : List (Part × ℕ)) (last : Part × ℕ) (size : ℕ) → body ≡ block.body → body_parts body ≡ items ++ last ∷ [] →
    size ≡ length (bytes_of (block_text block)) → size < 2 ^ 64 → length items < 2 ^ 64
list_fits block body items last size is parts_are size_is fits =
    let text : length (body_text block.body) ≡ length (body_parts body) = ap (λ (b : BlockBody). length (body_text b)) (sym is) ∙ length-map (body_parts body) (λ (p : Part × ℕ). p.1) in
    omega (arith, text, ap length parts_are, length-append items (last ∷ []), length-bytes_of (block_text block), size_is, fits)

pub offsets_fit : (block : BlockValue) (groups : List RelocGroup) (size : ℕ) → Reloc groups ≡ block.body → size ≡ length (bytes_of (block_text block)) → size < 2 ^ 64 →
    offset_count groups < 2 ^ 64
offsets_fit block groups size is size_is fits = omega (arith, offsets_few groups, list_fits block (Reloc groups) (flat_map group_parts groups) _ size is refl size_is fits)

pub entries_fit : (block : BlockValue) (entries : List ExtEntry) (size : ℕ) → Ext entries ≡ block.body → size ≡ length (bytes_of (block_text block)) → size < 2 ^ 64 →
    length entries < 2 ^ 64
entries_fit block entries size is size_is fits =
    omega (arith, items_within ext_parts (λ e. omega arith) entries, list_fits block (Ext entries) (flat_map ext_parts entries) _ size is refl size_is fits)

pub symbols_fit : (block : BlockValue) (symbols : List SymbolEntry) (size : ℕ) → Symbol symbols ≡ block.body → size ≡ length (bytes_of (block_text block)) → size < 2 ^ 64 →
    length symbols < 2 ^ 64
symbols_fit block symbols size is size_is fits =
    omega (arith, items_within symbol_parts (λ s. omega arith) symbols, list_fits block (Symbol symbols) (flat_map symbol_parts symbols) _ size is refl size_is fits)
