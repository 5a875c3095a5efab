-- The text of a load file in memory, in the parts that are written.
use Rattle.std.proofs.Common.{◌≡◌, ℕ, ◌-◌, true, List, [], ◌∷◌, ◌++◌, length, map, refl, sym, ap, ap₂, ◌∙◌, append_assoc}
use Rattle.std.proofs.lemmas.{List.length-map, List.Folds.flat_map-map}
use Rattle.std.specs.List.{flat_map}
use Rattle.hunk_words.specs.{Longs.bytes_of, Bits.has_both_bits}
use Rattle.hunk_words.proofs.LongLaws.{bytes_of-cons, bytes_of-append}
use Rattle.hunk_files.specs.{declared.row.Row.Row, declared.load.hunk.LoadHunk.LoadHunk}
use Rattle.hunk_files.specs.{LoadFile.{HunkValue, LoadFileValue}, LoadText.{table, text}, Hunks.block_texts}
use Rattle.hunk_files.specs.Tables.{row_entry, hunk_of, hunk_texts, row_words, row_texts}
use Rattle.hunk_files.proofs.cuts.TableReading.{entries_words, entries_more, entry_words, text_is}

-- ---- a row

pub row_two : (r : Row) → has_both_bits r.word ≡ true → bytes_of (row_words r) ≡ bytes_of (r.word ∷ []) ++ bytes_of (r.extra ∷ [])
row_two r e = ap bytes_of (entry_words (row_entry r) true e) ∙ bytes_of-cons r.word (r.extra ∷ [])

-- ---- the file

abbrev pub all_blocks : List LoadHunk → List ℕ
all_blocks hs = flat_map (λ (h : LoadHunk). block_texts h.blocks.items) hs

-- the numbers of the header of so many hunks
abbrev pub numbers : ℕ → List ℕ
numbers count = 0x3F3 ∷ 0 ∷ count ∷ 0 ∷ (count - 1) ∷ []

-- what stands after the first longword of a text
abbrev pub after_first : LoadFileValue → List ℕ
after_first v = 0 ∷ length (table v) ∷ 0 ∷ (length (table v) - 1) ∷ (entries_words (table v) ++ hunk_texts v)

pub first_split : (v : LoadFileValue) → bytes_of (text v) ≡ bytes_of (0x3F3 ∷ []) ++ bytes_of (after_first v)
first_split v = ap bytes_of (text_is v) ∙ bytes_of-cons 0x3F3 (after_first v)

rows_are : (hs : List LoadHunk) → entries_words (table (map hunk_of hs)) ≡ row_texts hs
rows_are [] = refl
rows_are (h ∷ hs) = entries_more (row_entry h.row) (table (map hunk_of hs)) ∙ ap (λ (l : List ℕ). row_words h.row ++ l) (rows_are hs)

pub text_split : (hs : List LoadHunk) (v : LoadFileValue) (count : ℕ) → map hunk_of hs ≡ v → count ≡ length v →
    bytes_of (text v) ≡ bytes_of (numbers count) ++ (bytes_of (row_texts hs) ++ bytes_of (all_blocks hs))
text_split hs v count is many =
    let hunks : length (table (map hunk_of hs)) ≡ count =
    length-map (map hunk_of hs) (λ (h : HunkValue). h.entry) ∙ ap length is ∙ sym many in
    let blocks = flat_map-map (λ (h : HunkValue). block_texts h.blocks) hunk_of hs in
    let words : text (map hunk_of hs) ≡ numbers count ++ (row_texts hs ++ all_blocks hs) =
    text_is (map hunk_of hs)
    ∙ ap₂ (λ (n : ℕ) (l : List ℕ). numbers n ++ l) hunks (ap₂ (λ (l m : List ℕ). l ++ m) (rows_are hs) blocks) in
    ap (λ (w : LoadFileValue). bytes_of (text w)) (sym is)
    ∙ ap bytes_of words
    ∙ bytes_of-append (numbers count) (row_texts hs ++ all_blocks hs)
    ∙ ap (λ (l : List ℕ). bytes_of (numbers count) ++ l) (bytes_of-append (row_texts hs) (all_blocks hs))

-- a text that was printed in two parts
pub printed_two : (text xs ys old mid new : List ℕ) → mid ≡ old ++ xs → new ≡ mid ++ ys → text ≡ xs ++ ys → new ≡ old ++ text
printed_two text xs ys old mid new first then split = then ∙ ap (λ l. l ++ ys) first ∙ append_assoc old xs ys ∙ ap (λ l. old ++ l) (sym split)
