-- The text of a load file is cut into its hunks and what stands after it.
use Rattle.std.proofs.Common.{rules, ◌≡◌, ℕ, zero, suc, ◌-◌, ◌<◌, ◌≤◌, true, false, List, [], ◌∷◌, ◌++◌, length, drop, get_or, refl, sym, ap, ap₂, ◌∙◌, append_assoc, arith}
use Rattle.std.specs.List.{flat_map, AllByRecursion}
use Rattle.std.proofs.lemmas.List.{length-map, take-append-drop}
use Rattle.hunk_words.specs.{Bits.{has_both_bits, entry_longs}, Longs.longs}
use Rattle.hunk_blocks.specs.Cuts.{Cut, cut_map}
use Rattle.hunk_blocks.proofs.CutLaws.{cut}
use Rattle.hunk_files.specs.LoadFile.{TableEntry, HunkValue, LoadFileValue, IsTableEntry, IsHunk, IsLoadFile, declared_longs}
use Rattle.hunk_files.specs.Cuts.{hunk_cut, row_cut, table_cut, load_hunks_cut, load_cut}
use Rattle.hunk_files.specs.{LoadText.{table, text}, Hunks.block_texts, Tables.{entry_text, header_text, hunk_texts}}
use Rattle.hunk_files.specs.{Fault.{BeginsWithLoadFile, HasLoadText}, InPlace.BeginsWithTable}
use Rattle.hunk_files.proofs.{cuts.BlockCuts.hunk_cut_is, walk.FileText.entries_fit, cuts.OneReading.are_blocks, walk.Scan.begun_longs}
use Rattle.hunk_files.proofs.cuts.TableReading.{entries_are, size_is, text_is}

-- ---- the table

row_cut_is : (e : TableEntry) (rest : List ℕ) → IsTableEntry e → row_cut (entry_text e ++ rest) ≡ cut e rest
row_cut_is e rest is = search rules

pub table_cut_is : (es : List TableEntry) (rest : List ℕ) → AllByRecursion IsTableEntry es → table_cut (length es) (flat_map entry_text es ++ rest) ≡ cut es rest
unfolding table_cut
table_cut_is [] rest is = refl
table_cut_is (e ∷ es) rest is =
    let next : Cut TableEntry → Cut (List TableEntry) = λ row. cut_map (λ rows. row.value ∷ rows) (table_cut (length es) row.rest) in
    ap next (ap row_cut (append_assoc (entry_text e) (flat_map entry_text es) rest) ∙ row_cut_is e (flat_map entry_text es ++ rest) is.0)
    ∙ ap (cut_map (λ rows. e ∷ rows)) (table_cut_is es rest is.1)

-- ---- the hunks

pub load_hunks_cut_is : (hunks : ℕ) (hs : LoadFileValue) (rest : List ℕ) → AllByRecursion (IsHunk hunks) hs → load_hunks_cut (table hs) (hunk_texts hs ++ rest) ≡ cut hs rest
unfolding load_hunks_cut
load_hunks_cut_is hunks [] rest is = refl
load_hunks_cut_is hunks (h ∷ hs) rest is =
    let next : Cut (List _) → Cut LoadFileValue = λ blocks. cut_map (λ xs. record { entry = h.entry; blocks = blocks.value } ∷ xs) (load_hunks_cut (table hs) blocks.rest) in
    ap next (ap hunk_cut (append_assoc (block_texts h.blocks) (hunk_texts hs) rest) ∙ hunk_cut_is false h.blocks (hunk_texts hs ++ rest) (are_blocks hunks (declared_longs h) h.blocks is.0.blocks) is.0.order)
    ∙ ap (cut_map (λ xs. h ∷ xs)) (load_hunks_cut_is hunks hs rest is.1)

-- ---- the file

pub load_cut_is : (v : LoadFileValue) (rest : List ℕ) → IsLoadFile v → load_cut (text v ++ rest) ≡ cut v rest
unfolding load_cut
load_cut_is v rest is =
    let rows = flat_map entry_text (table v) in
    let count : length (table v) ≡ length v = length-map v (λ (h : HunkValue). h.entry) in
    let numbers : List ℕ → List ℕ = λ after. 0x3F3 ∷ 0 ∷ length (table v) ∷ 0 ∷ (length (table v) - 1) ∷ after in
    let words : text v ++ rest ≡ numbers (rows ++ (hunk_texts v ++ rest)) =
    ap (λ (l : List ℕ). l ++ rest) (text_is v) ∙ append_assoc (header_text v) (hunk_texts v) rest ∙ ap (λ (l : List ℕ). numbers (l ++ (hunk_texts v ++ rest))) (entries_are (table v)) in
    let next : Cut (List TableEntry) → Cut LoadFileValue = λ t. load_hunks_cut t.value t.rest in
    ap load_cut words ∙ ap next (table_cut_is (table v) (hunk_texts v ++ rest) (entries_fit (length v) v is.each)) ∙ load_hunks_cut_is (length v) v rest is.each

-- ---- the table, entry by entry

-- the next entry, and those after it
pub record NextEntry (hunks : ℕ) (words : List ℕ) : Type 0 where
  pub whole : entry_longs (get_or words 0 0) ≤ length words
  pub some : 1 ≤ length words
  pub two : has_both_bits (get_or words 0 0) ≡ true → 2 ≤ length words
  pub first : (table_cut hunks words).value ≡ (row_cut words).value ∷ (table_cut (hunks - 1) (drop (entry_longs (get_or words 0 0)) words)).value
  pub left : BeginsWithTable (hunks - 1) (drop (entry_longs (get_or words 0 0)) words)

pub next_entry : (hunks : ℕ) (words : List ℕ) → BeginsWithTable hunks words → 0 < hunks → NextEntry hunks words
unfolding table_cut
next_entry zero words t some = absurd (omega (arith, some))
next_entry (suc hunks) words t some = go t.value t.is t.begins
  where
    go : (es : List TableEntry) → (length es ≡ suc hunks) × AllByRecursion IsTableEntry es → words ≡ flat_map entry_text es ++ t.more → NextEntry (suc hunks) words
    go [] is e = absurd (omega (arith, is.0))
    go (x ∷ es) is e = search rules

-- a table that was passed over
pub table_ends : (words : List ℕ) → BeginsWithTable 0 words → (table_cut 0 words).value ≡ []
unfolding table_cut
table_ends words t = refl

module _ (bytes : List ℕ) (file : BeginsWithLoadFile bytes) where
  after_five : drop 5 (longs bytes) ≡ flat_map entry_text (table file.value) ++ (hunk_texts file.value ++ longs file.rest)
  after_five =
      ap (drop 5)
      (begun_longs bytes file ∙ ap (λ (l : List ℕ). l ++ longs file.rest) (text_is file.value) ∙ append_assoc (header_text file.value) (hunk_texts file.value) (longs file.rest)
      ∙ ap (λ (l : List ℕ). (0x3F3 ∷ 0 ∷ length (table file.value) ∷ 0 ∷ (length (table file.value) - 1) ∷ l) ++ (hunk_texts file.value ++ longs file.rest)) (entries_are (table file.value)))

  pub table_begins : BeginsWithTable (get_or (longs bytes) 2 0) (drop 5 (longs bytes))
  table_begins =
      record {
        value = table file.value;
        is = (sym (size_is bytes file).0, entries_fit (length file.value) file.value file.is_load_file.each);
        more = hunk_texts file.value ++ longs file.rest;
        begins = after_five;
      }

  pub table_value : (table_cut (get_or (longs bytes) 2 0) (drop 5 (longs bytes))).value ≡ table file.value
  table_value =
      ap₂ (λ (n : ℕ) (ws : List ℕ). (table_cut n ws).value) (size_is bytes file).0 after_five
      ∙ ap (λ (c : Cut (List TableEntry)). c.value) (table_cut_is (table file.value) (hunk_texts file.value ++ longs file.rest) (entries_fit (length file.value) file.value file.is_load_file.each))

  pub load_value : (load_cut (longs bytes)).value ≡ file.value
  load_value = ap (λ (ws : List ℕ). (load_cut ws).value) (begun_longs bytes file) ∙ ap (λ (c : Cut LoadFileValue). c.value) (load_cut_is file.value (longs file.rest) file.is_load_file)

-- the file that a walk found
abbrev pub begins : (bytes : List ℕ) (size : ℕ) → HasLoadText bytes size → BeginsWithLoadFile bytes
begins bytes size h =
    record { value = h.value; is_load_file = h.is_load_file; rest = drop size bytes; split = sym (take-append-drop size bytes) ∙ ap (λ (l : List ℕ). l ++ drop size bytes) h.text_is }
