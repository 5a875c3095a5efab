-- A reader of load files says all that was read.
use Rattle.std.proofs.Common.{◌≡◌, ℕ, suc, ◌+◌, ◌-◌, false, List, [], ◌∷◌, ◌++◌, length, refl, sym, ap, ap₂, ◌∙◌, append_assoc}
use Rattle.std.proofs.lemmas.List.{map-append}
use Rattle.std.specs.List.{flat_map}
use Rattle.hunk_words.specs.Bits.{header_word, size_longs, size_word}
use Rattle.hunk_blocks.specs.{Faults.words, Parts.{each, group_parts, group_text, longs_of, symbol_parts, symbol_text}}
use Rattle.hunk_grammar.specs.BlockParts.{Part, Part as parts}
use Rattle.hunk_blocks.specs.BlockSteps.{Filling, Counted, SizedCode, SizedData, Inside, AtCount, AtSize, InPayload, AtGroup, AtTarget, InOffsets, AtEntry, InName, AtValue}
use Rattle.hunk_blocks.specs.Values.{RelocGroup, SymbolEntry}
use Rattle.hunk_blocks.proofs.{BlockProgress.{head_of, read_inside}, FaultLaws.words-append, PartTexts.{longs_of-each, longs_of-flat_map}}
use Rattle.hunk_grammar.specs.Roles.{Place, Role as roles}
use Rattle.hunk_files.specs.FileSteps.{HunkSoFar, Progress, AtFirst, AtSizeWord, AtAttributes, AtBlock, InBody, More, place_of}
use Rattle.hunk_files.specs.LoadFile.{TableEntry}
use Rattle.hunk_files.specs.ReadFiles.{block_words, first_word, hunk_words, table_words, words_of}
use Rattle.hunk_files.specs.ReaderPosition.{open_table}
use Rattle.hunk_files.specs.LoadText.{blocks_labelled, hunk_labelled}
use Rattle.hunk_files.specs.WordsRead.{HasRead, Labelled}
use Rattle.hunk_files.proofs.{walk.FileProgress.{ProgressFits, header_so_far, open_so_far, read_progress}, walk.FileText.in_place, walk.HunkProgress.Within}
use Rattle.hunk_files.proofs.{cuts.OneReading.{blocks_words, placed_words}, walk.Reading.reads, cuts.TableReading.{all_words, entries_are}}

-- ---- of a block

groups_words : (groups : List RelocGroup) (rest : List (Part × ℕ)) → longs_of (flat_map group_parts groups ++ rest) ≡ flat_map group_text groups ++ longs_of rest
groups_words groups rest = map-append (λ (p : Part × ℕ). p.1) (flat_map group_parts groups) rest ∙ ap (λ (ws : List ℕ). ws ++ longs_of rest) (longs_of-flat_map group_parts groups)

symbols_words : (entries : List SymbolEntry) (word : ℕ) (name : List ℕ) → longs_of (flat_map symbol_parts entries ++ (parts.EntryWord, word) ∷ each parts.EntryName name) ≡ flat_map symbol_text entries ++ word ∷ name
symbols_words entries word name =
    map-append (λ (p : Part × ℕ). p.1) (flat_map symbol_parts entries) ((parts.EntryWord, word) ∷ each parts.EntryName name)
    ∙ ap₂ (λ (xs ys : List ℕ). xs ++ word ∷ ys) (longs_of-flat_map symbol_parts entries) (longs_of-each parts.EntryName name)

payload_words : (f : Filling) (count : ℕ) (done : List ℕ) → longs_of (head_of f count ∷ each parts.Payload done) ≡ first_word f count ∷ done
payload_words (Counted c) count done = ap (λ (ws : List ℕ). count ∷ ws) (longs_of-each parts.Payload done)
payload_words (SizedCode top) count done = ap (λ (ws : List ℕ). size_word top count ∷ ws) (longs_of-each parts.Payload done)
payload_words (SizedData top) count done = ap (λ (ws : List ℕ). size_word top count ∷ ws) (longs_of-each parts.Payload done)

inside_words : (p : Place) (word : ℕ) (x : Inside) → Within p word x → longs_of (read_inside x) ≡ block_words x
inside_words p word (AtCount c) h = refl
inside_words p word (AtSize s) h = refl
inside_words p word (InPayload f done owed) h = payload_words f (length done + suc owed) done
inside_words p word (AtGroup groups) h = longs_of-flat_map group_parts groups
inside_words p word (AtTarget groups owed) h = groups_words groups ((parts.GroupCount, suc owed) ∷ [])
inside_words p word (InOffsets groups target done owed) h =
    groups_words groups ((parts.GroupCount, length done + suc owed) ∷ (parts.Target, target) ∷ each parts.Offset done)
    ∙ ap (λ (ws : List ℕ). flat_map group_text groups ++ (length done + suc owed) ∷ target ∷ ws) (longs_of-each parts.Offset done)
inside_words p word (AtEntry entries) h = longs_of-flat_map symbol_parts entries
inside_words p word (InName entries w done owed) h = symbols_words entries w done
inside_words p word (AtValue entries w name) h = symbols_words entries w name
inside_words p word _ h = absurd h

-- ---- of a file

header_words : (hunks : ℕ) (done : List TableEntry) → words (header_so_far hunks done) ≡ table_words hunks done
header_words hunks done = ap (λ (ws : List ℕ). header_word ∷ 0 ∷ hunks ∷ 0 ∷ (hunks - 1) ∷ ws) (entries_are done)

open_words : (o : HunkSoFar) → words (open_so_far o) ≡ hunk_words o
open_words o =
    let header : Labelled = header_so_far o.hunks (open_table o) in
    let hunks : Labelled = flat_map (hunk_labelled o.hunks) o.finished in
    let blocks : Labelled = blocks_labelled o.hunks (size_longs o.entry.word) false o.blocks in
    words-append (header ++ hunks) blocks
    ∙ ap (λ (ws : List ℕ). ws ++ words blocks) (words-append header hunks)
    ∙ append_assoc (words header) (words hunks) (words blocks)
    ∙ ap₂ (λ (xs ys : List ℕ). xs ++ ys) (header_words o.hunks (open_table o)) (ap₂ (λ (xs ys : List ℕ). xs ++ ys) (all_words o.hunks o.finished) (blocks_words o.hunks (size_longs o.entry.word) false o.blocks))

progress_words : (p : Progress) → ProgressFits p → words (read_progress p) ≡ words_of p
progress_words (AtSizeWord hunks done owed) f = header_words hunks done
progress_words (AtAttributes hunks done word owed) f = words-append (header_so_far hunks done) ((roles.SizeWord, word) ∷ []) ∙ ap (λ (ws : List ℕ). ws ++ word ∷ []) (header_words hunks done)
progress_words (AtBlock o) f = open_words o
progress_words (InBody o word x) f =
    let inside : List (Part × ℕ) = (parts.BlockWord, word) ∷ read_inside x in
    words-append (open_so_far o) (in_place (place_of o) inside)
    ∙ ap₂ (λ (xs ys : List ℕ). xs ++ ys) (open_words o) (placed_words (place_of o) inside ∙ ap (λ (ws : List ℕ). word ∷ ws) (inside_words (place_of o) word x f.2.1))
progress_words AtFirst f = refl
progress_words _ f = refl

-- What it says spells the longwords.
pub words_are : (ws : List ℕ) (p : Progress) → HasRead ws (More p) → words_of p ≡ ws
words_are ws p h = let r = reads h in sym (progress_words p r.0) ∙ ap words r.1 ∙ h.all
