-- The text of a load file as its header and its hunks.
use Rattle.std.proofs.Common.{◌≡◌, ℕ, ◌+◌, ◌*◌, ◌≤◌, Bool, true, false, List, [], ◌∷◌, ◌++◌, length, get_or, drop, refl, ap, ap₂, ◌∙◌, append_assoc, arith, if◌then◌else◌}
use Rattle.std.specs.List.{flat_map}
use Rattle.std.proofs.lemmas.List.{length-append, map-append, drop_at}
use Rattle.hunk_words.specs.{Longs.{longs, bytes_of}, Bits.has_both_bits}
use Rattle.hunk_words.proofs.LongLaws.{bytes_of-append, length-bytes_of}
use Rattle.hunk_blocks.specs.Faults.{words}
use Rattle.hunk_files.specs.LoadFile.{TableEntry, LoadFileValue}
use Rattle.hunk_files.specs.LoadText.{entry_labelled, header_labelled, hunk_labelled, labelled, table, text}
use Rattle.hunk_files.specs.{Fault.BeginsWithLoadFile, Tables.{entry_text, header_text, hunk_texts}}
use Rattle.hunk_grammar.specs.Roles.{Role, Role as roles}
use Rattle.hunk_files.proofs.{walk.Scan.begun_longs, cuts.OneReading.hunk_words}

abbrev pub entries_words : List TableEntry → List ℕ
entries_words es = words (flat_map entry_labelled es)

pub all_words : (hunks : ℕ) (v : LoadFileValue) → words (flat_map (hunk_labelled hunks) v) ≡ hunk_texts v
all_words hunks [] = refl
all_words hunks (x ∷ v) = map-append (λ (y : Role × ℕ). y.1) (hunk_labelled hunks x) (flat_map (hunk_labelled hunks) v) ∙ ap₂ (λ (xs ys : List ℕ). xs ++ ys) (hunk_words hunks x) (all_words hunks v)

pub text_is : (v : LoadFileValue) → text v ≡ words (header_labelled (table v)) ++ hunk_texts v
unfolding labelled
text_is v = map-append (λ (y : Role × ℕ). y.1) (header_labelled (table v)) (flat_map (hunk_labelled (length v)) v) ∙ ap (λ (l : List ℕ). words (header_labelled (table v)) ++ l) (all_words (length v) v)

pub entry_words : (e : TableEntry) (b : Bool) → has_both_bits e.word ≡ b → words (entry_labelled e) ≡ e.word ∷ (if b then e.extra ∷ [] else [])
entry_words e true h = ap (λ (c : Bool). words ((roles.SizeWord, e.word) ∷ (if c then (roles.Attributes, e.extra) ∷ [] else []))) h
entry_words e false h = ap (λ (c : Bool). words ((roles.SizeWord, e.word) ∷ (if c then (roles.Attributes, e.extra) ∷ [] else []))) h

pub entries_more : (e : TableEntry) (es : List TableEntry) → entries_words (e ∷ es) ≡ words (entry_labelled e) ++ entries_words es
entries_more e es = map-append (λ (x : Role × ℕ). x.1) (entry_labelled e) (flat_map entry_labelled es)

pub entries_are : (es : List TableEntry) → entries_words es ≡ flat_map entry_text es
entries_are [] = refl
entries_are (e ∷ es) = entries_more e es ∙ ap (λ (l : List ℕ). entry_text e ++ l) (entries_are es)

pub header_size : (v : LoadFileValue) → length (header_text v) ≡ 5 + length (flat_map entry_text (table v))
header_size v = omega (arith, ap length (entries_are (table v)))

-- After the header stand the hunks.
pub header_split : (bytes : List ℕ) (file : BeginsWithLoadFile bytes) → bytes ≡ bytes_of (header_text file.value) ++ (bytes_of (hunk_texts file.value) ++ file.rest)
header_split bytes file =
    let w = header_text file.value in
    file.split ∙ ap (λ (l : List ℕ). bytes_of l ++ file.rest) (text_is file.value)
    ∙ ap (λ (l : List ℕ). l ++ file.rest) (bytes_of-append w (hunk_texts file.value)) ∙ append_assoc (bytes_of w) (bytes_of (hunk_texts file.value)) file.rest

pub header_inside : (bytes : List ℕ) (file : BeginsWithLoadFile bytes) → 4 * length (header_text file.value) ≤ length bytes
header_inside bytes file =
    omega (arith, ap length (header_split bytes file), length-append (bytes_of (header_text file.value)) (bytes_of (hunk_texts file.value) ++ file.rest), length-bytes_of (header_text file.value))

pub hunks_follow : (bytes : List ℕ) (file : BeginsWithLoadFile bytes) → drop (4 * length (header_text file.value)) bytes ≡ bytes_of (hunk_texts file.value) ++ file.rest
hunks_follow bytes file =
    let size = 4 * length (header_text file.value) in
    ap (drop size) (header_split bytes file) ∙ drop_at (bytes_of (header_text file.value)) (bytes_of (hunk_texts file.value) ++ file.rest) size (length-bytes_of (header_text file.value))

-- ---- its numbers

module _ (bytes : List ℕ) (file : BeginsWithLoadFile bytes) where
  -- the number of hunks stands in the header
  pub size_is : (get_or (longs bytes) 2 0 ≡ length (table file.value)) × (20 ≤ length bytes)
  size_is =
      let words : longs bytes ≡ header_text file.value ++ (hunk_texts file.value ++ longs file.rest) =
      begun_longs bytes file ∙ ap (λ (l : List ℕ). l ++ longs file.rest) (text_is file.value) ∙ append_assoc (header_text file.value) (hunk_texts file.value) (longs file.rest) in
      (ap (λ (l : List ℕ). get_or l 2 0) words, omega (arith, header_inside bytes file))
