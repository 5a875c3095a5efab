-- Files by what their first longword announces.
use Rattle.std.proofs.Common.{◌≡◌, ◌≤◌, ◌<◌, ◌≢◌, ℕ, List, [], ◌∷◌, ◌++◌, Result, Ok, Err, length, take, drop, refl, inl, inr, ap, sym, subst, ◌∙◌, arith, append_assoc, lit<}
use Rattle.std.specs.{Prelude.IfErr, List.flat_map}
use Rattle.std.proofs.lemmas.List.{take-append-drop}
use Rattle.hunk_words.specs.{Longs.{IsLong, bytes_of, longs}, declared.fault.Fault.Fault}
use Rattle.hunk_words.specs.declared.reason.Reason.TheVariants as reasons
use Rattle.hunk_words.proofs.LongLaws.{bytes_of-cons, longs-bytes_of}
use Rattle.hunk_blocks.specs.Parts.{block_text}
use Rattle.hunk_grammar.specs.{declared.file_kind.Sniff.Sniff, FileKind.sniffed}
use Rattle.hunk_grammar.specs.declared.file_kind.Sniff.TheVariants as sniffs
use Rattle.hunk_files.specs.{LoadFile.{IsLoadFile, LoadFileValue}, LoadText.text, Fault.BeginsWithLoadFile}
use Rattle.hunk_files.specs.ObjectFile.{ObjectFileValue, object_text}
use Rattle.hunk_files.specs.HunkFile.{AreFile, AreObjectFile, EndsFilePart, IsFileOf, IsMemory}
use Rattle.hunk_files.specs.{Lacks.{EndsAt, EndsLoadPart, EndsObjectPart}, declared.hunk_file.HunkFile.HunkFile}
use Rattle.hunk_files.specs.declared.hunk_file.HunkFile.TheVariants as files
use Rattle.hunk_files.proofs.cuts.TextParts.{after_first, first_split}

-- ---- a file that was decoded

pub load_of : (bytes : List ℕ) (value : LoadFileValue) (size : ℕ) → IsLoadFile value → take size bytes ≡ bytes_of (text value) → size ≤ length bytes →
    (rest : ℕ) → rest ≡ length (drop size bytes) → IsFileOf bytes (files.Load value rest)
load_of bytes value size is text_is whole rest rest_is = (
  record {
    value = value;
    is_load_file = is;
    rest = drop size bytes;
    split = sym (take-append-drop size bytes) ∙ ap (λ (xs : List ℕ). xs ++ drop size bytes) text_is;
  },
  refl,
  rest_is,
)

-- ---- what bytes announce

first_announced : (word : ℕ) (rest : List ℕ) → IsLong word → sniffed (longs (bytes_of (word ∷ []) ++ rest)) ≡ sniffed (word ∷ longs rest)
first_announced word rest is = ap sniffed (longs-bytes_of (word ∷ []) rest (is, tt))

load_announced : (bytes : List ℕ) → BeginsWithLoadFile bytes → sniffed (longs bytes) ≡ sniffs.Load
load_announced bytes file =
    let split : bytes ≡ bytes_of (0x3F3 ∷ []) ++ (bytes_of (after_first file.value) ++ file.rest) =
    file.split ∙ ap (λ (xs : List ℕ). xs ++ file.rest) (first_split file.value) ∙ append_assoc (bytes_of (0x3F3 ∷ [])) (bytes_of (after_first file.value)) file.rest in
    ap (λ (xs : List ℕ). sniffed (longs xs)) split ∙ first_announced 0x3F3 (bytes_of (after_first file.value) ++ file.rest) (lit< tt)

units_announced : (units : ObjectFileValue) → 0 < length units → sniffed (longs (bytes_of (object_text units))) ≡ sniffs.Object
units_announced [] some = absurd (omega (arith, some))
units_announced (unit ∷ units) some =
    let rest : List ℕ = length unit.name ∷ unit.name ++ flat_map (flat_map block_text) unit.hunks ++ object_text units in
    ap (λ (xs : List ℕ). sniffed (longs xs)) (bytes_of-cons 0x3E7 rest) ∙ first_announced 0x3E7 (bytes_of rest) (lit< tt)

object_announced : (bytes : List ℕ) → AreObjectFile bytes → sniffed (longs bytes) ≡ sniffs.Object
object_announced bytes file = ap (λ (xs : List ℕ). sniffed (longs xs)) file.text_is ∙ units_announced file.value file.is_object_file.some

-- ---- what bytes are refused for

-- What holds of the other three holds where no object file is announced.
pub not_object : (P : Sniff → Type 0) (kind : Sniff) → kind ≢ sniffs.Object → P sniffs.Load → P sniffs.Library → P sniffs.Other → P kind
not_object P sniffs.Object other load library none = absurd (other refl)
not_object P sniffs.Load other load library none = load
not_object P sniffs.Library other load library none = library
not_object P sniffs.Other other load library none = none

pub no_object : {T E : Type 0} (bytes : List ℕ) (result : Result T E) → sniffed (longs bytes) ≡ sniffs.Object → IfErr result (λ fault. AreObjectFile bytes → ⊥) → IfErr result (λ fault. AreFile bytes → ⊥)
no_object bytes (Ok file) kind none = tt
no_object bytes (Err fault) kind none = go
  where
    go : AreFile bytes → ⊥
    go (inl load) = let e = load_announced bytes load in cc
    go (inr object) = none object

pub no_load : {T E : Type 0} (bytes : List ℕ) (result : Result T E) → sniffed (longs bytes) ≢ sniffs.Object → IfErr result (λ fault. BeginsWithLoadFile bytes → ⊥) → IfErr result (λ fault. AreFile bytes → ⊥)
no_load bytes (Ok file) kind none = tt
no_load bytes (Err fault) kind none = go
  where
    go : AreFile bytes → ⊥
    go (inl load) = none load
    go (inr object) = kind (object_announced bytes object)

-- where memory is refused for a part of the file
lacks : (bytes : List ℕ) (file : HunkFile) (place : ℕ) → IsFileOf bytes file → EndsAt (EndsFilePart file) 0 place → IsMemory (sniffed (longs bytes)) bytes place
lacks bytes (files.Load value rest) place is ends =
    subst (λ (kind : Sniff). IsMemory kind bytes place) (sym (load_announced bytes is.0))
    (record { file = is.0; ends = subst (λ (v : LoadFileValue). EndsAt (EndsLoadPart v) 0 place) is.1 ends })
lacks bytes (files.Object value) place is ends =
    subst (λ (kind : Sniff). IsMemory kind bytes place) (sym (object_announced bytes is.0))
    (record { file = is.0; ends = subst (λ (o : ObjectFileValue). EndsAt (EndsObjectPart o) 0 place) is.1 ends })

pub file_lacks : {T : Type 0} (bytes : List ℕ) (file : HunkFile) (result : Result T Fault) → IsFileOf bytes file → IfErr result (λ fault. EndsAt (EndsFilePart file) 0 fault.place) →
    IfErr result (λ fault. fault.reason ≡ reasons.OutOfMemory → IsMemory (sniffed (longs bytes)) bytes fault.place)
file_lacks bytes file (Ok x) is ends = tt
file_lacks bytes file (Err fault) is ends = λ memory. lacks bytes file fault.place is ends
