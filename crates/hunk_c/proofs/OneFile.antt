-- Bytes are one file, or begin with one.
use Rattle.std.proofs.Common.{rules, ◌≡◌, ℕ, ◌+◌, ◌<◌, ◌≤◌, List, [], ◌∷◌, ◌++◌, length, sym, ap, ap₂, ◌∙◌, append-nil, arith, length-append, inl, inr}
use Rattle.hunk_words.specs.Longs.{bytes_of, longs}
use Rattle.hunk_words.proofs.LongLaws.{longs-bytes_of}
use Rattle.hunk_files.specs.Fault.{BeginsWithLoadFile}
use Rattle.hunk_files.specs.HunkFile.{AreFile, AreObjectFile, IsFileOf, bytes_after, file_bytes, stripped}
use Rattle.hunk_files.specs.ObjectFile.{ObjectFileValue, object_text}
use Rattle.hunk_files.specs.declared.hunk_file.HunkFile.{HunkFile}
use Rattle.hunk_files.specs.{LoadFile.LoadFileValue, LoadText.text}
use Rattle.hunk_files.specs.declared.hunk_file.HunkFile.TheVariants as files
use Rattle.hunk_files.proofs.{cuts.{UnitCutLaws.object_value, UnitReading.object_longs}, walk.Scan.{begun_longs, one_front}}
use Rattle.hunk_files.proofs.{strip.StripSteps.shorter, strip.StripText.bytes_shorter, cuts.TableReading.text_is}

-- ---- load files

one_load : (bytes : List ℕ) (a b : BeginsWithLoadFile bytes) → a.value ≡ b.value
one_load bytes a b = (one_front a.value b.value (longs a.rest) (longs b.rest) a.is_load_file b.is_load_file (sym (begun_longs bytes a) ∙ begun_longs bytes b)).0

one_rest : (bytes : List ℕ) (a b : BeginsWithLoadFile bytes) → length a.rest ≡ length b.rest
one_rest bytes a b = omega (
  arith,
  ap (λ (xs : List ℕ). length xs) a.split,
  ap (λ (xs : List ℕ). length xs) b.split,
  length-append (bytes_of (text a.value)) a.rest,
  length-append (bytes_of (text b.value)) b.rest,
  ap (λ (v : LoadFileValue). length (bytes_of (text v))) (one_load bytes a b),
)

-- ---- object files

longs_of_object : (bytes : List ℕ) (o : AreObjectFile bytes) → longs bytes ≡ object_text o.value
longs_of_object bytes o =
    ap longs (o.text_is ∙ sym (append-nil (bytes_of (object_text o.value))))
    ∙ longs-bytes_of (object_text o.value) [] (object_longs o.value o.is_object_file.units)
    ∙ append-nil (object_text o.value)

one_object : (bytes : List ℕ) (a b : AreObjectFile bytes) → a.value ≡ b.value
one_object bytes a b = object_value a.value b.value a.is_object_file b.is_object_file (sym (longs_of_object bytes a) ∙ longs_of_object bytes b)

-- ---- files of either kind

begins_unit : (o : ObjectFileValue) (ws : List ℕ) → 0 < length o → object_text o ≡ 0x3F3 ∷ ws → ⊥
begins_unit [] ws some e = omega (arith, some)
begins_unit (u ∷ o) ws some e = search rules

not_both : (bytes : List ℕ) → BeginsWithLoadFile bytes → AreObjectFile bytes → ⊥
not_both bytes l o =
    begins_unit o.value _ o.is_object_file.some
    (sym (longs_of_object bytes o) ∙ begun_longs bytes l ∙ ap (λ (ws : List ℕ). ws ++ longs l.rest) (text_is l.value))

pub one_file : (bytes : List ℕ) (a b : HunkFile) → IsFileOf bytes a → IsFileOf bytes b → a ≡ b
one_file bytes (files.Load v n) (files.Load w m) is ok =
    ap₂ (λ (x : LoadFileValue) (k : ℕ). files.Load x k) (is.1 ∙ one_load bytes is.0 ok.0 ∙ sym ok.1) (is.2 ∙ one_rest bytes is.0 ok.0 ∙ sym ok.2)
one_file bytes (files.Load v n) (files.Object w) is ok = absurd (not_both bytes is.0 ok.0)
one_file bytes (files.Object v) (files.Load w m) is ok = absurd (not_both bytes ok.0 is.0)
one_file bytes (files.Object v) (files.Object w) is ok = ap (λ (x : ObjectFileValue). files.Object x) (is.1 ∙ one_object bytes is.0 ok.0 ∙ sym ok.1)

pub are_file : (bytes : List ℕ) (file : HunkFile) → IsFileOf bytes file → AreFile bytes
are_file bytes (files.Load v n) is = inl is.0
are_file bytes (files.Object v) is = inr is.0

-- the file and what follows it are all of the bytes
pub file_size : (bytes : List ℕ) (file : HunkFile) → IsFileOf bytes file → length bytes ≡ length (file_bytes file) + bytes_after file
file_size bytes (files.Load value rest) is = omega (
  arith,
  is.2,
  ap (λ (v : LoadFileValue). length (bytes_of (text v))) is.1,
  ap (λ (xs : List ℕ). length xs) is.0.split,
  length-append (bytes_of (text is.0.value)) is.0.rest,
)
file_size bytes (files.Object value) is = search rules

-- no more stays of the file than there was
pub stripped_fits : (file : HunkFile) → length (file_bytes (stripped file)) ≤ length (file_bytes file)
stripped_fits (files.Load value rest) = omega (arith, bytes_shorter value)
stripped_fits (files.Object value) = omega (arith, shorter value)
