-- The files that fronts are closed to.
use Rattle.std.proofs.Common.{◌≡◌, ℕ, ◌+◌, ◌*◌, ◌≤◌, Bool, true, false, List, [], ◌∷◌, ◌++◌, length, take, refl, sym, ap, subst, ◌∙◌, append-nil, length-append, length-take-le, arith, Option, Some, None}
use Rattle.hunk_words.specs.Longs.{bytes_of}
use Rattle.hunk_words.proofs.LongLaws.{bytes_of-append, length-bytes_of}
use Rattle.hunk_files.specs.HunkFile.{IsFileOf, file_bytes}
use Rattle.hunk_files.specs.{LoadText.text, ObjectFile.object_text}
use Rattle.hunk_files.specs.declared.hunk_file.HunkFile.{HunkFile}
use Rattle.hunk_c.specs.Files.{hunks_in}
use Rattle.hunk_c.specs.Fronts.{IsClosed, LoadIsClosed, ObjectIsClosed, empty_hunks, hunk_end, open_at}
use Rattle.std.proofs.lemmas.List.{length-map}
use Rattle.std.specs.List.{flat_map}
use Rattle.hunk_files.specs.FileSteps.{AtBlock, hunk}
use Rattle.hunk_files.specs.{Hunks.block_texts, LoadText.table, ReadFiles.table_words, ReaderPosition.open_table, Tables.{entry_text, hunk_texts}}
use Rattle.hunk_files.specs.LoadFile.{HunkValue, IsLoadFile, LoadFileValue, TableEntry}
use Rattle.hunk_files.proofs.walk.{ReadFiles.read_of, Reading.reads, SpelledText.words_are}
use Rattle.hunk_c.specs.Fronts.{InLoadText}
use Rattle.hunk_c.proofs.{FrontText.empty_size, LoadFronts.read_before, ObjectFronts.object_begins}

pub closed_whole : (ws : List ℕ) (file : HunkFile) → IsClosed ws file → IsFileOf (file_bytes file) file
closed_whole ws file (LoadIsClosed v is e i left less t) =
    subst (λ (x : HunkFile). IsFileOf (file_bytes x) x) (sym e) (record { value = v; is_load_file = is; rest = []; split = sym (append-nil (bytes_of (text v))) }, refl, refl)
closed_whole ws file (ObjectIsClosed o is e i t) =
    subst (λ (x : HunkFile). IsFileOf (file_bytes x) x) (sym e) (record { value = o; is_object_file = is; text_is = refl }, refl)

pub closed_begins : (ws : List ℕ) (file : HunkFile) → IsClosed ws file → (more : List ℕ) × (file_bytes file ≡ bytes_of ws ++ more)
closed_begins ws file (LoadIsClosed v is e i left less t) =
    let more : List ℕ = hunk_end (Some i.place.has_content) ++ empty_hunks left in
    (bytes_of more, ap file_bytes e ∙ ap bytes_of t ∙ bytes_of-append ws more)
closed_begins ws file (ObjectIsClosed o is e i t) = (bytes_of (hunk_end (open_at i.place)), ap file_bytes e ∙ ap bytes_of t ∙ bytes_of-append ws (hunk_end (open_at i.place)))

end_short : (o : Option Bool) → length (hunk_end o) ≤ 3
end_short None = omega arith
end_short (Some true) = omega arith
end_short (Some false) = omega arith

pub closed_size : (ws : List ℕ) (n : ℕ) (file : HunkFile) → n ≤ length ws → IsClosed (take n ws) file → length (file_bytes file) ≤ 4 * n + 12 * hunks_in file + 12
closed_size ws n file inside (LoadIsClosed v is e i left less t) =
    let end : List ℕ = hunk_end (Some i.place.has_content) in
    omega (
      arith,
      ap (λ (x : HunkFile). length (file_bytes x)) e,
      ap (λ (x : HunkFile). hunks_in x) e,
      length-bytes_of (text v),
      ap length t,
      length-append (take n ws) (end ++ empty_hunks left),
      length-append end (empty_hunks left),
      length-take-le n ws inside,
      end_short (Some i.place.has_content),
      empty_size left,
      less,
    )
closed_size ws n file inside (ObjectIsClosed o is e i t) =
    let end : List ℕ = hunk_end (open_at i.place) in
    omega (
      arith,
      ap (λ (x : HunkFile). length (file_bytes x)) e,
      length-bytes_of (object_text o),
      ap length t,
      length-append (take n ws) end,
      length-take-le n ws inside,
      end_short (open_at i.place),
    )

-- ---- four times the front

entry_some : (e : TableEntry) → 1 ≤ length (entry_text e)
entry_some e = omega arith

entries_some : (es : List TableEntry) → length es ≤ length (flat_map entry_text es)
entries_some [] = omega arith
entries_some (e ∷ es) = omega (arith, entry_some e, entries_some es, length-append (entry_text e) (flat_map entry_text es))

-- A front has the header, and a longword there for each hunk.
load_hunks : (ws more : List ℕ) (v : LoadFileValue) → IsLoadFile v → text v ≡ ws ++ more → InLoadText ws → 5 + length v ≤ length ws
load_hunks ws more v is e i =
    let b = read_before ws i in
    let o = b.0 in
    let f = (reads b.1).0.front_fits in
    let h = read_of ws more (AtBlock o) v b.1 is e in
    let t = open_table o in
    omega (
      arith,
      ap length h.hunks_are,
      length-append o.finished (hunk o.entry (o.blocks ++ h.blocks) ∷ h.ahead),
      ap length h.table_is,
      length-map h.ahead (λ (x : HunkValue). x.entry),
      length-append (table o.finished) (o.entry ∷ o.ahead),
      length-map o.finished (λ (x : HunkValue). x.entry),
      entries_some t,
      ap length (words_are ws (AtBlock o) b.1),
      length-append (table_words o.hunks t) (hunk_texts o.finished ++ block_texts o.blocks),
    )

pub closed_fourfold : (ws : List ℕ) (n : ℕ) (file : HunkFile) → n ≤ length ws → IsClosed (take n ws) file → length (file_bytes file) ≤ 4 * (4 * n)
closed_fourfold ws n file inside (LoadIsClosed v is e i left less t) =
    omega (
      arith,
      closed_size ws n file inside (LoadIsClosed v is e i left less t),
      ap (λ (x : HunkFile). hunks_in x) e,
      load_hunks (take n ws) _ v is t i,
      length-take-le n ws inside,
    )
closed_fourfold ws n file inside (ObjectIsClosed o is e i t) =
    omega (
      arith,
      closed_size ws n file inside (ObjectIsClosed o is e i t),
      ap (λ (x : HunkFile). hunks_in x) e,
      ap length (object_begins (take n ws) i).1,
      length-take-le n ws inside,
    )
