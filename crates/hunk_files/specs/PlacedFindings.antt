-- What is wrong with the offsets of an object file, each finding with the byte of its offset.
use Rattle.std.specs.Prelude.{◌≡◌, ℕ, ◌+◌, ◌-◌, ◌*◌, List, [], ◌∷◌, ◌++◌, length, map}
use Rattle.hunk_words.specs.Bits.{kind}
use Rattle.hunk_blocks.specs.Parts.{block_text, ext_text, group_text}
use Rattle.hunk_blocks.specs.Values.{BlockBody, BlockValue, ExtEntry, RelocGroup, Reloc, Ext}
use Rattle.hunk_files.specs.Findings.{FindingValue, HunkContext, hunk_bytes, outside}
use Rattle.hunk_files.specs.Findings.{reference_width, relocation_findings, relocation_width}
use Rattle.hunk_files.specs.Hunks.{block_texts}
use Rattle.hunk_files.specs.ObjectFile.{ObjectFileValue, ObjectHunk, UnitValue}
use Rattle.hunk_files.specs.ObjectFile.{unit_header, unit_text}
use Rattle.hunk_files.specs.declared.object.check.PlacedFinding as placed

abbrev pub PlacedFinding : Type 0
PlacedFinding = placed.PlacedFinding

-- those of an offset that stands at this byte
abbrev pub standing_at : ℕ → List FindingValue → List PlacedFinding
standing_at place found = map (λ f. record { place = place; value = f }) found

-- those of items whose texts stand one after the other, from this byte on
abbrev pub in_turn : {A : Type 0} → (ℕ → A → List PlacedFinding) → (A → List ℕ) → ℕ → List A →
    List PlacedFinding
in_turn found text place [] = []
in_turn found text place (x ∷ rest) =
    found place x ++ in_turn found text (place + 4 * length (text x)) rest

-- those of offsets, each a longword
abbrev pub offsets_findings_at : (ℕ → List FindingValue) → ℕ → List ℕ → List PlacedFinding
offsets_findings_at found =
    in_turn (λ place offset. standing_at place (found offset)) (λ offset. offset ∷ [])

-- those of a group that begins at this byte: its offsets stand after their number and the target
abbrev pub group_findings_at : HunkContext → ℕ → ℕ → RelocGroup → List PlacedFinding
group_findings_at s width place g =
    offsets_findings_at (relocation_findings s width g.target) (place + 8) g.offsets

-- those of an entry that ends at this byte: its offsets are its last longwords
abbrev pub entry_findings_at : HunkContext → ℕ → ExtEntry → List PlacedFinding
entry_findings_at s end e =
    offsets_findings_at (outside s (reference_width e)) (end - 4 * length e.offsets) e.offsets

abbrev pub groups_findings_at : HunkContext → ℕ → ℕ → List RelocGroup → List PlacedFinding
groups_findings_at s width = in_turn (group_findings_at s width) group_text

abbrev pub entries_findings_at : HunkContext → ℕ → List ExtEntry → List PlacedFinding
entries_findings_at s =
    in_turn (λ place e. entry_findings_at s (place + 4 * length (ext_text e)) e) ext_text

-- those of a block that begins at this byte: its list stands after its word
abbrev pub body_findings_at : HunkContext → ℕ → ℕ → BlockBody → List PlacedFinding
body_findings_at s place word (Reloc groups) =
    groups_findings_at s (relocation_width (kind word)) (place + 4) groups
body_findings_at s place word (Ext entries) = entries_findings_at s (place + 4) entries
body_findings_at s place word _ = []

abbrev pub block_findings_at : HunkContext → ℕ → BlockValue → List PlacedFinding
block_findings_at s place b = body_findings_at s place b.word b.body

abbrev pub hunk_findings_at : HunkContext → ℕ → ObjectHunk → List PlacedFinding
hunk_findings_at s = in_turn (block_findings_at s) block_text

-- the hunks from this number and this byte on, of a unit with that number of hunks
abbrev pub hunks_findings_at : ℕ → ℕ → ℕ → ℕ → List ObjectHunk → List PlacedFinding
hunks_findings_at unit hunks number place [] = []
hunks_findings_at unit hunks number place (h ∷ rest) =
    hunk_findings_at
    (record { unit = unit; hunk = number; hunks = hunks; bytes = hunk_bytes h }) place h
    ++ hunks_findings_at unit hunks (number + 1) (place + 4 * length (block_texts h)) rest

abbrev pub unit_findings_at : ℕ → ℕ → UnitValue → List PlacedFinding
unit_findings_at number place u =
    hunks_findings_at number (length u.hunks) 0 (place + 4 * length (unit_header u.name)) u.hunks

abbrev pub units_findings_at : ℕ → ℕ → List UnitValue → List PlacedFinding
units_findings_at number place [] = []
units_findings_at number place (u ∷ rest) =
    unit_findings_at number place u
    ++ units_findings_at (number + 1) (place + 4 * length (unit_text u)) rest

-- The findings of an object file, in file order, each with its place.
abbrev pub placed_findings : ObjectFileValue → List PlacedFinding
placed_findings o = units_findings_at 0 0 o

-- ---- item by item

-- At its place in these longwords stands its offset.
pub record StandsInPlace (words : List ℕ) (f : PlacedFinding) : Type 0 where
  pub before : List ℕ
  pub after : List ℕ
  pub split : words ≡ before ++ f.value.offset ∷ after
  pub is : f.place ≡ 4 * length before
