-- What is wrong with the offsets of an object file.
use Rattle.std.specs.Prelude.{ℕ, ◌+◌, List, [], ◌∷◌, ◌++◌, length, nat_lt, Option, Some, None, unwrap_or, if◌then◌else◌}
use Rattle.std.specs.List.{flat_map, sum_by}
use Rattle.hunk_words.specs.declared.block_word.Kind.{Kind}
use Rattle.hunk_words.specs.declared.block_word.Kind.TheVariants as kinds
use Rattle.hunk_words.specs.Bits.{kind}
use Rattle.hunk_grammar.specs.declared.ext_kind.ExtKind.{ExtKind}
use Rattle.hunk_grammar.specs.ExtKinds.{ext_kind, ext_width}
use Rattle.hunk_blocks.specs.Values.{RelocGroup, ExtEntry, BlockBody, Reloc, Ext, content_bytes, ext_type}
use Rattle.hunk_files.specs.declared.object.check.Finding.{Finding}
use Rattle.hunk_files.specs.declared.object.check.FindingKind.{FindingKind}
use Rattle.hunk_files.specs.declared.object.check.FindingKind.TheVariants.{BadTarget, OutsideHunk}
pub use Rattle.hunk_files.specs.declared.object.check.HunkContext.{HunkContext}
use Rattle.hunk_files.specs.ObjectFile.{ObjectHunk, UnitValue, ObjectFileValue}

-- the number of bytes that an offset of this kind of relocation stands for
abbrev pub relocation_width : Kind → ℕ
relocation_width kinds.Reloc16 = 2
relocation_width kinds.Drel16 = 2
relocation_width kinds.AbsReloc16 = 2
relocation_width kinds.Reloc8 = 1
relocation_width kinds.Drel8 = 1
relocation_width _ = 4

-- the same of an EXT entry; 0 where it has no offsets
abbrev pub width_of : Option ExtKind → ℕ
width_of None = 0
width_of (Some kind) = unwrap_or (ext_width kind) 0

abbrev pub reference_width : ExtEntry → ℕ
reference_width e = width_of (ext_kind (ext_type e))

-- the bytes of content, 0 where a block is no content
abbrev pub content_size : BlockBody → ℕ
content_size body = unwrap_or (content_bytes body) 0

abbrev pub hunk_bytes : ObjectHunk → ℕ
hunk_bytes h = sum_by (λ b. content_size b.body) h

abbrev pub FindingValue : Type 0
FindingValue = Finding

abbrev pub finding : HunkContext → FindingKind → ℕ → FindingValue
finding s fault offset = record { unit = s.unit; hunk = s.hunk; fault = fault; offset = offset }

abbrev pub outside : HunkContext → ℕ → ℕ → List FindingValue
outside s width offset = if nat_lt s.bytes (offset + width) then finding s OutsideHunk offset ∷ [] else []

abbrev pub relocation_findings : HunkContext → ℕ → ℕ → ℕ → List FindingValue
relocation_findings s width target offset =
    (if nat_lt target s.hunks then [] else finding s BadTarget offset ∷ []) ++ outside s width offset

abbrev pub group_findings : HunkContext → ℕ → RelocGroup → List FindingValue
group_findings s width g = flat_map (relocation_findings s width g.target) g.offsets

abbrev pub entry_findings : HunkContext → ExtEntry → List FindingValue
entry_findings s e = flat_map (outside s (reference_width e)) e.offsets

abbrev pub body_findings : HunkContext → ℕ → BlockBody → List FindingValue
body_findings s word (Reloc groups) = flat_map (group_findings s (relocation_width (kind word))) groups
body_findings s word (Ext entries) = flat_map (entry_findings s) entries
body_findings s word _ = []

abbrev pub hunk_findings : HunkContext → ObjectHunk → List FindingValue
hunk_findings s h = flat_map (λ b. body_findings s b.word b.body) h

-- the hunks from this number on, of a unit with that number of hunks
abbrev pub hunks_findings : ℕ → ℕ → ℕ → List ObjectHunk → List FindingValue
hunks_findings unit hunks number [] = []
hunks_findings unit hunks number (h ∷ rest) =
    hunk_findings (record { unit = unit; hunk = number; hunks = hunks; bytes = hunk_bytes h }) h
    ++ hunks_findings unit hunks (number + 1) rest

abbrev pub unit_findings : ℕ → UnitValue → List FindingValue
unit_findings number u = hunks_findings number (length u.hunks) 0 u.hunks

abbrev pub units_findings : ℕ → List UnitValue → List FindingValue
units_findings number [] = []
units_findings number (u ∷ rest) = unit_findings number u ++ units_findings (number + 1) rest

-- What is wrong with an object file, in file order.
abbrev pub findings : ObjectFileValue → List FindingValue
findings o = units_findings 0 o
