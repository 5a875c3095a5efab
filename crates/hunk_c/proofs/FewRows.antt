-- A longword of a file stands for one row of a table at most.
use Rattle.std.proofs.Common.{◌≡◌, ℕ, ◌+◌, ◌-◌, ◌*◌, ◌/◌, ◌≤◌, List, [], ◌∷◌, ◌++◌, length, map, sym, ap, subst, arith, append_assoc, length-append}
use Rattle.std.specs.List.{AllByRecursion, flat_map}
use Rattle.std.proofs.lemmas.{List.length-map}
use Rattle.hunk_words.specs.Carriers.{saturated}
use Rattle.hunk_words.proofs.LongLaws.{length-bytes_of}
use Rattle.hunk_grammar.specs.BlockParts.{EntryWord, ExtWord, GroupCount, Part}
use Rattle.hunk_blocks.specs.Parts.{block_parts, block_text, body_parts, ext_parts, ext_text, group_parts, symbol_parts, symbol_text}
use Rattle.hunk_blocks.specs.Values.{BlockBody, BlockValue, ExtEntry, FitsWord, IsBlock, IsExtEntry, Reloc, Ext, Symbol}
use Rattle.hunk_blocks.proofs.PartTexts.{offsets_few}
use Rattle.hunk_files.specs.{Findings.{FindingValue, reference_width}, Hunks.block_texts, HunkFile.{IsFileOf, file_bytes}, LoadFile.{HunkValue, IsLoadFile, LoadFileValue}}
use Rattle.hunk_files.specs.{LoadText.text, PlacedFindings.placed_findings, Tables.{header_text, hunk_texts}}
use Rattle.hunk_files.specs.Items.{ItemValue, UnitItem, HunkItem, BlockItem, blocks_items, hunks_items, item_text, units_items}
use Rattle.hunk_files.specs.ObjectFile.{IsObjectFile, IsObjectHunk, IsUnit, ObjectFileValue, ObjectHunk, object_text, unit_header}
use Rattle.hunk_files.specs.StandingBlocks.{StandingBlock, file_items, items_blocks, standing_blocks}
use Rattle.hunk_files.specs.declared.hunk_file.HunkFile.{HunkFile}
use Rattle.hunk_files.specs.declared.hunk_file.HunkFile.TheVariants as files
use Rattle.hunk_files.proofs.{cuts.TableReading.text_is, findings.FindingCounts.findings_few, findings.OffsetsWithin.offsets_within, findings.PlacedFindingLaws.findings_placed, views.FileItems.{hunks_own, units_own}}
use Rattle.hunk_parts.specs.PartRows.{part_rows}
use Rattle.hunk_parts.proofs.FewParts.{few_parts as few_of_file}
use Rattle.hunk_c.specs.Blocks as blocks
use Rattle.hunk_c.specs.Entries as entries
use Rattle.hunk_c.specs.Relocations as relocations
use Rattle.hunk_c.specs.Symbols as symbols
use Rattle.hunk_c.specs.{Blocks.blocks_in, Checks.{finding_row, finding_rows}, Entries.{entries_in, entry_row}, Relocations.{relocated, relocations_in}, Rows.rows_in}
use Rattle.hunk_c.specs.{Symbols.{symbol_row, symbols_in}, Units.{items_units, units_in}}
use Rattle.hunk_c.specs.References.{body_entries, body_references, blocks_references, entries_references, entry_references, long_text, reference_row, references_in}
use Rattle.hunk_c.specs.declared.check.FindingRow.{FindingRow}
use Rattle.hunk_c.proofs.{BlockRows.{length-group_rows, length-item_rows}, LoadRows.references_none}

-- ---- the longwords of all that stands in a file

abbrev own_text : StandingBlock → List ℕ
own_text s = block_text s.block.value

-- those of its blocks are among them
blocks_within : (place : ℕ) (items : List ItemValue) → length (flat_map own_text (items_blocks place items)) ≤ length (flat_map item_text items)
blocks_within place [] = omega arith
blocks_within place (UnitItem number u ∷ rest) =
    omega (arith, blocks_within (place + 4 * length (unit_header u.name)) rest, length-append (unit_header u.name) (flat_map item_text rest))
blocks_within place (HunkItem unit number h ∷ rest) = omega (arith, blocks_within place rest)
blocks_within place (BlockItem unit hunk b ∷ rest) =
    let next = place + 4 * length (block_text b) in
    omega (arith, blocks_within next rest, length-append (block_text b) (flat_map own_text (items_blocks next rest)), length-append (block_text b) (flat_map item_text rest))

hunks_length : (v : LoadFileValue) → length (flat_map block_texts (map (λ (h : HunkValue). h.blocks) v)) ≡ length (hunk_texts v)
hunks_length [] = omega arith
hunks_length (h ∷ v) =
    omega (arith, hunks_length v, length-append (block_texts h.blocks) (flat_map block_texts (map (λ (x : HunkValue). x.blocks) v)), length-append (block_texts h.blocks) (hunk_texts v))

pub items_within : (file : HunkFile) → 4 * length (flat_map item_text (file_items file).value) ≤ length (file_bytes file)
items_within (files.Load v rest) =
    let blocks = map (λ (h : HunkValue). h.blocks) v in
    omega (
      arith,
      ap (λ (xs : List ℕ). length xs) (hunks_own 0 0 blocks),
      hunks_length v,
      ap (λ (xs : List ℕ). length xs) (text_is v),
      length-append (header_text v) (hunk_texts v),
      length-bytes_of (text v),
    )
items_within (files.Object units) = omega (arith, ap (λ (xs : List ℕ). length xs) (units_own units), length-bytes_of (object_text units))

standing_within : (file : HunkFile) → 4 * length (flat_map own_text (standing_blocks file)) ≤ length (file_bytes file)
standing_within file = omega (arith, blocks_within (file_items file).place (file_items file).value, items_within file)

-- ---- rows of blocks

module _ {A B C : Type 0} (rows : A → List B) (own : A → List C) (few : (x : A) → length (rows x) ≤ length (own x)) where
  few_of_all : (xs : List A) → length (flat_map rows xs) ≤ length (flat_map own xs)
  few_of_all [] = omega arith
  few_of_all (x ∷ xs) = omega (arith, few x, few_of_all xs, length-append (rows x) (flat_map rows xs), length-append (own x) (flat_map own xs))

-- Where it is so of each block, it is so of a file.
few_in_file : {Row : Type 0} (rows : StandingBlock → List Row) → ((s : StandingBlock) → length (rows s) ≤ 1 + length (body_parts s.block.value.body)) →
    (file : HunkFile) (size : ℕ) → length (file_bytes file) ≤ size → length (rows_in rows file) ≤ size / 4
few_in_file {Row} rows few file size fits = omega (arith, fits, few_of_all rows own_text each (standing_blocks file), standing_within file)
  where
    each : (s : StandingBlock) → length (rows s) ≤ length (own_text s)
    each s = omega (arith, few s, length-map {B = ℕ} (block_parts s.block.value) (λ (p : Part × ℕ). p.1))

-- an entry has a longword at least
module _ {A P : Type 0} (parts : A → List P) (some : (x : A) → 1 ≤ length (parts x)) where
  least : (xs : List A) → length xs ≤ length (flat_map parts xs)
  least [] = omega arith
  least (x ∷ xs) = omega (arith, some x, least xs, length-append (parts x) (flat_map parts xs))

pub few_blocks : (bytes : List ℕ) (file : HunkFile) (size : ℕ) → IsFileOf bytes file → length (file_bytes file) ≤ size → length (blocks_in file) ≤ size / 4
few_blocks bytes file size is = few_in_file blocks.block_rows (λ s. omega arith) file size

pub few_symbols : (bytes : List ℕ) (file : HunkFile) (size : ℕ) → IsFileOf bytes file → length (file_bytes file) ≤ size → length (symbols_in file) ≤ size / 4
few_symbols bytes file size is = few_in_file symbols.block_rows (λ s. of s s.block.value.body) file size
  where
    of : (s : StandingBlock) (body : BlockBody) → length (symbols.body_rows s.unit s.hunk s.block.place body) ≤ 1 + length (body_parts body)
    of s (Symbol es) = omega (
      arith,
      length-item_rows (symbol_row s.unit s.hunk) symbol_text (s.block.place + 4) es,
      least symbol_parts (λ e. omega arith) es,
      length-append (flat_map symbol_parts es) ((EntryWord, 0) ∷ []),
    )
    of s _ = omega arith

pub few_entries : (bytes : List ℕ) (file : HunkFile) (size : ℕ) → IsFileOf bytes file → length (file_bytes file) ≤ size → length (entries_in file) ≤ size / 4
few_entries bytes file size is = few_in_file entries.block_rows (λ s. of s s.block.value.body) file size
  where
    of : (s : StandingBlock) (body : BlockBody) → length (entries.body_rows s.unit s.hunk s.block.place body) ≤ 1 + length (body_parts body)
    of s (Ext es) = omega (
      arith,
      length-item_rows (entry_row s.unit s.hunk) ext_text (s.block.place + 4) es,
      least ext_parts (λ e. omega arith) es,
      length-append (flat_map ext_parts es) ((ExtWord, 0) ∷ []),
    )
    of s _ = omega arith

pub few_relocations : (bytes : List ℕ) (file : HunkFile) (size : ℕ) → IsFileOf bytes file → length (file_bytes file) ≤ size → length (relocations_in file) ≤ size / 4
few_relocations bytes file size is = few_in_file relocations.block_rows (λ s. of s s.block.value.body) file size
  where
    of : (s : StandingBlock) (body : BlockBody) → length (relocations.body_rows s.unit s.hunk s.block.place s.block.value.word body) ≤ 1 + length (body_parts body)
    of s (Reloc groups) = omega (
      arith,
      length-group_rows (relocated s.unit s.hunk s.block.value.word) (s.block.place + 4) groups,
      offsets_few groups,
      length-append (flat_map group_parts groups) ((GroupCount, 0) ∷ []),
    )
    of s _ = omega arith

-- ---- rows of units

units_within : (place : ℕ) (items : List ItemValue) → length (items_units place items) ≤ length (flat_map item_text items)
units_within place [] = omega arith
units_within place (UnitItem number u ∷ rest) =
    omega (arith, units_within (place + 4 * length (unit_header u.name)) rest, length-append (unit_header u.name) (flat_map item_text rest))
units_within place (HunkItem unit number h ∷ rest) = omega (arith, units_within (place + 4 * length (item_text (HunkItem unit number h))) rest)
units_within place (BlockItem unit hunk b ∷ rest) =
    omega (arith, units_within (place + 4 * length (block_text b)) rest, length-append (block_text b) (flat_map item_text rest))

pub few_units : (bytes : List ℕ) (file : HunkFile) (size : ℕ) → IsFileOf bytes file → length (file_bytes file) ≤ size → length (units_in file) ≤ size / 4
few_units bytes file size is fits = omega (arith, fits, units_within (file_items file).place (file_items file).value, items_within file)

-- ---- rows of references, which only blocks of an object file have

abbrev IsStanding : StandingBlock → Type 0
IsStanding s = IsBlock s.block.value

module _ (unit : ℕ) where
  blocks_stand : (place hunk : ℕ) (bs : List BlockValue) (rest : List ItemValue) → AllByRecursion IsBlock bs → ((at : ℕ) → AllByRecursion IsStanding (items_blocks at rest)) →
      AllByRecursion IsStanding (items_blocks place (blocks_items unit hunk bs ++ rest))
  blocks_stand place hunk [] rest each after = after place
  blocks_stand place hunk (b ∷ bs) rest each after = (each.0, blocks_stand (place + 4 * length (block_text b)) hunk bs rest each.1 after)

  hunks_stand : (place number : ℕ) (hs : List ObjectHunk) (rest : List ItemValue) → AllByRecursion IsObjectHunk hs → ((at : ℕ) → AllByRecursion IsStanding (items_blocks at rest)) →
      AllByRecursion IsStanding (items_blocks place (hunks_items unit number hs ++ rest))
  hunks_stand place number [] rest each after = after place
  hunks_stand place number (h ∷ hs) rest each after =
      let left = hunks_items unit (number + 1) hs in
      subst (λ (items : List ItemValue). AllByRecursion IsStanding (items_blocks place items)) (sym (append_assoc (blocks_items unit number h) left rest))
      (blocks_stand place number h (left ++ rest) each.0.blocks (λ at. hunks_stand at (number + 1) hs rest each.1 after))

units_stand : (place number : ℕ) (us : ObjectFileValue) → AllByRecursion IsUnit us → AllByRecursion IsStanding (items_blocks place (units_items number us))
units_stand place number [] each = tt
units_stand place number (u ∷ us) each =
    hunks_stand number (place + 4 * length (unit_header u.name)) 0 u.hunks (units_items (number + 1) us) each.0.hunks (λ at. units_stand at (number + 1) us each.1)

entries_few : (number place : ℕ) (es : List ExtEntry) → AllByRecursion IsExtEntry es → length (entries_references number place es) ≤ length (flat_map ext_parts es)
entries_few number place [] each = omega arith
entries_few number place (e ∷ es) each =
    let end = place + 4 * length (ext_text e) in
    omega (
      arith,
      entries_few (number + 1) end es each.1,
      length-append (entry_references number end e) (entries_references (number + 1) end es),
      length-append (ext_parts e) (flat_map ext_parts es),
      length-item_rows (reference_row (saturated number) (reference_width e)) long_text (end - 4 * length e.offsets) e.offsets,
      offsets_within e each.0,
      length-map {B = ℕ} (ext_parts e) (λ (p : Part × ℕ). p.1),
    )

references_few : (number : ℕ) (ss : List StandingBlock) → AllByRecursion IsStanding ss → length (blocks_references number ss) ≤ length (flat_map own_text ss)
references_few number [] each = omega arith
references_few number (s ∷ ss) each =
    let body = s.block.value.body in
    omega (
      arith,
      of s.block.value.word body each.0.body,
      references_few (number + body_entries body) ss each.1,
      length-append (body_references number s.block.place body) (blocks_references (number + body_entries body) ss),
      length-append (own_text s) (flat_map own_text ss),
      length-map {B = ℕ} (block_parts s.block.value) (λ (p : Part × ℕ). p.1),
    )
  where
    of : (word : ℕ) (body : BlockBody) → FitsWord word body → length (body_references number s.block.place body) ≤ length (body_parts body)
    of word (Ext es) is = omega (arith, entries_few number (s.block.place + 4) es is.1, length-append (flat_map ext_parts es) ((ExtWord, 0) ∷ []))
    of word _ is = omega arith

pub few_references : (bytes : List ℕ) (file : HunkFile) (size : ℕ) → IsFileOf bytes file → length (file_bytes file) ≤ size → length (references_in file) ≤ size / 4
few_references bytes (files.Load v rest) size is fits =
    omega (arith, ap (λ (rows : List _). length rows) (references_none v rest (subst IsLoadFile (sym is.1) is.0.is_load_file)))
few_references bytes (files.Object v) size is fits =
    omega (arith, fits, references_few 0 (standing_blocks (files.Object v)) (units_stand 0 0 v (subst IsObjectFile (sym is.1) is.0.is_object_file).units), standing_within (files.Object v))

-- ---- rows of findings

pub few_findings : (bytes : List ℕ) (file : HunkFile) (size : ℕ) → IsFileOf bytes file → length (file_bytes file) ≤ size → length (finding_rows file) ≤ size / 2
few_findings bytes (files.Load value rest) size is fits = omega arith
few_findings bytes (files.Object value) size is fits = omega (
  arith,
  fits,
  length-map {B = FindingRow} (placed_findings value) finding_row,
  length-map {B = FindingValue} (placed_findings value) (λ f. f.value),
  ap (λ (found : List FindingValue). length found) (findings_placed value),
  findings_few value (subst IsObjectFile (sym is.1) is.0.is_object_file),
  length-bytes_of (object_text value),
)

-- ---- rows of parts

pub few_parts : (bytes : List ℕ) (file : HunkFile) (size : ℕ) → IsFileOf bytes file → length (file_bytes file) ≤ size → length (part_rows file) ≤ size / 4
few_parts bytes file size is fits = omega (arith, fits, few_of_file file)
