-- A longword of a file stands for one part at most.
use Rattle.std.proofs.Common.{ℕ, ◌+◌, ◌*◌, ◌≤◌, List, [], ◌∷◌, length, ap, arith}
use Rattle.std.specs.List.{flat_map}
use Rattle.std.proofs.lemmas.List.{length-append}
use Rattle.hunk_words.proofs.LongLaws.{length-bytes_of}
use Rattle.hunk_blocks.specs.Parts.{block_text, ext_text, group_text, symbol_text, text_of}
use Rattle.hunk_blocks.specs.Values.{BlockBody, BlockValue, Reloc, Symbol, Ext}
use Rattle.hunk_blocks.proofs.PartTexts.{body_text_is}
use Rattle.hunk_files.specs.Hunks.{block_texts}
use Rattle.hunk_files.specs.HunkFile.{file_bytes}
use Rattle.hunk_files.specs.LoadFile.{LoadFileValue}
use Rattle.hunk_files.specs.LoadText.{table, text}
use Rattle.hunk_files.specs.ObjectFile.{UnitValue, object_text, unit_header, unit_text}
use Rattle.hunk_files.specs.Tables.{entry_text, header_text, hunk_texts}
use Rattle.hunk_files.specs.declared.hunk_file.HunkFile.{HunkFile}
use Rattle.hunk_files.specs.declared.hunk_file.HunkFile.TheVariants as files
use Rattle.hunk_files.proofs.cuts.TableReading.{header_size, text_is}
use Rattle.hunk_parts.specs.Listing.{in_turn}
use Rattle.hunk_parts.specs.PartRows.{block_rows, blocks_rows, entry_row, group_row, hunk_rows, items_rows, part_rows, symbol_row, unit_rows}
use Rattle.hunk_parts.specs.declared.part_row.PartRow.{PartRow}

-- Where an item has as many rows as longwords at most, so have all.
few_in_turn : {A : Type 0} (rows : ℕ → A → List PartRow) (text : A → List ℕ) → ((place : ℕ) (x : A) → length (rows place x) ≤ length (text x)) → (place : ℕ) (xs : List A) →
    length (in_turn rows text place xs) ≤ length (flat_map text xs)
few_in_turn rows text few place [] = omega arith
few_in_turn rows text few place (x ∷ xs) =
    let next = place + 4 * length (text x) in
    omega (arith, few place x, few_in_turn rows text few next xs, length-append (rows place x) (in_turn rows text next xs), length-append (text x) (flat_map text xs))

few_items : (place : ℕ) (body : BlockBody) → length (items_rows place body) ≤ length (text_of body)
few_items place (Reloc groups) =
    omega (arith, few_in_turn (λ n g. group_row n g ∷ []) group_text (λ n g. omega arith) place groups, length-append (flat_map group_text groups) (0 ∷ []))
few_items place (Symbol entries) =
    omega (arith, few_in_turn (λ n e. symbol_row n e ∷ []) symbol_text (λ n e. omega arith) place entries, length-append (flat_map symbol_text entries) (0 ∷ []))
few_items place (Ext entries) =
    omega (arith, few_in_turn (λ n e. entry_row n e ∷ []) ext_text (λ n e. omega arith) place entries, length-append (flat_map ext_text entries) (0 ∷ []))
few_items place _ = omega arith

few_of_block : (place : ℕ) (b : BlockValue) → length (block_rows place b) ≤ length (block_text b)
few_of_block place b = omega (arith, few_items (place + 4) b.body, ap (λ (ws : List ℕ). length ws) (body_text_is b.body))

few_blocks : (place : ℕ) (bs : List BlockValue) → length (blocks_rows place bs) ≤ length (block_texts bs)
few_blocks = few_in_turn block_rows block_text few_of_block

few_hunks : (place : ℕ) (hs : LoadFileValue) → length (in_turn hunk_rows (λ h. block_texts h.blocks) place hs) ≤ length (flat_map entry_text (table hs)) + length (hunk_texts hs)
few_hunks place [] = omega arith
few_hunks place (h ∷ hs) =
    let next = place + 4 * length (block_texts h.blocks) in
    omega (
      arith,
      few_blocks place h.blocks,
      few_hunks next hs,
      length-append (blocks_rows place h.blocks) (in_turn hunk_rows (λ x. block_texts x.blocks) next hs),
      length-append (block_texts h.blocks) (hunk_texts hs),
      length-append (entry_text h.entry) (flat_map entry_text (table hs)),
    )

few_of_unit : (place : ℕ) (u : UnitValue) → length (unit_rows place u) ≤ length (unit_text u)
few_of_unit place u =
    omega (
      arith,
      few_in_turn blocks_rows block_texts few_blocks (place + 4 * length (unit_header u.name)) u.hunks,
      length-append (unit_header u.name) (flat_map block_texts u.hunks),
    )

pub few_parts : (file : HunkFile) → 4 * length (part_rows file) ≤ length (file_bytes file)
few_parts (files.Load v rest) =
    omega (
      arith,
      few_hunks (4 * length (header_text v)) v,
      header_size v,
      ap (λ (ws : List ℕ). length ws) (text_is v),
      length-append (header_text v) (hunk_texts v),
      length-bytes_of (text v),
    )
few_parts (files.Object v) = omega (arith, few_in_turn unit_rows unit_text few_of_unit 0 v, length-bytes_of (object_text v))
