-- As many elements of room as a file has longwords are enough for its warnings.
use Rattle.std.proofs.Common.{ℕ, ◌≤◌, List, [], ◌∷◌, length, ap, arith, length-append}
use Rattle.std.specs.List.{flat_map}
use Rattle.std.proofs.lemmas.{List.length-map, List.Sums.sum_by-cons}
use Rattle.hunk_grammar.specs.Roles.{Role}
use Rattle.hunk_blocks.proofs.PartTexts.{body_text_is, group_text_is}
use Rattle.hunk_blocks.specs.Parts.{block_text, body_text, group_text}
use Rattle.hunk_blocks.specs.Values.{BlockBody, BlockValue, RelocGroup, Reloc, offset_count}
use Rattle.hunk_files.specs.Hunks.{block_texts}
use Rattle.hunk_files.specs.Image.{block_relocations, offsets, relocations}
use Rattle.hunk_files.specs.LoadFile.{HunkValue, LoadFileValue}
use Rattle.hunk_files.specs.LoadText.{entry_labelled, header_labelled, table, text}
use Rattle.hunk_files.specs.Tables.{header_text, hunk_texts}
use Rattle.hunk_files.proofs.cuts.TableReading.{text_is}
use Rattle.hunk_lint.specs.{Collecting.blocks_offsets, Room.room_for}
use Rattle.hunk_lint.proofs.Collected.{first_offsets}
use Rattle.hunk_lint.proofs.RoomLaws.{groups_count, most}

-- a longword of the table at least for each hunk
entries_are_long : (v : LoadFileValue) → length v ≤ length (flat_map entry_labelled (table v))
entries_are_long [] = omega arith
entries_are_long (h ∷ v) = omega (arith, entries_are_long v, length-append (entry_labelled h.entry) (flat_map entry_labelled (table v)))

header_is_long : (v : LoadFileValue) → length v ≤ length (header_text v)
header_is_long v = omega (arith, entries_are_long v, length-map {B = ℕ} (header_labelled (table v)) (λ (x : Role × ℕ). x.1))

-- one for each offset
groups_are_long : (groups : List RelocGroup) → offset_count groups ≤ length (flat_map group_text groups)
groups_are_long [] = omega arith
groups_are_long (g ∷ groups) =
    omega (
      arith,
      groups_are_long groups,
      sum_by-cons (λ (x : RelocGroup). length x.offsets) g groups,
      ap (λ (ws : List ℕ). length ws) (group_text_is g),
      length-append (group_text g) (flat_map group_text groups),
    )

body_is_long : (body : BlockBody) → length (offsets (block_relocations body)) ≤ length (body_text body)
body_is_long (Reloc groups) =
    omega (
      arith,
      groups_count groups,
      groups_are_long groups,
      ap (λ (ws : List ℕ). length ws) (body_text_is (Reloc groups)),
      length-append (flat_map group_text groups) (0 ∷ []),
    )
body_is_long _ = omega arith

blocks_are_long : (bs : List BlockValue) → length (blocks_offsets bs) ≤ length (block_texts bs)
blocks_are_long [] = omega arith
blocks_are_long (b ∷ bs) =
    omega (
      arith,
      blocks_are_long bs,
      body_is_long b.body,
      ap (λ (os : List ℕ). length os) (first_offsets b bs),
      length-append (offsets (block_relocations b.body)) (blocks_offsets bs),
      length-append (block_text b) (block_texts bs),
    )

pub hunk_is_long : (h : HunkValue) → length (relocations h) ≤ length (block_texts h.blocks)
hunk_is_long h = omega (arith, blocks_are_long h.blocks, length-map {B = ℕ} (relocations h) (λ (p : ℕ × ℕ). p.0))

hunks_are_long : (v : LoadFileValue) → most v ≤ length (hunk_texts v)
hunks_are_long [] = omega arith
hunks_are_long (h ∷ v) = omega (arith, hunk_is_long h, hunks_are_long v, length-append (block_texts h.blocks) (hunk_texts v))

pub enough_room : (v : LoadFileValue) → room_for v ≤ length (text v)
enough_room v = omega (arith, header_is_long v, hunks_are_long v, ap (λ (ws : List ℕ). length ws) (text_is v), length-append (header_text v) (hunk_texts v))
