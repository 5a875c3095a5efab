-- The room that a file takes, hunk by hunk and block by block.
use Rattle.std.proofs.Common.{◌≡◌, ℕ, ◌+◌, ◌*◌, ◌≤◌, ◌<◌, ◌-◌, ◌^◌, List, [], ◌∷◌, length, map, min, refl, sym, ap, ◌∙◌, arith, length-append}
use Rattle.std.specs.List.{AllByRecursion}
use Rattle.std.proofs.lemmas.List.Sums.{sum_by-cons}
use Rattle.hunk_words.specs.{Bits.size_longs, Carriers.saturated}
use Rattle.hunk_blocks.specs.Values.{BlockBody, BlockValue, RelocGroup, Reloc, offset_count}
use Rattle.hunk_files.specs.Image.{block_relocations, group_relocations, offsets, relocations}
use Rattle.hunk_files.specs.LoadFile.{HunkValue, LoadFileValue, TableEntry}
use Rattle.hunk_files.specs.LoadText.{table}
use Rattle.hunk_files.proofs.image.OffsetLists.{group_offsets, offsets_first}
use Rattle.hunk_lint.specs.{Collecting.{blocks_offsets, groups_offsets}, Room.greatest, Warnings.sizes_of}
use Rattle.hunk_lint.proofs.Collected.{first_offsets}

-- ---- the offsets of a hunk

pub groups_count : (groups : List RelocGroup) → length (groups_offsets groups) ≡ offset_count groups
groups_count [] = omega arith
groups_count (g ∷ groups) =
    omega (
      arith,
      groups_count groups,
      sum_by-cons (λ (x : RelocGroup). length x.offsets) g groups,
      ap (λ (os : List ℕ). length os) (offsets_first group_relocations (g ∷ groups) groups g [] g.offsets refl (sym (group_offsets g))),
      length-append g.offsets (groups_offsets groups),
    )

-- One block less is left, a block of relocations.
pub groups_counted : (count n sum all : ℕ) (old left : List BlockValue) (b : BlockValue) (groups : List RelocGroup) → old ≡ b ∷ left → Reloc groups ≡ b.body → n ≡ saturated (offset_count groups) →
    sum ≡ min (count + n) (2 ^ 64 - 1) → saturated (count + length (blocks_offsets old)) ≡ saturated all → saturated (sum + length (blocks_offsets left)) ≡ saturated all
groups_counted count n sum all old left b groups first is counted added left_is =
    let own : length (offsets (block_relocations b.body)) ≡ offset_count groups = ap (λ (x : BlockBody). length (offsets (block_relocations x))) (sym is) ∙ groups_count groups in
    let here : length (blocks_offsets old) ≡ offset_count groups + length (blocks_offsets left) =
    omega (
      arith,
      own,
      ap (λ (bs : List BlockValue). length (blocks_offsets bs)) first,
      ap (λ (os : List ℕ). length os) (first_offsets b left),
      length-append (offsets (block_relocations b.body)) (blocks_offsets left),
    ) in
    saturate count n sum (offset_count groups) (length (blocks_offsets left)) counted added ∙ ap (λ (k : ℕ). saturated (count + k)) (sym here) ∙ left_is
  where
    saturate : (count n sum own rest : ℕ) → n ≡ saturated own → sum ≡ min (count + n) (2 ^ 64 - 1) → saturated (sum + rest) ≡ saturated (count + (own + rest))
    saturate count n sum own rest e f = omega arith

-- ---- the hunk with the most

abbrev count_of : HunkValue → ℕ
count_of h = length (relocations h)

abbrev pub most : LoadFileValue → ℕ
most v = greatest (map count_of v)

-- None of these has more relocations.
abbrev pub AreWithin : ℕ → LoadFileValue → Type 0
AreWithin room v = AllByRecursion (λ (h : HunkValue). length (relocations h) ≤ room) v

pub each_within : (room : ℕ) (v : LoadFileValue) → most v ≤ room → AreWithin room v
each_within room [] le = tt
each_within room (h ∷ v) le = (omega (arith, le), each_within room v (omega (arith, le)))

-- Of the hunks these are left, and those before them are within it.
pub record LookedAt (room : ℕ) (v left : LoadFileValue) : Type 0 where
  pub within : most left ≤ room → most v ≤ room
  pub over : room < most left → room < most v

pub one_looked_at : (room : ℕ) (v old left : LoadFileValue) (h : HunkValue) → old ≡ h ∷ left → length (relocations h) ≤ room → LookedAt room v old → LookedAt room v left
one_looked_at room v old left h first le before =
    let all : most old ≡ most (h ∷ left) = ap most first in
    record { within = λ rest. before.within (omega (arith, all, le, rest)); over = λ rest. before.over (omega (arith, all, rest)) }

-- ---- the sizes of all hunks

pub sizes_are : (v : LoadFileValue) → map (λ (e : TableEntry). 4 * size_longs e.word) (table v) ≡ sizes_of v
sizes_are [] = refl
sizes_are (h ∷ v) = ap (λ (ns : List ℕ). 4 * size_longs h.entry.word ∷ ns) (sizes_are v)
