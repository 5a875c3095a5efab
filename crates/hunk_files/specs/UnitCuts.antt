-- What the longwords of an object file spell: the way back from the texts of ObjectFile.
use Rattle.std.specs.Prelude.{ℕ, zero, suc, Bool, true, false, ◌==◌, List, [], ◌∷◌, length, if◌then◌else◌}
use Rattle.hunk_blocks.specs.Cuts.{Cut, cut_map, long_cut, longs_cut}
use Rattle.hunk_files.specs.Cuts.{hunk_cut}
use Rattle.hunk_files.specs.ObjectFile.{ObjectHunk, UnitValue, ObjectFileValue, unit_word}

-- Items, this many at most, up to longwords that end them.
unfoldable pub items_until : {A : Type 0} → (List ℕ → Bool) → (List ℕ → Cut A) → ℕ → List ℕ → Cut (List A)
items_until ends one zero words = record { value = []; rest = words }
items_until ends one (suc most) words =
    if ends words then record { value = []; rest = words } else (
    let item = one words in
    cut_map (λ items. item.value ∷ items) (items_until ends one most item.rest)
    )

-- ---- the hunks of a unit

-- A unit ends before these longwords: nothing follows, or the next unit.
abbrev pub ends_unit : List ℕ → Bool
ends_unit [] = true
ends_unit (word ∷ words) = word == unit_word

abbrev pub hunks_cut : List ℕ → Cut (List ObjectHunk)
hunks_cut words = items_until ends_unit hunk_cut (length words) words

-- ---- a unit, and the units of a file

-- after the unit's word, the number of longwords of its name
abbrev pub unit_cut : List ℕ → Cut UnitValue
unit_cut words =
    let count = long_cut (long_cut words).rest in
    let name = longs_cut count.value count.rest in
    cut_map (λ hunks. record { name = name.value; hunks = hunks }) (hunks_cut name.rest)

-- No unit follows.
abbrev pub ends_file : List ℕ → Bool
ends_file [] = true
ends_file (word ∷ words) = false

abbrev pub units_cut : List ℕ → Cut ObjectFileValue
units_cut words = items_until ends_file unit_cut (length words) words
