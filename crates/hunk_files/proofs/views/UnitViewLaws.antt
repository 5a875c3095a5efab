-- The units that stand in bytes, and their hunks, are those that their longwords spell.
use Rattle.std.proofs.Common.{◌≡◌, ℕ, ◌+◌, ◌*◌, ◌<◌, ◌≤◌, List, [], ◌∷◌, ◌++◌, length, drop, refl, sym, ap, ap₂, subst, ◌∙◌, append-nil, length-append, arith, Some}
use Rattle.std.specs.List.{flat_map}
use Rattle.std.proofs.lemmas.List.{length-drop, drop-drop, drop_at}
use Rattle.hunk_words.specs.Longs.{bytes_of}
use Rattle.hunk_words.proofs.LongLaws.{bytes_of-nil, length-bytes_of}
use Rattle.hunk_blocks.specs.{Cuts.Cut, Placed.Placed}
use Rattle.hunk_files.specs.Hunks.{IsRead, block_texts}
use Rattle.hunk_files.specs.ObjectFile.{ObjectHunk, UnitValue, ObjectFileValue, AreObjectFile, IsObjectHunk, IsUnit, object_text, unit_header, unit_text}
use Rattle.hunk_files.specs.{ObjectViews.{HunksAt, UnitsAt, hunks_at, unit_at, units_at, units_of}, UnitCuts.units_cut}
use Rattle.hunk_files.specs.{InPlace.{GivesPart, StandAt}, Units.UnitAt}
use Rattle.hunk_files.proofs.views.ObjectViewLaws.{hunks_at_are, unit_at_is}
use Rattle.hunk_files.proofs.views.PlaceLaws.{stand_after, stand_first}
use Rattle.hunk_files.proofs.{cuts.UnitCutLaws.{units_are, units_end}, cuts.UnitReading.{header_inside, header_split, text_longs}}

-- ---- the hunks of a unit that stands here

module _ (bytes : List ℕ) (start : ℕ) (here : UnitAt bytes start) where
  abbrev header_end : ℕ
  header_end = start + 4 * length (unit_header here.unit.name)

  hunks_stand : StandAt IsObjectHunk block_texts bytes header_end here.unit.hunks here.rest
  hunks_stand =
      let size : ℕ = 4 * length (unit_header here.unit.name) in
      record {
        each = here.is.hunks;
        inside = omega (arith, header_inside bytes start here);
        text_is =
            sym (drop-drop size start bytes) ∙ ap (drop size) (header_split bytes start here)
            ∙ drop_at (bytes_of (unit_header here.unit.name)) (bytes_of (flat_map block_texts here.unit.hunks) ++ here.rest) size (length-bytes_of (unit_header here.unit.name));
      }

  module _ (name : List ℕ) (at : ℕ) (r : IsRead unit_header here.unit.name start name at) where
    end_of_header : header_end ≡ at
    end_of_header = sym r.1

    pub unit_hunks : HunksAt bytes at
    unit_hunks = record { hunks = here.unit.hunks; rest = here.rest; stand = subst (λ (n : ℕ). StandAt IsObjectHunk block_texts bytes n here.unit.hunks here.rest) end_of_header hunks_stand; next = here.next }

    pub hunks_are_here : (hunks_at bytes at).value ≡ here.unit.hunks
    hunks_are_here = ap (λ (n : ℕ). (hunks_at bytes n).value) (sym end_of_header) ∙ hunks_at_are bytes here.rest here.next header_end here.unit.hunks hunks_stand

    pub unit_hunks_are : (p : Placed UnitValue) → unit_at bytes start ≡ p → (hunks_at bytes at).value ≡ p.value.hunks
    unit_hunks_are p e =
        hunks_are_here
        ∙ ap (λ (u : UnitValue). u.hunks) (sym (unit_at_is bytes start here) ∙ ap (λ (q : Placed UnitValue). q.value) e)

-- ---- the units of a file

pub units_at_are : (bytes : List ℕ) (start : ℕ) (us : ObjectFileValue) → StandAt IsUnit unit_text bytes start us [] → (units_at bytes start).value ≡ us
units_at_are bytes start us stand =
    ap (λ (c : Cut ObjectFileValue). c.value)
    (ap units_cut (text_longs (drop start bytes) us stand.each (stand.text_is ∙ append-nil (bytes_of (object_text us)))) ∙ units_are us stand.each)

-- A unit is given that stands here, and units stand after it.
pub record UnitPassed (bytes : List ℕ) (start end : ℕ) : Type 0 where
  pub after : UnitsAt bytes end
  pub gives : GivesPart unit_text (units_at bytes start) (Some (unit_at bytes start)) (units_at bytes end)

module _ (bytes : List ℕ) (start : ℕ) where
  no_room : (us : ObjectFileValue) → StandAt IsUnit unit_text bytes start us [] → length bytes ≤ start → us ≡ []
  no_room [] s end = refl
  no_room (u ∷ us) s end = absurd (omega (arith, end, ap length s.text_is, length-drop start bytes, length-append (bytes_of (object_text (u ∷ us))) [], length-bytes_of (object_text (u ∷ us))))

  some_unit : {u : UnitValue} {us : ObjectFileValue} → StandAt IsUnit unit_text bytes start (u ∷ us) [] → UnitAt bytes start
  some_unit {u} {us} s = record { unit = u; is = s.each.0; rest = bytes_of (object_text us) ++ []; text = stand_first s; next = units_end us s.each.1 }

  next_unit_in : (us : ObjectFileValue) → StandAt IsUnit unit_text bytes start us [] → start < length bytes → UnitAt bytes start
  next_unit_in [] s more = absurd (omega (arith, more, ap length (s.text_is ∙ ap (λ (l : List ℕ). l ++ []) bytes_of-nil), length-drop start bytes))
  next_unit_in (u ∷ us) s more = some_unit s

  unit_passed_in : (us : ObjectFileValue) → StandAt IsUnit unit_text bytes start us [] → start < length bytes → (end : ℕ) → ((unit : UnitAt bytes start) → end ≡ start + 4 * length (unit_text unit.unit)) → UnitPassed bytes start end
  unfolding some_unit
  unit_passed_in [] s more end e = absurd (omega (arith, more, ap length (s.text_is ∙ ap (λ (l : List ℕ). l ++ []) bytes_of-nil), length-drop start bytes))
  unit_passed_in (u ∷ us) s more end e =
      let one : UnitAt bytes start = some_unit s in
      let is : u ≡ (unit_at bytes start).value = sym (unit_at_is bytes start one) in
      let left = stand_after s end (e one) in
      let size : end ≡ start + 4 * length (unit_text (unit_at bytes start).value) = e one ∙ ap (λ (x : UnitValue). start + 4 * length (unit_text x)) is in
      record {
        after = record { units = us; stand = left };
        gives = (
          ap (λ (xs : ObjectFileValue). record { place = start; value = xs })
              (units_at_are bytes start (u ∷ us) s ∙ ap₂ (λ (x : UnitValue) (xs : ObjectFileValue). x ∷ xs) is (sym (units_at_are bytes end us left))),
          size,
        );
      }

  module _ (here : UnitsAt bytes start) where
    pub no_unit : length bytes ≤ start → (units_at bytes start).value ≡ []
    no_unit end = units_at_are bytes start here.units here.stand ∙ no_room here.units here.stand end

    pub next_unit : start < length bytes → UnitAt bytes start
    next_unit = next_unit_in here.units here.stand

    pub unit_passed : start < length bytes → (end : ℕ) → ((unit : UnitAt bytes start) → end ≡ start + 4 * length (unit_text unit.unit)) → UnitPassed bytes start end
    unit_passed = unit_passed_in here.units here.stand

-- After the header and the hunks a unit ends.
pub unit_ends : (bytes : List ℕ) (start : ℕ) (here : UnitAt bytes start) (name : List ℕ) (at end : ℕ) (r : IsRead unit_header here.unit.name start name at) →
    end ≡ at + 4 * length (flat_map block_texts (hunks_at bytes at).value) → end ≡ start + 4 * length (unit_text here.unit)
unit_ends bytes start here name at end r e =
    omega (
      arith,
      e,
      r.1,
      ap (λ (hs : List ObjectHunk). length (flat_map block_texts hs)) (hunks_are_here bytes start here name at r),
      length-append (unit_header here.unit.name) (flat_map block_texts here.unit.hunks),
    )

-- ---- a whole file

module _ (bytes : List ℕ) (file : AreObjectFile bytes) where
  pub units_of_is : units_of bytes ≡ file.value
  units_of_is = ap (λ (c : Cut ObjectFileValue). c.value) (ap units_cut (text_longs bytes file.value file.is_object_file.units file.text_is) ∙ units_are file.value file.is_object_file.units)

  unfoldable pub units_at_start : UnitsAt bytes 0
  units_at_start = record { units = file.value; stand = record { each = file.is_object_file.units; inside = omega arith; text_is = file.text_is ∙ sym (append-nil (bytes_of (object_text file.value))) } }
