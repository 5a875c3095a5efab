-- The units of a file, kept in a list one by one.
use Rattle.std.proofs.Common.{◌≡◌, ℕ, ◌+◌, ◌-◌, ◌*◌, ◌<◌, ◌≤◌, List, [], ◌∷◌, ◌++◌, length, refl, sym, ap, subst, ◌∙◌, arith, inl, inr, Some, None}
use Rattle.std.specs.List.{flat_map}
use Rattle.hunk_blocks.specs.Placed.{Placed}
use Rattle.hunk_files.specs.Hunks.{IsRead, block_texts}
use Rattle.hunk_files.specs.Lacks.{EndsAt, EndsHunkPart, EndsObjectPart, EndsUnitPart, Within}
use Rattle.hunk_files.specs.ObjectFile.{ObjectHunk, UnitValue, ObjectFileValue, IsUnit, unit_header, unit_text}
use Rattle.hunk_files.specs.{ObjectViews.{UnitsAt, hunks_at, unit_at, units_at}, Units.UnitAt}
use Rattle.hunk_files.proofs.{views.PlaceLaws.{ends_after, ends_map, last_at}, views.ObjectViewLaws.unit_at_is}
use Rattle.hunk_files.proofs.{views.PartsInTurn.{Taken, all_taken, part_taken, part_within}, cuts.UnitReading.{unit, unit_inside}}
use Rattle.hunk_files.proofs.views.UnitViewLaws.{UnitPassed, hunks_are_here, next_unit, no_unit, unit_ends, unit_passed}

-- The name and the hunks of the unit that stands here.
module _ (bytes : List ℕ) (at : ℕ) (here : UnitsAt bytes at) (more : at < length bytes) (name : List ℕ) (start : ℕ) (header : (u : UnitAt bytes at) → IsRead unit_header u.unit.name at name start) where
  abbrev hunks : List ObjectHunk
  hunks = (hunks_at bytes start).value

  one : UnitAt bytes at
  one = next_unit bytes at here more

  unit_is : unit name hunks ≡ one.unit
  unit_is = λ i. unit ((header one).0 i) (hunks_are_here bytes at one name start (header one) i)

  pub are_unit : IsUnit (unit name hunks)
  are_unit = subst IsUnit (sym unit_is) one.is

  unit_here : unit name hunks ≡ (unit_at bytes at).value
  unit_here = unit_is ∙ sym (unit_at_is bytes at one)

  ends_of_unit : (place : ℕ) → EndsAt (EndsUnitPart (unit name hunks)) at place → EndsAt (EndsUnitPart (unit_at bytes at).value) at place
  ends_of_unit place e = subst (λ (u : UnitValue). EndsAt (EndsUnitPart u) at place) unit_here e

  hunks_place : start ≡ at + 4 * length (unit_header name)
  hunks_place = omega (arith, (header one).1, ap length (header one).0)

  module _ (end : ℕ) (e : end ≡ start + 4 * length (flat_map block_texts hunks)) where
    passed : UnitPassed bytes at end
    passed = unit_passed bytes at here more end (λ u. unit_ends bytes at u name start end (header u) e)

    ends_here : end ≡ at + 4 * length (unit_text (unit name hunks))
    ends_here = unit_ends bytes at one name start end (header one) e ∙ ap (λ (u : UnitValue). at + 4 * length (unit_text u)) (sym unit_is)

  module _ (all : Placed ObjectFileValue) (done : ObjectFileValue) (t : Taken unit_text all (units_at bytes at) done) where
    part_of_units : (place : ℕ) → EndsAt (EndsUnitPart (unit name hunks)) at place → EndsAt (EndsObjectPart all.value) all.place place
    part_of_units place e =
        let end : ℕ = start + 4 * length (flat_map block_texts hunks) in
        part_within unit_text all (units_at bytes at) (units_at bytes end) done (Some (unit_at bytes at)) (unit_at bytes at) t refl (passed end refl).gives EndsUnitPart place (ends_of_unit place e)

    -- A part of its hunks is one of the file.
    pub part_of_unit : (place : ℕ) → EndsAt (Within block_texts EndsHunkPart hunks) start place → EndsAt (EndsObjectPart all.value) all.place place
    part_of_unit place e = part_of_units place (ends_map (λ n part. inr part) (ends_after (length (unit_header name)) hunks_place e))

    module _ (end : ℕ) (e : end ≡ start + 4 * length (flat_map block_texts hunks)) where
      pub units_after : UnitsAt bytes end
      units_after = (passed end e).after

      pub nearer : length bytes - end < length bytes - at
      nearer = omega (arith, unit_ends bytes at one name start end (header one) e, unit_inside bytes at one)

      pub some_after : 4 ≤ end
      some_after = omega (arith, ends_here end e)

      -- It is kept.
      pub unit_kept : Taken unit_text all (units_at bytes end) (done ++ unit name hunks ∷ [])
      unit_kept =
          subst (λ (u : UnitValue). Taken unit_text all (units_at bytes end) (done ++ u ∷ [])) (sym unit_here)
          (part_taken unit_text all (units_at bytes at) (units_at bytes end) done (Some (unit_at bytes at)) (unit_at bytes at) t refl (passed end e).gives)

      -- It ends here.
      pub unit_lacks : (place : ℕ) → place + 4 ≡ end → EndsAt (EndsObjectPart all.value) all.place place
      unit_lacks place p = part_of_units place (ends_map (λ n last. inl last) (last_at (unit_text (unit name hunks)) at end place (omega arith) (ends_here end e) p))

-- At the end of the bytes, all are kept.
pub units_kept : (bytes : List ℕ) (at : ℕ) → UnitsAt bytes at → length bytes ≤ at → (all : Placed ObjectFileValue) (done : ObjectFileValue) → Taken unit_text all (units_at bytes at) done → done ≡ all.value
units_kept bytes at here ends all done t = (all_taken unit_text all (units_at bytes at) (units_at bytes at) done None t refl (no_unit bytes at here ends, refl)).0
