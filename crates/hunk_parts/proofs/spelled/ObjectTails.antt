-- Parts that pass, of an object file: the rest of the open hunk, more hunks of the open unit, and more units.
use Rattle.std.proofs.Common.{◌≡◌, ℕ, ◌<◌, true, false, not, List, [], ◌∷◌, ◌++◌, length, refl, sym, ap, ap₂, subst, ◌∙◌, append_assoc, arith, Option, Some, None}
use Rattle.std.specs.Prelude.{⊤}
use Rattle.std.specs.List.{AllByRecursion, flat_map}
use Rattle.hunk_words.specs.declared.block_word.Kind.{Kind}
use Rattle.hunk_grammar.specs.declared.object_position.WordPlace.{WordPlace}
use Rattle.hunk_grammar.specs.declared.object_position.WordPlace.TheVariants.{BeforeUnits, BetweenHunks, InHunk}
use Rattle.hunk_files.specs.ObjectFile.{IsObjectHunk, IsUnit, ObjectHunk, UnitValue}
use Rattle.hunk_parts.specs.PartFaults.{is_before_units, is_open, list_after, place_after, refuse_row, size_of_part}
use Rattle.hunk_parts.specs.Parts.{FilePart, block_file_parts, block_part, entry_part, group_part, hunk_part, of_unit, part, symbol_part, unit_file_parts, unit_part}
use Rattle.hunk_parts.proofs.spelled.BlocksInFront.{FromBlock, IsListAt, from_block}
use Rattle.hunk_parts.proofs.spelled.BlockTests.{block_passes}
use Rattle.hunk_parts.proofs.spelled.HunkTests.{hunk_passes, unit_passes}
use Rattle.hunk_parts.proofs.spelled.ItemsInFront.{entry_in_front, group_in_front, symbol_in_front}
use Rattle.hunk_parts.proofs.spelled.LoadTails.{block_in_hunk, blocks_first, no_tail}
use Rattle.hunk_parts.proofs.spelled.PartKinds.{by_what, list_stays, other_refused}
use Rattle.hunk_parts.proofs.spelled.Passing.{Pass, longs_after, spot}
use Rattle.hunk_parts.proofs.spelled.Tails.{HasLongs, Tail}

-- Before the first unit no hunk stands.
abbrev pub FollowAt : WordPlace → List ObjectHunk → List UnitValue → Type 0
FollowAt BeforeUnits hunks units = (hunks ≡ []) × (0 < length units)
FollowAt place hunks units = ⊤

abbrev pub unit_rest : List ObjectHunk → List UnitValue → List FilePart
unit_rest hunks units = flat_map (flat_map block_file_parts) hunks ++ flat_map unit_file_parts units

pub record ObjectTail (longs : ℕ) (place : WordPlace) (list : Option Kind) (qs : List FilePart) : Type 0 where
  pub hunks : List ObjectHunk
  pub units : List UnitValue
  pub are_hunks : AllByRecursion IsObjectHunk hunks
  pub are_units : AllByRecursion IsUnit units
  pub follow : FollowAt place hunks units
  pub tail : Tail 0 longs place list qs (unit_rest hunks units)

-- ---- before a part that is not refused

module _ (longs : ℕ) (place : WordPlace) (list : Option Kind) (word value : ℕ) (content offsets : List ℕ) (qs : List FilePart) (h : IsListAt place list) where
  abbrev q : ℕ → FilePart
  q what = part what word value content offsets

  abbrev Later : ℕ → Type 0
  Later what = ObjectTail (longs_after longs (q what)) (place_after place (size_of_part (q what))) (list_after list what word) qs

  abbrev InFront : ℕ → Type 0
  InFront what = refuse_row (spot 0 longs place list) (Some (q what)) ≡ None → HasLongs (q what) → Later what → ObjectTail longs place list (q what ∷ qs)

  hunk_first : InFront hunk_part
  hunk_first e fit t = absurd (let none = (hunk_passes 0 longs place list word value content offsets e).some in cc)

  -- ---- a unit

  follow_unit : (at : WordPlace) (u : UnitValue) (units : List UnitValue) → FollowAt at [] (u ∷ units)
  follow_unit BeforeUnits u units = (refl, omega arith)
  follow_unit _ u units = tt

  unit_first : InFront unit_part
  unit_first e fit t =
      let p = unit_passes 0 longs place list word value content offsets e in
      let u : UnitValue = record { name = content; hunks = t.hunks } in
      let same : q unit_part ≡ of_unit content =
      ap₂ (λ (w v : ℕ). part unit_part w v content offsets) p.word_is p.value_is ∙ ap (λ (os : List ℕ). part unit_part 0 0 content os) p.offsets_are in
      let later : qs ≡ unit_rest t.hunks t.units =
      blocks_first 0 longs BetweenHunks qs (unit_rest t.hunks t.units) t.tail ∙ ap (λ (bs : List _). flat_map block_file_parts bs ++ unit_rest t.hunks t.units) t.tail.stand in
      let parts : q unit_part ∷ qs ≡ unit_rest [] (u ∷ t.units) = ap₂ (λ (y : FilePart) (ys : List FilePart). y ∷ ys) same later in
      record {
        hunks = [];
        units = u ∷ t.units;
        are_hunks = tt;
        are_units = (record { name = (p.short, fit.content); hunks = t.are_hunks }, t.are_units);
        follow = follow_unit place u t.units;
        tail = subst (λ (ys : List FilePart). Tail 0 longs place list ys (unit_rest [] (u ∷ t.units))) (sym parts) (no_tail 0 longs place list (unit_rest [] (u ∷ t.units)) p.closed h);
      }

  -- ---- a block

  -- It stands in a hunk, or opens one.
  block_at : (at : WordPlace) (hunks : List ObjectHunk) (units : List UnitValue) → AllByRecursion IsObjectHunk hunks → AllByRecursion IsUnit units → IsListAt at list → not (is_before_units at) ≡ true →
      FromBlock 0 longs at (q block_part ∷ qs) (unit_rest hunks units) → ObjectTail longs at list (q block_part ∷ qs)
  block_at BeforeUnits hunks units are_hunks are_units k begun from = absurd cc
  block_at (InHunk has) hunks units are_hunks are_units k begun from = record {
    hunks = hunks;
    units = units;
    are_hunks = are_hunks;
    are_units = are_units;
    follow = tt;
    tail = block_in_hunk 0 longs has list (q block_part ∷ qs) (unit_rest hunks units) k from;
  }
  block_at BetweenHunks hunks units are_hunks are_units k begun from =
      let more : List ObjectHunk = from.blocks ∷ hunks in
      let parts : q block_part ∷ qs ≡ unit_rest more units =
      from.parts ∙ sym (append_assoc (flat_map block_file_parts from.blocks) (flat_map (flat_map block_file_parts) hunks) (flat_map unit_file_parts units)) in
      record {
        hunks = more;
        units = units;
        are_hunks = (record { blocks = from.are_blocks; order = from.order }, are_hunks);
        are_units = are_units;
        follow = tt;
        tail = subst (λ (ys : List FilePart). Tail 0 longs BetweenHunks list ys (unit_rest more units)) (sym parts) (no_tail 0 longs BetweenHunks list (unit_rest more units) refl k);
      }

  block_first : InFront block_part
  block_first e fit t =
      let p = block_passes 0 longs place list word value content offsets e in
      block_at place t.hunks t.units t.are_hunks t.are_units h p.in_place (from_block 0 longs place list word value content offsets qs (unit_rest t.hunks t.units) e fit t.tail)

  -- ---- items

  group_first : InFront group_part
  group_first e fit t = record {
    hunks = t.hunks;
    units = t.units;
    are_hunks = t.are_hunks;
    are_units = t.are_units;
    follow = t.follow;
    tail = group_in_front 0 longs place list word value content offsets qs (unit_rest t.hunks t.units) e fit t.tail;
  }

  symbol_first : InFront symbol_part
  symbol_first e fit t = record {
    hunks = t.hunks;
    units = t.units;
    are_hunks = t.are_hunks;
    are_units = t.are_units;
    follow = t.follow;
    tail = symbol_in_front 0 longs place list word value content offsets qs (unit_rest t.hunks t.units) e fit t.tail;
  }

  entry_first : InFront entry_part
  entry_first e fit t = record {
    hunks = t.hunks;
    units = t.units;
    are_hunks = t.are_hunks;
    are_units = t.are_units;
    follow = t.follow;
    tail = entry_in_front 0 longs place list word value content offsets qs (unit_rest t.hunks t.units) e fit t.tail;
  }

  part_first : (what : ℕ) → InFront what
  part_first = by_what InFront hunk_first unit_first block_first group_first symbol_first entry_first
      (λ what o e fit t. absurd (other_refused (spot 0 longs place list) what word value content offsets o e))

-- ---- at the end

follow_end : (place : WordPlace) → is_open place ≡ false → is_before_units place ≡ false → FollowAt place [] []
follow_end BeforeUnits closed begun = absurd cc
follow_end _ closed begun = tt

-- Parts that pass are the rest of an object file.
pub object_tail : (longs : ℕ) (place : WordPlace) (list : Option Kind) (qs : List FilePart) → AllByRecursion HasLongs qs → Pass 0 longs place list qs → IsListAt place list → ObjectTail longs place list qs
object_tail longs place list [] fit pass h = record {
  hunks = [];
  units = [];
  are_hunks = tt;
  are_units = tt;
  follow = follow_end place pass.0 pass.1;
  tail = no_tail 0 longs place list [] pass.0 h;
}
object_tail longs place list (q ∷ qs) fit pass h =
    part_first longs place list q.word q.value q.content q.offsets qs h q.what pass.0 fit.0
    (object_tail (longs_after longs q) (place_after place (size_of_part q)) (list_after list q.what q.word) qs fit.1 pass.1
    (list_stays 0 longs place list q.word q.value q.content q.offsets h q.what pass.0))
