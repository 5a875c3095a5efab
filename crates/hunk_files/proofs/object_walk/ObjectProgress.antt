-- What has been read of an object file can be completed.
use Rattle.std.proofs.Common.{◌≡◌, ℕ, zero, suc, ◌+◌, ◌^◌, ◌<◌, false, List, [], ◌∷◌, ◌++◌, length, map, refl, sym, ap, subst, ◌∙◌, append-nil, length-append, arith, None}
use Rattle.std.specs.List.{flat_map, AllByRecursion}
use Rattle.std.proofs.lemmas.{List.map-append}
use Rattle.hunk_words.specs.{Bits.kind, Longs.{IsLong, AreLongs}}
use Rattle.hunk_grammar.specs.declared.mode.Mode.TheVariants as modes
use Rattle.hunk_blocks.specs.{Values.{IsBlock}, Parts.block_text}
use Rattle.hunk_blocks.specs.{Faults.{words, Expects, blocks}}
use Rattle.hunk_blocks.specs.BlockSteps.{Inside, Open, part_of}
use Rattle.hunk_blocks.proofs.BlockOutcome.{Inner, expects_inside}
use Rattle.hunk_blocks.proofs.BlockProgress.{read_inside}
use Rattle.hunk_blocks.proofs.Lists.{All-append}
use Rattle.hunk_blocks.proofs.OneBlockFault.{part_not_word}
use Rattle.hunk_files.specs.ObjectFile.{ObjectHunk, UnitValue, ObjectFileValue, IsUnit, unit_word, unit_text, object_text}
use Rattle.hunk_grammar.specs.declared.object_position.WordPlace.{WordPlace}
use Rattle.hunk_grammar.specs.declared.object_position.WordPlace.TheVariants.{BeforeUnits, BetweenHunks, InHunk}
use Rattle.hunk_grammar.specs.ObjectRoles.{ObjectRole, WordAt, UnitCount, UnitName, Within, has_content, object_role_at}
use Rattle.hunk_files.specs.ObjectFault.{blocks_from, units_from, objects}
use Rattle.hunk_grammar.specs.Standings.{BlockStanding, refuse_standing, standing_of_kind}
use Rattle.hunk_files.proofs.walk.HunkFaults.{blocks_at, expects_block, expects_word, expects_within, expects_after, place_past}
use Rattle.hunk_files.proofs.walk.HunkOrder.{Leads}
use Rattle.hunk_files.proofs.walk.FileText.{standings}
use Rattle.hunk_files.proofs.object_walk.OneObjectFault.{ObjectState, AtWord, AtCount, InName, InBlock, place_next}
use Rattle.hunk_grammar.proofs.ObjectWords.{refuse_place, within_role}
use Rattle.hunk_files.proofs.object_walk.UnitFaults.{place_after, one_unit, one_is, expects_unit, expects_hunk, expects_units}

-- ---- what is read so far

-- Units, a unit with its hunks, the blocks of the open hunk, and what was read after them: so many units began, and so
-- many parts of the last are whole, its name and hunks.
pub record InUnit (place : WordPlace) (begun whole : ℕ) (ws tail : List ℕ) : Type 0 where
  pub units : ObjectFileValue
  pub unit_open : UnitValue
  pub blocks : ObjectHunk
  pub are_units : AllByRecursion IsUnit units
  pub is_unit : IsUnit unit_open
  pub are_blocks : AllByRecursion IsBlock blocks
  pub leads : Leads false (standings blocks) (has_content place)
  pub place_is : place_past BetweenHunks blocks ≡ place
  pub words_are : ws ≡ object_text units ++ (unit_text unit_open ++ (flat_map block_text blocks ++ tail))
  pub begun_are : begun ≡ suc (length units)
  pub whole_are : whole ≡ suc (length unit_open.hunks)

-- units, and what was read of the next, whose name is not whole
pub record AfterUnits (begun whole : ℕ) (ws tail : List ℕ) : Type 0 where
  pub units : ObjectFileValue
  pub are_units : AllByRecursion IsUnit units
  pub words_are : ws ≡ object_text units ++ tail
  pub begun_are : begun ≡ suc (length units)
  pub none_whole : whole ≡ 0

-- the longwords of a name, and how many are to come after the next
pub record InUnitName (owed begun whole : ℕ) (ws : List ℕ) : Type 0 where
  pub name : List ℕ
  pub count : ℕ
  pub name_fits : AreLongs name
  pub few : count < 2 ^ 24
  pub counts : count ≡ length name + suc owed
  pub after : AfterUnits begun whole ws (unit_word ∷ count ∷ name)

pub record InUnitBlock (next : WordPlace) (x : Inside) (begun whole : ℕ) (ws : List ℕ) : Type 0 where
  pub place : WordPlace
  pub word : ℕ
  pub tail : List ℕ
  pub in_unit : InUnit place begun whole ws tail
  pub inner : Inner modes.Object (Open x) word tail
  pub stands : refuse_place place (standing_of_kind (kind word)) ≡ None
  pub next_is : place_next place (standing_of_kind (kind word)) ≡ next

abbrev pub CountedAt : WordPlace → ℕ → ℕ → List ℕ → Type 0
CountedAt BeforeUnits begun whole ws = (ws ≡ []) × (begun ≡ 0) × (whole ≡ 0)
CountedAt BetweenHunks begun whole ws = InUnit BetweenHunks begun whole ws []
CountedAt (InHunk has) begun whole ws = InUnit (InHunk has) begun whole ws []

-- These longwords lead to the state, with so many units begun, and so many parts of the last whole.
abbrev pub Counted : ObjectState → ℕ → ℕ → List ℕ → Type 0
Counted (AtWord place) begun whole ws = CountedAt place begun whole ws
Counted AtCount begun whole ws = AfterUnits begun whole ws (unit_word ∷ [])
Counted (InName owed) begun whole ws = InUnitName owed begun whole ws
Counted (InBlock next x) begun whole ws = InUnitBlock next x begun whole ws

-- The state is new: after a unit's word a unit has begun, and between hunks one part more is whole.
abbrev pub Reached : ObjectState → ℕ → ℕ → List ℕ → Type 0
Reached (AtWord BeforeUnits) begun whole ws = CountedAt BeforeUnits begun whole ws
Reached (AtWord BetweenHunks) begun whole ws = CountedAt BetweenHunks begun (suc whole) ws
Reached (AtWord (InHunk has)) begun whole ws = CountedAt (InHunk has) begun whole ws
Reached AtCount begun whole ws = Counted AtCount (suc begun) 0 ws
Reached (InName owed) begun whole ws = Counted (InName owed) begun whole ws
Reached (InBlock next x) begun whole ws = Counted (InBlock next x) begun whole ws

-- ---- it is completed

-- The open hunk goes on by this role.
pub record InOpen (begun whole : ℕ) (ws : List ℕ) (role : ObjectRole) : Type 0 where
  pub units : ObjectFileValue
  pub unit_open : UnitValue
  pub front : List ℕ
  pub are_units : AllByRecursion IsUnit units
  pub is_unit : IsUnit unit_open
  pub split : ws ≡ object_text units ++ (unit_text unit_open ++ front)
  pub goes_on : Expects (blocks_from BetweenHunks) front role
  pub begun_are : begun ≡ suc (length units)
  pub whole_are : whole ≡ suc (length unit_open.hunks)

pub in_file : (ws tail : List ℕ) (role : ObjectRole) (units : ObjectFileValue) → AllByRecursion IsUnit units → ws ≡ object_text units ++ tail → Expects (units_from (place_after units)) tail role → Expects objects ws role
in_file ws tail role units are split e = subst (λ ys. Expects objects ys role) (sym split) (expects_units units are tail role e)

in_open : (place : WordPlace) (begun whole : ℕ) (ws tail : List ℕ) (role : ObjectRole) → InUnit place begun whole ws tail → Expects (blocks_from place) tail role → InOpen begun whole ws role
in_open place begun whole ws tail role h e =
    let here = subst (λ (p : WordPlace). Expects (blocks_from p) tail role) (sym h.place_is) e in
    record {
      units = h.units;
      unit_open = h.unit_open;
      front = flat_map block_text h.blocks ++ tail;
      are_units = h.are_units;
      is_unit = h.is_unit;
      split = h.words_are;
      goes_on = expects_after h.blocks (has_content place) h.are_blocks h.leads tail role here;
      begun_are = h.begun_are;
      whole_are = h.whole_are;
    }

pub open_expects : (begun whole : ℕ) (ws : List ℕ) (role : ObjectRole) → InOpen begun whole ws role → Expects objects ws role
open_expects begun whole ws role h =
    in_file ws (unit_text h.unit_open ++ h.front) role h.units h.are_units h.split
    (expects_hunk (place_after h.units) h.unit_open h.is_unit h.front role h.goes_on)

-- in a unit, a block word is expected
pub word_open : (place : WordPlace) (begun whole : ℕ) (ws : List ℕ) → InUnit place begun whole ws [] → InOpen begun whole ws (WordAt place)
word_open place begun whole ws h = in_open place begun whole ws [] (WordAt place) h (expects_block place [] (WordAt place) (expects_word place))

pub word_expected : (place : WordPlace) (begun whole : ℕ) (ws : List ℕ) → CountedAt place begun whole ws → Expects objects ws (WordAt place)
word_expected BeforeUnits begun whole ws h = subst (λ ys. Expects objects ys (WordAt BeforeUnits)) (sym h.0) (expects_unit BeforeUnits)
word_expected BetweenHunks begun whole ws h = open_expects begun whole ws (WordAt BetweenHunks) (word_open BetweenHunks begun whole ws h)
word_expected (InHunk has) begun whole ws h = open_expects begun whole ws (WordAt (InHunk has)) (word_open (InHunk has) begun whole ws h)

pub zeros : ℕ → List ℕ
zeros zero = []
zeros (suc n) = 0 ∷ zeros n

pub zeros_fit : (n : ℕ) → AreLongs (zeros n) × (length (zeros n) ≡ n)
unfolding zeros
zeros_fit zero = (tt, refl)
zeros_fit (suc n) = let z = zeros_fit n in ((omega arith, z.0), omega (arith, z.1))

pub name_expected : (place : WordPlace) (count : ℕ) (name : List ℕ) (owed : ℕ) → AreLongs name → count < 2 ^ 24 → count ≡ length name + suc owed → Expects (units_from place) (unit_word ∷ count ∷ name) UnitName
name_expected place count name owed fit few counts =
    let z = zeros_fit owed in
    let whole : List ℕ = name ++ 0 ∷ zeros owed in
    let same : length whole ≡ count = omega (arith, counts, z.1, length-append name (0 ∷ zeros owed)) in
    let named : ℕ → ObjectRole × ℕ = λ w. (UnitName, w) in
    record {
      value = one_unit whole;
      is = one_is whole (omega (arith, same, few), All-append IsLong name (0 ∷ zeros owed) fit (omega arith, z.0));
      done = (WordAt place, unit_word) ∷ (UnitCount, count) ∷ map named name;
      word = 0;
      more = map named (zeros owed);
      labels =
          append-nil (((WordAt place, unit_word) ∷ (UnitCount, length whole) ∷ map named whole) ++ [])
          ∙ append-nil ((WordAt place, unit_word) ∷ (UnitCount, length whole) ∷ map named whole)
          ∙ ap (λ (n : ℕ). (WordAt place, unit_word) ∷ (UnitCount, n) ∷ map named whole) same
          ∙ ap (λ ls. (WordAt place, unit_word) ∷ (UnitCount, count) ∷ ls) (map-append named name (0 ∷ zeros owed));
      begins = ap (λ ys. unit_word ∷ count ∷ ys) (names name);
    }
  where
    names : (xs : List ℕ) → words (map (λ (w : ℕ). (UnitName, w)) xs) ≡ xs
    names [] = refl
    names (x ∷ xs) = ap (λ ys. x ∷ ys) (names xs)

pub standing_goes : (place : WordPlace) (s : BlockStanding) → refuse_place place s ≡ None → refuse_standing (has_content place) s ≡ None
standing_goes BeforeUnits s ok = absurd cc
standing_goes BetweenHunks s ok = ok
standing_goes (InHunk has) s ok = ok

-- and inside a block the part of it
pub inside_open : (next : WordPlace) (x : Inside) (begun whole : ℕ) (ws : List ℕ) → InUnitBlock next x begun whole ws → InOpen begun whole ws (Within (part_of x))
inside_open next x begun whole ws h =
    let before : List ℕ = words (read_inside x) in
    let alone : Expects (blocks modes.Object) (h.word ∷ before) (part_of x) = subst (λ ys. Expects (blocks modes.Object) ys (part_of x)) h.inner.words_are (expects_inside modes.Object x h.word h.tail h.inner) in
    let here : Expects (blocks_at h.place) (h.word ∷ before) (object_role_at h.place (part_of x)) = (expects_within h.place h.word (standing_goes h.place (standing_of_kind (kind h.word)) h.stands) before (part_of x) alone).0 in
    let within = subst (Expects (blocks_at h.place) (h.word ∷ before)) (within_role h.place (part_of x) (part_not_word x)) here in
    in_open h.place begun whole ws h.tail (Within (part_of x)) h.in_unit
    (expects_block h.place h.tail (Within (part_of x)) (subst (λ ys. Expects (blocks_at h.place) ys (Within (part_of x))) (sym h.inner.words_are) within))
