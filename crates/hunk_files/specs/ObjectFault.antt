-- The longwords of an object file with their roles, and the first that is refused.
use Rattle.std.specs.Prelude.{◌≡◌, ℕ, ◌*◌, ◌<◌, List, [], ◌∷◌, ◌++◌, length, map, ◌⊎◌, ⊤}
use Rattle.std.specs.List.{flat_map, AllByRecursion}
use Rattle.hunk_words.specs.declared.reason.Reason.{Reason}
use Rattle.hunk_words.specs.declared.reason.Reason.TheVariants as reasons
use Rattle.hunk_words.specs.Longs.{longs}
use Rattle.hunk_blocks.specs.Values.{BlockValue, IsBlock}
use Rattle.hunk_blocks.specs.Parts.{block_parts}
use Rattle.hunk_blocks.specs.Faults.{Grammar, HasRefusal, IsFront}
use Rattle.hunk_files.specs.LoadFile.{standing, AreInOrder}
use Rattle.hunk_grammar.specs.declared.object_position.WordPlace.{WordPlace}
use Rattle.hunk_grammar.specs.declared.object_position.WordPlace.TheVariants.{BeforeUnits, BetweenHunks}
use Rattle.hunk_grammar.specs.ObjectRoles.{ObjectRole, WordAt, UnitCount, UnitName, has_content, after_block, object_role_at, refuse_object}
use Rattle.hunk_files.specs.ObjectFile.{ObjectHunk, UnitValue, ObjectFileValue, IsUnit, IsNoObjectFile, unit_word}

-- The place is in a unit.
abbrev pub IsInUnit : WordPlace → Type 0
IsInUnit BeforeUnits = ⊥
IsInUnit place = ⊤

-- ---- roles

abbrev pub object_block_labelled : WordPlace → BlockValue → List (ObjectRole × ℕ)
object_block_labelled place b = map (λ x. (object_role_at place x.0, x.1)) (block_parts b)

-- the blocks of a hunk, from this place on
abbrev pub object_blocks_labelled : WordPlace → ObjectHunk → List (ObjectRole × ℕ)
object_blocks_labelled place [] = []
object_blocks_labelled place (b ∷ rest) =
    object_block_labelled place b ++ object_blocks_labelled (after_block place (standing b.body)) rest

abbrev pub object_hunk_labelled : ObjectHunk → List (ObjectRole × ℕ)
object_hunk_labelled h = object_blocks_labelled BetweenHunks h

abbrev pub unit_header_labelled : WordPlace → List ℕ → List (ObjectRole × ℕ)
unit_header_labelled place name = (WordAt place, unit_word) ∷ (UnitCount, length name) ∷ map (λ w. (UnitName, w)) name

abbrev pub unit_labelled : WordPlace → UnitValue → List (ObjectRole × ℕ)
unit_labelled place u = unit_header_labelled place u.name ++ flat_map object_hunk_labelled u.hunks

-- the units, the first of which begins at this place
abbrev pub units_labelled : WordPlace → ObjectFileValue → List (ObjectRole × ℕ)
units_labelled place [] = []
units_labelled place (u ∷ us) = unit_labelled place u ++ units_labelled BetweenHunks us

-- ---- the grammar

-- the blocks of a hunk from this place on, up to its END
abbrev pub blocks_from : WordPlace → Grammar ObjectHunk ObjectRole
blocks_from place =
    record {
      Is = λ bs. AllByRecursion IsBlock bs × AreInOrder (has_content place) (map (λ b. standing b.body) bs);
      labelled = object_blocks_labelled place;
      refuse = refuse_object;
    }

-- the units from this place on
abbrev pub units_from : WordPlace → Grammar ObjectFileValue ObjectRole
units_from place =
    record { Is = λ us. (0 < length us) × AllByRecursion IsUnit us; labelled = units_labelled place; refuse = refuse_object }

-- Object files.
abbrev pub objects : Grammar ObjectFileValue ObjectRole
objects = units_from BeforeUnits

-- An object file begins with all the longwords, and the bytes are none.
pub record IsTruncatedObject (bytes : List ℕ) (at : ℕ) : Type 0 where
  pub place : at ≡ 4 * length (longs bytes)
  pub not_whole : IsNoObjectFile bytes
  pub front : IsFront objects (longs bytes)

-- The fault of bytes that are no object file.
abbrev pub HasObjectFault : List ℕ → ℕ → Reason → Type 0
HasObjectFault bytes at reason =
    HasRefusal objects (longs bytes) at reason ⊎ ((reason ≡ reasons.Truncated) × IsTruncatedObject bytes at)
