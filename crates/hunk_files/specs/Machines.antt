-- The machines of positions, as they go along the texts of files.
use Rattle.std.specs.Prelude.{◌≡◌, ℕ, suc, Bool, true, false, List, [], ◌∷◌, ◌++◌, if◌then◌else◌, Option}
use Rattle.hunk_words.specs.declared.reason.Reason.{Reason}
use Rattle.hunk_grammar.specs.BlockParts.{Part, Part as parts}
use Rattle.hunk_grammar.specs.declared.position.Position.{Position}
use Rattle.hunk_grammar.specs.declared.position.Position.TheVariants as positions
use Rattle.hunk_grammar.specs.Positions as load
use Rattle.hunk_grammar.specs.Roles.{Role, InBlock, refuse}
use Rattle.hunk_files.specs.LoadFile.{HunkValue, LoadFileValue}
use Rattle.hunk_files.specs.Tables.{header_text, hunk_texts}
use Rattle.hunk_grammar.specs.declared.object_position.ObjectPosition.{ObjectPosition}
use Rattle.hunk_grammar.specs.declared.object_position.ObjectPosition.TheVariants as places
use Rattle.hunk_grammar.specs.declared.object_position.WordPlace.TheVariants.{BeforeUnits}
use Rattle.hunk_grammar.specs.ObjectRoles.{ObjectRole, UnitName, Within, refuse_object}
use Rattle.hunk_grammar.specs.ObjectPositions as object

-- the longs that the hunk of the longword declares
abbrev pub longs_of : Role → ℕ
longs_of (InBlock place part) = place.longs
longs_of role = 0

abbrev pub refuse_in_load : Role → Position → ℕ → Option Reason
refuse_in_load role p w = refuse (load.role_at (longs_of role) p) w

abbrev pub refuse_in_object : ObjectRole → ObjectPosition → ℕ → Option Reason
refuse_in_object role p w = refuse_object (object.role_at p) w

-- ---- where longwords lead

abbrev pub leads_to : {Pos : Type 0} → (Pos → ℕ → Pos) → Pos → List ℕ → Pos
leads_to step p [] = p
leads_to step p (w ∷ ws) = leads_to step (step p w) ws

abbrev pub load_at : List ℕ → Position
load_at ws = leads_to load.step positions.FirstLong ws

abbrev pub object_at : List ℕ → ObjectPosition
object_at ws = leads_to object.step (places.Word BeforeUnits) ws

-- The longwords are the header and the first hunks of the file, or all of it.
pub record EndsHunk (v : LoadFileValue) (ws : List ℕ) : Type 0 where
  pub whole : List HunkValue
  pub ahead : List HunkValue
  pub hunks_are : v ≡ whole ++ ahead
  pub text_is : ws ≡ header_text v ++ hunk_texts whole

-- ---- longwords that may be any

-- of a payload, or of a name and the value after it
abbrev pub is_free_part : Part → Bool
is_free_part parts.Payload = true
is_free_part parts.EntryName = true
is_free_part parts.EntryValue = true
is_free_part part = false

abbrev pub is_free : Role → Bool
is_free (InBlock place part) = is_free_part part
is_free role = false

-- in an object file offsets may be any, too
abbrev pub is_free_in_object : ObjectRole → Bool
is_free_in_object UnitName = true
is_free_in_object (Within parts.Offset) = true
is_free_in_object (Within part) = is_free_part part
is_free_in_object role = false

-- so many of the first longwords have such roles
abbrev pub leading : {Role : Type 0} → (Role → Bool) → List (Role × ℕ) → ℕ
leading is [] = 0
leading is (l ∷ ls) = if is l.0 then suc (leading is ls) else 0
