-- What the longwords of an object file are for, and the tests of them.
use Rattle.std.specs.Prelude.{ℕ, Bool, true, false, ◌||◌, ◌==◌, nat_lt, if◌then◌else◌, Option, Some, None, is_some}
use Rattle.hunk_words.specs.declared.reason.Reason.{Reason}
use Rattle.hunk_words.specs.declared.reason.Reason.TheVariants as reasons
use Rattle.hunk_words.specs.Limits.{name_limit}
use Rattle.hunk_words.specs.declared.block_word.Kind.{Kind}
use Rattle.hunk_words.specs.declared.block_word.Kind.TheVariants as kinds
use Rattle.hunk_words.specs.Bits.{unit_word, has_both_bits, is_advisory, is_relocation, kind, entry_type}
use Rattle.hunk_grammar.specs.ExtKinds.{ext_kind}
use Rattle.hunk_grammar.specs.BlockParts.{Part, Part as parts}
use Rattle.hunk_grammar.specs.Standings.{BlockStanding, is_content}
use Rattle.hunk_grammar.specs.declared.object_position.WordPlace.{WordPlace}
use Rattle.hunk_grammar.specs.declared.object_position.WordPlace.TheVariants.{BeforeUnits, InHunk}

-- What a longword of an object file is for.
pub data ObjectRole : Type 0 where
  WordAt : WordPlace → ObjectRole
  UnitCount : ObjectRole
  UnitName : ObjectRole
  Within : Part → ObjectRole

abbrev pub has_content : WordPlace → Bool
has_content (InHunk has) = has
has_content _ = false

-- where the next block word stands
abbrev pub after_block : WordPlace → BlockStanding → WordPlace
after_block place s = InHunk (has_content place || is_content s)

abbrev pub object_role_at : WordPlace → Part → ObjectRole
object_role_at place parts.BlockWord = WordAt place
object_role_at place part = Within part

-- ---- the tests, to be read beside docs/FORMAT.md

-- The test of a block word by its kind: the first line that fits. A UNIT stands here where it has a flag.
abbrev pub refuse_object_kind : WordPlace → Bool → Kind → Option Reason
refuse_object_kind place advisory kinds.Overlay = Some reasons.Overlay
refuse_object_kind place advisory kinds.Break = Some reasons.Break
refuse_object_kind place advisory kinds.Reloc32Short = Some reasons.ShortReloc
refuse_object_kind place advisory kinds.Lib = Some reasons.Library
refuse_object_kind place advisory kinds.Index = Some reasons.Library
refuse_object_kind place advisory kinds.Header = Some reasons.Misplaced
refuse_object_kind place false (kinds.Unknown n) = Some reasons.UnknownBlock
refuse_object_kind place advisory kinds.Unit = Some reasons.Misplaced
refuse_object_kind BeforeUnits advisory k = Some reasons.Misplaced
refuse_object_kind (InHunk true) advisory kinds.Code = Some reasons.SecondContent
refuse_object_kind (InHunk true) advisory kinds.Data = Some reasons.SecondContent
refuse_object_kind (InHunk true) advisory kinds.Bss = Some reasons.SecondContent
refuse_object_kind (InHunk true) advisory k = None
refuse_object_kind place advisory kinds.Ext = Some reasons.BeforeContent
refuse_object_kind place advisory kinds.End = Some reasons.NoContent
refuse_object_kind place advisory k = if is_relocation k then Some reasons.BeforeContent else None

-- The test of UNIT without a flag.
abbrev pub refuse_unit : WordPlace → Option Reason
refuse_unit (InHunk has) = Some reasons.Misplaced
refuse_unit place = None

-- The tests of a block word.
abbrev pub refuse_object_word : WordPlace → ℕ → Option Reason
refuse_object_word place w =
    if w == unit_word then refuse_unit place
    else if has_both_bits w then Some reasons.BothBits
    else refuse_object_kind place (is_advisory w) (kind w)

-- The test of the count of a UNIT's or NAME's name.
abbrev pub refuse_count : ℕ → Option Reason
refuse_count w = if nat_lt w name_limit then None else Some reasons.NameWord

-- The test of the type of an EXT entry: those of the table are accepted.
abbrev pub refuse_ext_type : ℕ → Option Reason
refuse_ext_type n = if is_some (ext_kind n) then None else Some reasons.ExtKind

-- The tests of a longword of an object file.
abbrev pub refuse_object : ObjectRole → ℕ → Option Reason
refuse_object (WordAt place) w = refuse_object_word place w
refuse_object UnitCount w = refuse_count w
refuse_object (Within parts.NameCount) w = refuse_count w
refuse_object (Within parts.ExtWord) w = refuse_ext_type (entry_type w)
refuse_object role w = None
