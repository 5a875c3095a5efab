-- What each longword of a load file is for, and which longwords are refused there.
use Rattle.std.specs.Prelude.{ℕ, ◌+◌, ◌*◌, Bool, ◌==◌, nat_lt, if◌then◌else◌, Option, Some, None}
use Rattle.hunk_words.specs.Limits.{name_limit, most_hunks}
use Rattle.hunk_words.specs.declared.block_word.Kind.{Kind}
use Rattle.hunk_words.specs.declared.block_word.Kind.TheVariants as kinds
use Rattle.hunk_words.specs.declared.reason.Reason.{Reason}
use Rattle.hunk_words.specs.declared.reason.Reason.TheVariants as reasons
use Rattle.hunk_words.specs.Bits.{size_longs, has_both_bits, is_advisory, is_relocation, kind, header_word, unit_word, library_word}
use Rattle.hunk_grammar.specs.BlockParts.{Part, Part as parts}

-- What is known of the file and the hunk where a longword of a block stands: the number of hunks, the
-- declared longs of the hunk, and whether it has its content block.
pub record Place : Type 0 where
  pub hunks : ℕ
  pub longs : ℕ
  pub has_content : Bool

-- What a longword of a load file is for, with the numbers that decide whether it is refused.
pub data Role : Type 0 where
  FirstLong : Role
  ResidentName : Role
  TableSize : Role
  FirstHunk : Role
  LastHunk : ℕ → Role
  SizeWord : Role
  Attributes : Role
  InBlock : Place → Part → Role

-- The test of a block word by its kind.
abbrev pub refuse_kind : Bool → Bool → Kind → Option Reason
refuse_kind has_content advisory kinds.Overlay = Some reasons.Overlay
refuse_kind has_content advisory kinds.Break = Some reasons.Break
refuse_kind has_content advisory kinds.Drel32 = Some reasons.ShortReloc
refuse_kind has_content advisory kinds.Reloc32Short = Some reasons.ShortReloc
refuse_kind has_content advisory kinds.Lib = Some reasons.Library
refuse_kind has_content advisory kinds.Index = Some reasons.Library
refuse_kind has_content advisory kinds.Header = Some reasons.Misplaced
refuse_kind has_content advisory kinds.Unit = Some reasons.Misplaced
refuse_kind has_content advisory kinds.Ext = Some reasons.NotInLoadFile
refuse_kind has_content advisory (kinds.Unknown n) = if advisory then None else Some reasons.UnknownBlock
refuse_kind has_content advisory kinds.Code = if has_content then Some reasons.SecondContent else None
refuse_kind has_content advisory kinds.Data = if has_content then Some reasons.SecondContent else None
refuse_kind has_content advisory kinds.Bss = if has_content then Some reasons.SecondContent else None
refuse_kind has_content advisory kinds.Reloc32 = if has_content then None else Some reasons.BeforeContent
refuse_kind has_content advisory kinds.End = if has_content then None else Some reasons.NoContent
refuse_kind has_content advisory k = if is_relocation k then Some reasons.NotInLoadFile else None

-- The tests of a block word.
abbrev pub refuse_word : Bool → ℕ → Option Reason
refuse_word has_content w = if has_both_bits w then Some reasons.BothBits else refuse_kind has_content (is_advisory w) (kind w)

-- The tests of a longword of a block.
abbrev pub refuse_part : Place → Part → ℕ → Option Reason
refuse_part p parts.BlockWord w = refuse_word p.has_content w
refuse_part p parts.ContentSize w = if nat_lt p.longs (size_longs w) then Some reasons.ContentTooLong else None
refuse_part p parts.NameCount w = if nat_lt w name_limit then None else Some reasons.NameWord
refuse_part p parts.GroupCount w = if w == 0 then None else if p.longs == 0 then Some reasons.NothingToRelocate else None
refuse_part p parts.Target w = if nat_lt w p.hunks then None else Some reasons.BadTarget
refuse_part p parts.Offset w = if nat_lt (4 * p.longs) (w + 4) then Some reasons.BadOffset else None
refuse_part p part w = None

-- The tests of a longword, in order; none where it is accepted.
abbrev pub refuse : Role → ℕ → Option Reason
refuse FirstLong w =
    if w == header_word then None
    else if w == unit_word then Some reasons.IsObject
    else if w == library_word then Some reasons.Library
    else Some reasons.NotLoadFile
refuse ResidentName w = if w == 0 then None else Some reasons.Resident
refuse TableSize w = if w == 0 then Some reasons.NoHunks else if nat_lt most_hunks w then Some reasons.TooManyHunks else None
refuse FirstHunk w = if w == 0 then None else Some reasons.FirstHunk
refuse (LastHunk hunks) w = if w + 1 == hunks then None else Some reasons.LastHunk
refuse SizeWord w = None
refuse Attributes w = None
refuse (InBlock p part) w = refuse_part p part w
