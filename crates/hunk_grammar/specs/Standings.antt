-- Where a block may stand in its hunk.
use Rattle.std.specs.Prelude.{Bool, true, false, if◌then◌else◌, Option, Some, None}
use Rattle.hunk_words.specs.Bits.{is_relocation}
use Rattle.hunk_words.specs.declared.block_word.Kind.{Kind}
use Rattle.hunk_words.specs.declared.block_word.Kind.TheVariants as kinds
use Rattle.hunk_words.specs.declared.reason.Reason.{Reason}
use Rattle.hunk_words.specs.declared.reason.Reason.TheVariants as reasons

-- Anywhere, or once, or only after the content block, or at the end.
pub data BlockStanding : Type 0 where
  Beside : BlockStanding
  Content : BlockStanding
  Relocating : BlockStanding
  Ending : BlockStanding

abbrev pub is_content : BlockStanding → Bool
is_content Content = true
is_content _ = false

abbrev pub is_ending : BlockStanding → Bool
is_ending Ending = true
is_ending _ = false

-- where a block of this kind may stand
abbrev pub standing_of_kind : Kind → BlockStanding
standing_of_kind kinds.Code = Content
standing_of_kind kinds.Data = Content
standing_of_kind kinds.Bss = Content
standing_of_kind kinds.Ext = Relocating
standing_of_kind kinds.End = Ending
standing_of_kind k = if is_relocation k then Relocating else Beside

-- The test of a block's place. The flag says whether the hunk has its content block.
abbrev pub refuse_standing : Bool → BlockStanding → Option Reason
refuse_standing true Content = Some reasons.SecondContent
refuse_standing false Relocating = Some reasons.BeforeContent
refuse_standing false Ending = Some reasons.NoContent
refuse_standing has_content s = None

-- The first refusal of two tests.
abbrev pub first_of : Option Reason → Option Reason → Option Reason
first_of (Some reason) next = Some reason
first_of None next = next
