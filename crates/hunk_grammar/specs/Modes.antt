-- What is refused in a block, wherever it stands, in load files and in object files.
use Rattle.std.specs.Prelude.{ℕ, Bool, nat_lt, if◌then◌else◌, Option, Some, None}
use Rattle.hunk_words.specs.Limits.{name_limit}
use Rattle.hunk_words.specs.declared.block_word.Kind.{Kind}
use Rattle.hunk_words.specs.declared.block_word.Kind.TheVariants as kinds
use Rattle.hunk_words.specs.declared.reason.Reason.{Reason}
use Rattle.hunk_words.specs.declared.reason.Reason.TheVariants as reasons
use Rattle.hunk_words.specs.Bits.{has_both_bits, is_advisory, is_relocation, kind, entry_type}
use Rattle.hunk_grammar.specs.declared.mode.Mode.{Mode}
use Rattle.hunk_grammar.specs.declared.mode.Mode.TheVariants as modes
use Rattle.hunk_grammar.specs.declared.ext_shape.ExtShape.{ExtShape}
use Rattle.hunk_grammar.specs.ExtKinds.{ext_shape}
use Rattle.hunk_grammar.specs.BlockParts.{Part, NameCount, ExtWord}

-- Load files refuse for this reason what object files accept.
abbrev pub refuse_in_load_file : Mode → Reason → Option Reason
refuse_in_load_file modes.Load reason = Some reason
refuse_in_load_file modes.Object reason = None

-- The test of a block word by its kind.
abbrev pub refuse_alone_kind : Mode → Bool → Kind → Option Reason
refuse_alone_kind mode advisory kinds.Overlay = Some reasons.Overlay
refuse_alone_kind mode advisory kinds.Break = Some reasons.Break
refuse_alone_kind mode advisory kinds.Reloc32Short = Some reasons.ShortReloc
refuse_alone_kind mode advisory kinds.Lib = Some reasons.Library
refuse_alone_kind mode advisory kinds.Index = Some reasons.Library
refuse_alone_kind mode advisory kinds.Header = Some reasons.Misplaced
refuse_alone_kind mode advisory kinds.Unit = Some reasons.Misplaced
refuse_alone_kind mode advisory (kinds.Unknown n) = if advisory then None else Some reasons.UnknownBlock
refuse_alone_kind mode advisory kinds.Drel32 = refuse_in_load_file mode reasons.ShortReloc
refuse_alone_kind mode advisory kinds.Ext = refuse_in_load_file mode reasons.NotInLoadFile
refuse_alone_kind mode advisory kinds.Reloc32 = None
refuse_alone_kind mode advisory k = if is_relocation k then refuse_in_load_file mode reasons.NotInLoadFile else None

-- The test of a block word.
abbrev pub refuse_alone_word : Mode → ℕ → Option Reason
refuse_alone_word mode w = if has_both_bits w then Some reasons.BothBits else refuse_alone_kind mode (is_advisory w) (kind w)

abbrev pub refuse_shape : Option ExtShape → Option Reason
refuse_shape None = Some reasons.ExtKind
refuse_shape _ = None

-- The tests of a longword after the block word.
abbrev pub refuse_inside : Part → ℕ → Option Reason
refuse_inside NameCount w = if nat_lt w name_limit then None else Some reasons.NameWord
refuse_inside ExtWord w = refuse_shape (ext_shape (entry_type w))
refuse_inside part w = None
