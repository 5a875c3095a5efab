-- Where a reader of a block stands, in numbers alone: what the next longword is for, and what it leads to. After the last longword of the block no phase is left.
use Rattle.std.specs.Prelude.{ℕ, zero, suc, ◌-◌, if◌then◌else◌, Option, Some, None}
use Rattle.hunk_words.specs.declared.block_word.Kind.{Kind}
use Rattle.hunk_words.specs.declared.block_word.Kind.TheVariants as kinds
use Rattle.hunk_words.specs.Bits.{entry_type, is_relocation, kind, name_longs, size_longs}
use Rattle.hunk_grammar.specs.declared.ext_shape.ExtShape.{ExtShape}
use Rattle.hunk_grammar.specs.declared.ext_shape.ExtShape.TheVariants.{Definition, References, Common}
use Rattle.hunk_grammar.specs.ExtKinds.{ext_shape}
use Rattle.hunk_grammar.specs.BlockParts.{Part, Part as parts}
use Rattle.hunk_grammar.specs.declared.phase.Phase.{Phase}
use Rattle.hunk_grammar.specs.declared.phase.Phase.TheVariants as phases

-- ---- parts

-- Of the parts that a run has, and that no test tells apart, one.
abbrev pub part_at : Phase → Part
part_at phases.FirstBlock = parts.BlockWord
part_at phases.BlockWord = parts.BlockWord
part_at phases.NameCount = parts.NameCount
part_at phases.LongCount = parts.LongCount
part_at phases.ContentSize = parts.ContentSize
part_at phases.BssSize = parts.ContentSize
part_at (phases.Content longs owed) = parts.Payload
part_at (phases.Payload owed) = parts.Payload
part_at phases.GroupCount = parts.GroupCount
part_at (phases.Target owed) = parts.Target
part_at (phases.Offset target owed) = parts.Offset
part_at phases.EntryWord = parts.EntryWord
part_at (phases.Symbol owed) = parts.EntryName
part_at phases.ExtWord = parts.ExtWord
part_at (phases.ExtFront owed) = parts.EntryName
part_at phases.ExtCount = parts.OffsetCount
part_at (phases.ExtRest owed) = parts.EntryName

-- ---- steps

-- this number of longwords of the kind is owed
abbrev pub owe_content : ℕ → ℕ → Option Phase
owe_content longs zero = None
owe_content longs (suc owed) = Some (phases.Content longs owed)

abbrev pub owe_payload : ℕ → Option Phase
owe_payload zero = None
owe_payload (suc owed) = Some (phases.Payload owed)

-- A count of 0 ends the groups.
abbrev pub owe_targets : ℕ → Option Phase
owe_targets zero = None
owe_targets (suc owed) = Some (phases.Target owed)

abbrev pub owe_offsets : ℕ → ℕ → Option Phase
owe_offsets target zero = Some phases.GroupCount
owe_offsets target (suc owed) = Some (phases.Offset target owed)

abbrev pub owe_symbol : ℕ → Option Phase
owe_symbol zero = Some phases.EntryWord
owe_symbol (suc owed) = Some (phases.Symbol owed)

-- The name, and the value after it; a word of 0 ends the entries.
abbrev pub owe_symbols : ℕ → Option Phase
owe_symbols zero = None
owe_symbols (suc w) = owe_symbol (suc (name_longs (suc w)))

-- up to the count of references
abbrev pub owe_front : ℕ → Option Phase
owe_front zero = Some phases.ExtCount
owe_front (suc owed) = Some (phases.ExtFront owed)

-- up to the end of the entry
abbrev pub owe_rest : ℕ → Option Phase
owe_rest zero = Some phases.ExtWord
owe_rest (suc owed) = Some (phases.ExtRest owed)

-- A name of this number of longwords, and what follows it. A type that is refused does not matter.
abbrev pub owe_shaped : Option ExtShape → ℕ → Option Phase
owe_shaped (Some Definition) longs = owe_rest (suc longs)
owe_shaped (Some References) longs = owe_front longs
owe_shaped (Some Common) longs = owe_front (suc longs)
owe_shaped None longs = owe_rest longs

-- A word of 0 ends the entries.
abbrev pub owe_externals : ℕ → Option Phase
owe_externals zero = None
owe_externals (suc w) = owe_shaped (ext_shape (entry_type (suc w))) (name_longs (suc w))

-- After a block word; the kinds that are refused do not matter.
abbrev pub begin : Kind → Option Phase
begin kinds.Name = Some phases.NameCount
begin kinds.Code = Some phases.ContentSize
begin kinds.Data = Some phases.ContentSize
begin kinds.Bss = Some phases.BssSize
begin kinds.Ext = Some phases.ExtWord
begin kinds.Symbol = Some phases.EntryWord
begin kinds.Debug = Some phases.LongCount
begin (kinds.Unknown n) = Some phases.LongCount
begin k = if is_relocation k then Some phases.GroupCount else None

-- After a longword that is not refused.
abbrev pub step : Phase → ℕ → Option Phase
step phases.FirstBlock w = begin (kind w)
step phases.BlockWord w = begin (kind w)
step phases.NameCount w = owe_payload w
step phases.LongCount w = owe_payload w
step phases.ContentSize w = owe_content (size_longs w) (size_longs w)
step phases.BssSize w = None
step (phases.Content longs owed) w = owe_content longs owed
step (phases.Payload owed) w = owe_payload owed
step phases.GroupCount w = owe_targets w
step (phases.Target owed) w = Some (phases.Offset w owed)
step (phases.Offset target owed) w = owe_offsets target owed
step phases.EntryWord w = owe_symbols w
step (phases.Symbol owed) w = owe_symbol owed
step phases.ExtWord w = owe_externals w
step (phases.ExtFront owed) w = owe_front owed
step phases.ExtCount w = owe_rest w
step (phases.ExtRest owed) w = owe_rest owed

-- ---- runs

-- The number of longwords that come at least and that no test looks at, in any file.
abbrev pub run : Phase → ℕ
run (phases.Content longs owed) = suc owed
run (phases.Payload owed) = suc owed
run (phases.Symbol owed) = suc owed
run (phases.ExtFront owed) = suc owed
run (phases.ExtRest owed) = suc owed
run _ = 0

-- after one longword of a run and this number of further ones
abbrev pub pass : Phase → ℕ → Option Phase
pass (phases.Content longs owed) n = owe_content longs (owed - n)
pass (phases.Payload owed) n = owe_payload (owed - n)
pass (phases.Symbol owed) n = owe_symbol (owed - n)
pass (phases.ExtFront owed) n = owe_front (owed - n)
pass (phases.ExtRest owed) n = owe_rest (owed - n)
pass phase n = Some phase

-- The like where no test looks at an offset either, as outside load files.
abbrev pub longest_run : Phase → ℕ
longest_run (phases.Offset target owed) = suc owed
longest_run phase = run phase

abbrev pub longest_run_of : Option Phase → ℕ
longest_run_of (Some phase) = longest_run phase
longest_run_of None = 0

-- after all of them
abbrev pub pass_longest_run : Phase → Option Phase
pass_longest_run (phases.Content longs owed) = None
pass_longest_run (phases.Payload owed) = None
pass_longest_run (phases.Offset target owed) = Some phases.GroupCount
pass_longest_run (phases.Symbol owed) = Some phases.EntryWord
pass_longest_run (phases.ExtFront owed) = Some phases.ExtCount
pass_longest_run (phases.ExtRest owed) = Some phases.ExtWord
pass_longest_run phase = Some phase

abbrev pub pass_longest_run_of : Option Phase → Option Phase
pass_longest_run_of (Some phase) = pass_longest_run phase
pass_longest_run_of None = None
