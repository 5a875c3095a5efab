-- Reading a block, longword by longword: what has been read of an open block.
use Rattle.std.specs.Prelude.{◌≡◌, ℕ, zero, suc, List, [], ◌∷◌, ◌++◌, if◌then◌else◌, Option, Some, None}
use Rattle.hunk_words.specs.Bits.{size_longs, memory_bits, is_relocation, name_longs, entry_type}
use Rattle.hunk_words.specs.declared.block_word.Kind.{Kind}
use Rattle.hunk_words.specs.declared.block_word.Kind.TheVariants as kinds
use Rattle.hunk_grammar.specs.declared.ext_shape.ExtShape.{ExtShape}
use Rattle.hunk_grammar.specs.declared.ext_shape.ExtShape.TheVariants.{Definition, References, Common}
use Rattle.hunk_grammar.specs.ExtKinds.{ext_shape}
use Rattle.hunk_blocks.specs.Values.{RelocGroup, ExtEntry, SymbolEntry, BlockBody, Name, Code, Data, Bss, Reloc, Ext, Symbol, Debug, Advisory, End}
use Rattle.hunk_grammar.specs.BlockParts.{Part, Part as parts}

-- what a count is for
pub data Counting : Type 0 where
  ForName : Counting
  ForDebug : Counting
  ForAdvisory : Counting

-- what a size word is for
pub data Sizing : Type 0 where
  ForCode : Sizing
  ForData : Sizing
  ForBss : Sizing

-- what a payload is for
pub data Filling : Type 0 where
  Counted : Counting → Filling
  SizedCode : ℕ → Filling
  SizedData : ℕ → Filling

-- What has been read of a block after its word. In a payload, a name or a list of offsets the last
-- number is how many more of the kind follow the next; at a target it is one less than the number
-- of the offsets after it.
pub data Inside : Type 0 where
  AtCount : Counting → Inside
  AtSize : Sizing → Inside
  InPayload : Filling → List ℕ → ℕ → Inside
  AtGroup : List RelocGroup → Inside
  AtTarget : List RelocGroup → ℕ → Inside
  InOffsets : List RelocGroup → ℕ → List ℕ → ℕ → Inside
  AtEntry : List SymbolEntry → Inside
  InName : List SymbolEntry → ℕ → List ℕ → ℕ → Inside
  AtValue : List SymbolEntry → ℕ → List ℕ → Inside
  AtExtWord : List ExtEntry → Inside
  InExtName : List ExtEntry → ℕ → List ℕ → ℕ → Inside
  AtExtValue : List ExtEntry → ℕ → List ℕ → Inside
  AtExtSize : List ExtEntry → ℕ → List ℕ → Inside
  AtExtCount : List ExtEntry → ℕ → List ℕ → ℕ → Inside
  InExtOffsets : List ExtEntry → ℕ → List ℕ → ℕ → List ℕ → ℕ → Inside

pub data BlockNext : Type 0 where
  Open : Inside → BlockNext
  Whole : BlockBody → BlockNext

abbrev pub group : ℕ → List ℕ → RelocGroup
group target offsets = record { target = target; offsets = offsets }

abbrev pub entry : ℕ → List ℕ → ℕ → SymbolEntry
entry word name value = record { word = word; name = name; value = value }

abbrev pub external : ℕ → List ℕ → ℕ → List ℕ → ExtEntry
external word name value offsets = record { word = word; name = name; value = value; offsets = offsets }

-- ---- the part of the next longword

abbrev pub count_part : Counting → Part
count_part ForName = parts.NameCount
count_part c = parts.LongCount

abbrev pub part_of : Inside → Part
part_of (AtCount c) = count_part c
part_of (AtSize s) = parts.ContentSize
part_of (InPayload f done owed) = parts.Payload
part_of (AtGroup groups) = parts.GroupCount
part_of (AtTarget groups owed) = parts.Target
part_of (InOffsets groups target done owed) = parts.Offset
part_of (AtEntry entries) = parts.EntryWord
part_of (InName entries word done owed) = parts.EntryName
part_of (AtValue entries word name) = parts.EntryValue
part_of (AtExtWord entries) = parts.ExtWord
part_of (InExtName entries word done owed) = parts.EntryName
part_of (AtExtValue entries word name) = parts.EntryValue
part_of (AtExtSize entries word name) = parts.EntryValue
part_of (AtExtCount entries word name value) = parts.OffsetCount
part_of (InExtOffsets entries word name value done owed) = parts.Offset

-- ---- the step

abbrev pub counted_body : Counting → List ℕ → BlockBody
counted_body ForName words = Name words
counted_body ForDebug words = Debug words
counted_body ForAdvisory words = Advisory words

abbrev pub filled_body : Filling → List ℕ → BlockBody
filled_body (Counted c) words = counted_body c words
filled_body (SizedCode top) words = Code top words
filled_body (SizedData top) words = Data top words

-- this number of longwords of a payload, a list of offsets, a name, is owed
abbrev pub fill : Filling → List ℕ → ℕ → BlockNext
fill f done zero = Whole (filled_body f done)
fill f done (suc owed) = Open (InPayload f done owed)

abbrev pub relocate : List RelocGroup → ℕ → List ℕ → ℕ → BlockNext
relocate groups target done zero = Open (AtGroup (groups ++ group target done ∷ []))
relocate groups target done (suc owed) = Open (InOffsets groups target done owed)

abbrev pub name_entry : List SymbolEntry → ℕ → List ℕ → ℕ → BlockNext
name_entry entries word done zero = Open (AtValue entries word done)
name_entry entries word done (suc owed) = Open (InName entries word done owed)

-- what follows the name of an external entry; a refused type does not matter
abbrev pub shaped : Option ExtShape → List ExtEntry → ℕ → List ℕ → BlockNext
shaped (Some Definition) entries word name = Open (AtExtValue entries word name)
shaped (Some References) entries word name = Open (AtExtCount entries word name 0)
shaped (Some Common) entries word name = Open (AtExtSize entries word name)
shaped None entries word name = Open (AtExtWord entries)

abbrev pub name_external : List ExtEntry → ℕ → List ℕ → ℕ → BlockNext
name_external entries word done zero = shaped (ext_shape (entry_type word)) entries word done
name_external entries word done (suc owed) = Open (InExtName entries word done owed)

abbrev pub refer : List ExtEntry → ℕ → List ℕ → ℕ → List ℕ → ℕ → BlockNext
refer entries word name value done zero = Open (AtExtWord (entries ++ external word name value done ∷ []))
refer entries word name value done (suc owed) = Open (InExtOffsets entries word name value done owed)

abbrev pub listed : List ExtEntry → ℕ → BlockNext
listed entries zero = Whole (Ext entries)
listed entries (suc w) = name_external entries (suc w) [] (name_longs (suc w))

abbrev pub sized_by : Sizing → ℕ → BlockNext
sized_by ForCode w = fill (SizedCode (memory_bits w)) [] (size_longs w)
sized_by ForData w = fill (SizedData (memory_bits w)) [] (size_longs w)
sized_by ForBss w = Whole (Bss w)

abbrev pub grouped : List RelocGroup → ℕ → BlockNext
grouped groups zero = Whole (Reloc groups)
grouped groups (suc owed) = Open (AtTarget groups owed)

abbrev pub entered : List SymbolEntry → ℕ → BlockNext
entered entries zero = Whole (Symbol entries)
entered entries (suc w) = name_entry entries (suc w) [] (name_longs (suc w))

abbrev pub step_inside : Inside → ℕ → BlockNext
step_inside (AtCount c) w = fill (Counted c) [] w
step_inside (AtSize s) w = sized_by s w
step_inside (InPayload f done owed) w = fill f (done ++ w ∷ []) owed
step_inside (AtGroup groups) w = grouped groups w
step_inside (AtTarget groups owed) w = Open (InOffsets groups w [] owed)
step_inside (InOffsets groups target done owed) w = relocate groups target (done ++ w ∷ []) owed
step_inside (AtEntry entries) w = entered entries w
step_inside (InName entries word done owed) w = name_entry entries word (done ++ w ∷ []) owed
step_inside (AtValue entries word name) w = Open (AtEntry (entries ++ entry word name w ∷ []))
step_inside (AtExtWord entries) w = listed entries w
step_inside (InExtName entries word done owed) w = name_external entries word (done ++ w ∷ []) owed
step_inside (AtExtValue entries word name) w = Open (AtExtWord (entries ++ external word name w [] ∷ []))
step_inside (AtExtSize entries word name) w = Open (AtExtCount entries word name w)
step_inside (AtExtCount entries word name value) w = refer entries word name value [] w
step_inside (InExtOffsets entries word name value done owed) w = refer entries word name value (done ++ w ∷ []) owed

-- after the word of a block; the kinds that are refused do not matter
abbrev pub begin_body : Kind → BlockNext
begin_body kinds.Name = Open (AtCount ForName)
begin_body kinds.Code = Open (AtSize ForCode)
begin_body kinds.Data = Open (AtSize ForData)
begin_body kinds.Bss = Open (AtSize ForBss)
begin_body kinds.Ext = Open (AtExtWord [])
begin_body kinds.Symbol = Open (AtEntry [])
begin_body kinds.Debug = Open (AtCount ForDebug)
begin_body (kinds.Unknown n) = Open (AtCount ForAdvisory)
begin_body k = if is_relocation k then Open (AtGroup []) else Whole End

-- ---- runs

-- From one state these longwords, each with the part that is expected, lead to another.
abbrev pub Follows : BlockNext → List (Part × ℕ) → BlockNext → Type 0
Follows start [] end = start ≡ end
Follows (Open x) (p ∷ ps) end = (part_of x ≡ p.0) × Follows (step_inside x p.1) ps end
Follows (Whole body) (p ∷ ps) end = ⊥
