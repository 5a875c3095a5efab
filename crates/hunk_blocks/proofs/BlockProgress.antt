-- What has been read of a block is the text up to there, and it fits as long as no longword was refused.
use Rattle.std.proofs.Common.{rules, ◌≡◌, ◌≢◌, ℕ, suc, ◌+◌, ◌*◌, ◌/◌, ◌%◌, ◌^◌, ◌<◌, List, [], ◌∷◌, ◌++◌, length, arith, None, Option, Some}
use Rattle.std.proofs.lemmas.Grind.{common_steps}
use Rattle.std.specs.{Prelude.IsTrue, List.{flat_map, AllByRecursion}}
use Rattle.hunk_words.specs.{declared.block_word.Kind.Kind, Longs.{IsLong, AreLongs}, Bits.{is_relocation, kind}}
use Rattle.hunk_words.specs.declared.block_word.Kind.TheVariants as kinds
use Rattle.hunk_grammar.specs.{declared.ext_shape.ExtShape.ExtShape, declared.ext_shape.ExtShape.TheVariants.{Definition, References, Common}, ExtKinds.ext_shape}
use Rattle.hunk_blocks.specs.Values.{RelocGroup, ExtEntry, SymbolEntry, FitsShape, FitsWord, IsPayload, IsGroup, IsExtEntry, IsSymbolEntry}
use Rattle.hunk_grammar.specs.{BlockParts.{Part, Part as parts}, Modes.{refuse_inside, refuse_shape}}
use Rattle.hunk_blocks.specs.Parts.{each, group_parts, ext_parts, symbol_parts, body_parts}
use Rattle.hunk_blocks.specs.BlockSteps.{Counting, Sizing, ForCode, ForData, ForBss, Filling, Counted, SizedCode, SizedData, Inside, AtCount, AtSize, InPayload, AtGroup, AtTarget, InOffsets, AtEntry, InName, AtValue, AtExtWord, InExtName, AtExtValue, AtExtSize, AtExtCount, InExtOffsets, BlockNext, Open, Whole, external, count_part, part_of, counted_body, step_inside, relocate, name_external, refer, begin_body}

-- ---- the text so far

abbrev pub head_of : Filling → ℕ → Part × ℕ
head_of (Counted c) n = (count_part c, n)
head_of (SizedCode top) n = (parts.ContentSize, top * 2 ^ 30 + n)
head_of (SizedData top) n = (parts.ContentSize, top * 2 ^ 30 + n)

abbrev pub group_so_far : List RelocGroup → ℕ → ℕ → List ℕ → List (Part × ℕ)
group_so_far groups target count done = flat_map group_parts groups ++ (parts.GroupCount, count) ∷ (parts.Target, target) ∷ each parts.Offset done

abbrev pub entry_so_far : List SymbolEntry → ℕ → List ℕ → List (Part × ℕ)
entry_so_far entries word done = flat_map symbol_parts entries ++ (parts.EntryWord, word) ∷ each parts.EntryName done

abbrev pub external_so_far : List ExtEntry → ℕ → List ℕ → List (Part × ℕ)
external_so_far entries word name = flat_map ext_parts entries ++ (parts.ExtWord, word) ∷ each parts.EntryName name

-- a common size, where the type has one
abbrev pub size_parts : Option ExtShape → ℕ → List (Part × ℕ)
size_parts (Some Common) value = (parts.EntryValue, value) ∷ []
size_parts _ value = []

abbrev pub references_so_far : List ExtEntry → ℕ → List ℕ → ℕ → ℕ → List ℕ → List (Part × ℕ)
references_so_far entries word name value count done =
    external_so_far entries word name ++ size_parts (ext_shape (word / 2 ^ 24)) value ++ (parts.OffsetCount, count) ∷ each parts.Offset done

abbrev pub read_inside : Inside → List (Part × ℕ)
read_inside (AtCount c) = []
read_inside (AtSize s) = []
read_inside (InPayload f done owed) = head_of f (length done + suc owed) ∷ each parts.Payload done
read_inside (AtGroup groups) = flat_map group_parts groups
read_inside (AtTarget groups owed) = flat_map group_parts groups ++ (parts.GroupCount, suc owed) ∷ []
read_inside (InOffsets groups target done owed) = group_so_far groups target (length done + suc owed) done
read_inside (AtEntry entries) = flat_map symbol_parts entries
read_inside (InName entries word done owed) = entry_so_far entries word done
read_inside (AtValue entries word name) = entry_so_far entries word name
read_inside (AtExtWord entries) = flat_map ext_parts entries
read_inside (InExtName entries word done owed) = external_so_far entries word done
read_inside (AtExtValue entries word name) = external_so_far entries word name
read_inside (AtExtSize entries word name) = external_so_far entries word name
read_inside (AtExtCount entries word name value) = external_so_far entries word name ++ size_parts (ext_shape (word / 2 ^ 24)) value
read_inside (InExtOffsets entries word name value done owed) = references_so_far entries word name value (length done + suc owed) done

abbrev pub read_next : BlockNext → List (Part × ℕ)
read_next (Open x) = read_inside x
read_next (Whole body) = body_parts body

-- ---- what fits so far

module _ (word : ℕ) where
  -- Each payload of this length fits.
  abbrev pub FillFits : Filling → ℕ → Type 0
  FillFits (Counted c) n = (ws : List ℕ) → length ws ≡ n → AreLongs ws → FitsWord word (counted_body c ws)
  FillFits (SizedCode top) n = (kind word ≡ kinds.Code) × (top < 4) × (n < 2 ^ 30)
  FillFits (SizedData top) n = (kind word ≡ kinds.Data) × (top < 4) × (n < 2 ^ 30)

  -- Each payload fits whose count is not refused.
  abbrev pub CountFits : Counting → Type 0
  CountFits c = (ws : List ℕ) → IsPayload (2 ^ 32) ws → refuse_inside (count_part c) (length ws) ≡ None → FitsWord word (counted_body c ws)

  abbrev pub SizeFits : Sizing → Type 0
  SizeFits ForCode = kind word ≡ kinds.Code
  SizeFits ForData = kind word ≡ kinds.Data
  SizeFits ForBss = kind word ≡ kinds.Bss

  abbrev pub GroupsFit : List RelocGroup → Type 0
  GroupsFit groups = IsTrue (is_relocation (kind word)) × AllByRecursion IsGroup groups

  pub record OffsetsFit (target : ℕ) (done : List ℕ) (count : ℕ) : Type 0 where
    pub target_fits : IsLong target
    pub count_fits : count < 2 ^ 32
    pub offsets_fit : AreLongs done

  abbrev pub EntriesFit : List SymbolEntry → Type 0
  EntriesFit entries = (kind word ≡ kinds.Symbol) × AllByRecursion IsSymbolEntry entries

  pub record NameFits (w : ℕ) (done : List ℕ) (count : ℕ) : Type 0 where
    pub fits : IsLong w
    pub goes_on : w ≢ 0
    pub counts : count ≡ w % 2 ^ 24
    pub longs_fit : AreLongs done

  abbrev pub ExternalsFit : List ExtEntry → Type 0
  ExternalsFit entries = (kind word ≡ kinds.Ext) × AllByRecursion IsExtEntry entries

  abbrev pub IsShape : ℕ → Option ExtShape → Type 0
  IsShape w s = ext_shape (w / 2 ^ 24) ≡ s

  -- a count of references may come after this value
  abbrev pub MayRefer : Option ExtShape → ℕ → Type 0
  MayRefer (Some References) value = value ≡ 0
  MayRefer (Some Common) value = Unit {0}
  MayRefer _ value = ⊥

  pub record ReferencesFit (w : ℕ) (name : List ℕ) (value : ℕ) : Type 0 where
    pub name_fits : NameFits w name (length name)
    pub value_fits : IsLong value
    pub refers : MayRefer (ext_shape (w / 2 ^ 24)) value

  abbrev pub Fits : Inside → Type 0
  Fits (AtCount c) = CountFits c
  Fits (AtSize s) = SizeFits s
  Fits (InPayload f done owed) = FillFits f (length done + suc owed) × AreLongs done
  Fits (AtGroup groups) = GroupsFit groups
  Fits (AtTarget groups owed) = GroupsFit groups × (suc owed < 2 ^ 32)
  Fits (InOffsets groups target done owed) = GroupsFit groups × OffsetsFit target done (length done + suc owed)
  Fits (AtEntry entries) = EntriesFit entries
  Fits (InName entries w done owed) = EntriesFit entries × NameFits w done (length done + suc owed)
  Fits (AtValue entries w name) = EntriesFit entries × NameFits w name (length name)
  Fits (AtExtWord entries) = ExternalsFit entries
  Fits (InExtName entries w done owed) = ExternalsFit entries × NameFits w done (length done + suc owed) × (refuse_shape (ext_shape (w / 2 ^ 24)) ≡ None)
  Fits (AtExtValue entries w name) = ExternalsFit entries × NameFits w name (length name) × IsShape w (Some Definition)
  Fits (AtExtSize entries w name) = ExternalsFit entries × NameFits w name (length name) × IsShape w (Some Common)
  Fits (AtExtCount entries w name value) = ExternalsFit entries × ReferencesFit w name value
  Fits (InExtOffsets entries w name value done owed) = ExternalsFit entries × ReferencesFit w name value × (length done + suc owed < 2 ^ 32) × AreLongs done

  abbrev pub NextFits : BlockNext → Type 0
  NextFits (Open x) = Fits x
  NextFits (Whole body) = FitsWord word body

  relocate_fits : (groups : List RelocGroup) (target : ℕ) (done : List ℕ) (owed : ℕ) → GroupsFit groups → OffsetsFit target done (length done + owed) → done ≢ [] → NextFits (relocate groups target done owed)
  relocate_fits groups target done owed g h some = grind (arith, common_steps)

  external_name_fits : (entries : List ExtEntry) (w : ℕ) (done : List ℕ) (owed : ℕ) → ExternalsFit entries → NameFits w done (length done + owed) → refuse_shape (ext_shape (w / 2 ^ 24)) ≡ None → NextFits (name_external entries w done owed)
  external_name_fits entries w done owed g h ok = search rules

  external_more : (entries : List ExtEntry) (w : ℕ) (name : List ℕ) (value : ℕ) (done : List ℕ) → ExternalsFit entries → NameFits w name (length name) → IsLong value → length done < 2 ^ 32 → AreLongs done → FitsShape (ext_shape (w / 2 ^ 24)) (external w name value done) →
      ExternalsFit (entries ++ external w name value done ∷ [])
  external_more entries w name value done g h v c l s = grind (arith, common_steps)

  refer_fits : (entries : List ExtEntry) (w : ℕ) (name : List ℕ) (value : ℕ) (done : List ℕ) (owed : ℕ) → ExternalsFit entries → ReferencesFit w name value → length done + owed < 2 ^ 32 → AreLongs done → NextFits (refer entries w name value done owed)
  refer_fits entries w name value done owed g h c l = search (rules, external_more)

  -- A step at a longword that is not refused keeps what fits.
  pub step_fits : (x : Inside) (w : ℕ) → Fits x → IsLong w → refuse_inside (part_of x) w ≡ None → NextFits (step_inside x w)
  step_fits x w h l ok = grind (arith, common_steps, relocate_fits, external_name_fits, refer_fits)

-- ---- each step adds to the text

external_name_reads : (entries : List ExtEntry) (word : ℕ) (done : List ℕ) (owed : ℕ) → refuse_shape (ext_shape (word / 2 ^ 24)) ≡ None → read_next (name_external entries word done owed) ≡ external_so_far entries word done
external_name_reads entries word done owed ok = search rules

-- Each step adds its longword, as the part that was expected, to the text so far.
pub step_reads : (word : ℕ) (x : Inside) (w : ℕ) → Fits word x → refuse_inside (part_of x) w ≡ None → read_next (step_inside x w) ≡ read_inside x ++ (part_of x, w) ∷ []
step_reads word x w h ok = grind (arith, common_steps, external_name_reads)

pub begin_reads : (k : Kind) → read_next (begin_body k) ≡ []
begin_reads k = search rules
