-- Whatever has been read of a block can be completed, with a zero for each longword that is owed.
use Rattle.std.proofs.Common.{◌≡◌, ℕ, zero, suc, ◌/◌, ◌^◌, List, [], ◌∷◌, ◌++◌, refl, sym, ap, subst, ◌∙◌, append_assoc, append-nil, arith, None, Option, Some}
use Rattle.std.specs.List.{AllByRecursion}
use Rattle.hunk_words.specs.Longs.{IsLong}
use Rattle.hunk_grammar.specs.{declared.ext_shape.ExtShape.ExtShape, declared.ext_shape.ExtShape.TheVariants.{Definition, References, Common}, ExtKinds.ext_shape}
use Rattle.hunk_blocks.specs.Values.{BlockBody, Bss, Reloc, Ext, Symbol, FitsWord, RelocGroup, ExtEntry, SymbolEntry}
use Rattle.hunk_grammar.specs.{BlockParts.Part, Modes.refuse_inside}
use Rattle.hunk_blocks.specs.Parts.{body_parts}
use Rattle.hunk_blocks.specs.BlockSteps.{Counting, ForName, ForCode, ForData, ForBss, Filling, Counted, SizedCode, SizedData, Inside, AtCount, AtSize, InPayload, AtGroup, AtTarget, InOffsets, AtEntry, InName, AtValue, AtExtWord, InExtName, AtExtValue, AtExtSize, AtExtCount, InExtOffsets, BlockNext, Open, Whole, group, entry, external, count_part, part_of, step_inside, fill, filled_body, relocate, name_entry, shaped, name_external, refer, Follows}
use Rattle.hunk_blocks.proofs.{ExtLaws.end_passes, BlockProgress.{read_inside, read_next, NextFits, step_fits, step_reads}}

abbrev PartGoes : Part × ℕ → Type 0
PartGoes p = IsLong p.1 × (refuse_inside p.0 p.1 ≡ None)

abbrev pub IsZero : Part × ℕ → Type 0
IsZero p = p.1 ≡ 0

-- longwords that lead to the end of the block, and are not refused
pub record Completes (n : BlockNext) : Type 0 where
  pub parts : List (Part × ℕ)
  pub body : BlockBody
  pub follows : Follows n parts (Whole body)
  pub go : AllByRecursion PartGoes parts
  pub zeros : AllByRecursion IsZero parts

whole : (b : BlockBody) → Completes (Whole b)
whole b = record { parts = []; body = b; follows = refl; go = tt; zeros = tt }

-- a zero is read
on_zero : (x : Inside) → refuse_inside (part_of x) 0 ≡ None → Completes (step_inside x 0) → Completes (Open x)
on_zero x ok c = record { parts = (part_of x, 0) ∷ c.parts; body = c.body; follows = (refl, c.follows); go = ((omega arith, ok), c.go); zeros = (refl, c.zeros) }

filled : (f : Filling) (done : List ℕ) (owed : ℕ) → Completes (fill f done owed)
filled f done zero = whole (filled_body f done)
filled f done (suc owed) = on_zero (InPayload f done owed) refl (filled f (done ++ 0 ∷ []) owed)

at_group : (groups : List RelocGroup) → Completes (Open (AtGroup groups))
at_group groups = on_zero (AtGroup groups) refl (whole (Reloc groups))

relocated : (groups : List RelocGroup) (target : ℕ) (done : List ℕ) (owed : ℕ) → Completes (relocate groups target done owed)
relocated groups target done zero = at_group (groups ++ group target done ∷ [])
relocated groups target done (suc owed) = on_zero (InOffsets groups target done owed) refl (relocated groups target (done ++ 0 ∷ []) owed)

at_entry : (entries : List SymbolEntry) → Completes (Open (AtEntry entries))
at_entry entries = on_zero (AtEntry entries) refl (whole (Symbol entries))

at_value : (entries : List SymbolEntry) (word : ℕ) (name : List ℕ) → Completes (Open (AtValue entries word name))
at_value entries word name = on_zero (AtValue entries word name) refl (at_entry (entries ++ entry word name 0 ∷ []))

named : (entries : List SymbolEntry) (word : ℕ) (done : List ℕ) (owed : ℕ) → Completes (name_entry entries word done owed)
named entries word done zero = at_value entries word done
named entries word done (suc owed) = on_zero (InName entries word done owed) refl (named entries word (done ++ 0 ∷ []) owed)

-- ---- external entries

at_ext_word : (entries : List ExtEntry) → Completes (Open (AtExtWord entries))
at_ext_word entries = on_zero (AtExtWord entries) end_passes (whole (Ext entries))

referred : (entries : List ExtEntry) (word : ℕ) (name : List ℕ) (value : ℕ) (done : List ℕ) (owed : ℕ) → Completes (refer entries word name value done owed)
referred entries word name value done zero = at_ext_word (entries ++ external word name value done ∷ [])
referred entries word name value done (suc owed) = on_zero (InExtOffsets entries word name value done owed) refl (referred entries word name value (done ++ 0 ∷ []) owed)

at_ext_count : (entries : List ExtEntry) (word : ℕ) (name : List ℕ) (value : ℕ) → Completes (Open (AtExtCount entries word name value))
at_ext_count entries word name value = on_zero (AtExtCount entries word name value) refl (referred entries word name value [] 0)

at_ext_size : (entries : List ExtEntry) (word : ℕ) (name : List ℕ) → Completes (Open (AtExtSize entries word name))
at_ext_size entries word name = on_zero (AtExtSize entries word name) refl (at_ext_count entries word name 0)

at_ext_value : (entries : List ExtEntry) (word : ℕ) (name : List ℕ) → Completes (Open (AtExtValue entries word name))
at_ext_value entries word name = on_zero (AtExtValue entries word name) refl (at_ext_word (entries ++ external word name 0 [] ∷ []))

after_name : (s : Option ExtShape) (entries : List ExtEntry) (word : ℕ) (name : List ℕ) → Completes (shaped s entries word name)
after_name (Some Definition) entries word name = at_ext_value entries word name
after_name (Some References) entries word name = at_ext_count entries word name 0
after_name (Some Common) entries word name = at_ext_size entries word name
after_name None entries word name = at_ext_word entries

ext_named : (entries : List ExtEntry) (word : ℕ) (done : List ℕ) (owed : ℕ) → Completes (name_external entries word done owed)
ext_named entries word done zero = after_name (ext_shape (word / 2 ^ 24)) entries word done
ext_named entries word done (suc owed) = on_zero (InExtName entries word done owed) refl (ext_named entries word (done ++ 0 ∷ []) owed)

-- ---- every place in a block

none_passes : (c : Counting) → refuse_inside (count_part c) 0 ≡ None
none_passes ForName = refl
none_passes _ = refl

pub completes : (x : Inside) → Completes (Open x)
completes (AtCount c) = on_zero (AtCount c) (none_passes c) (filled (Counted c) [] 0)
completes (AtSize ForCode) = on_zero (AtSize ForCode) refl (filled (SizedCode 0) [] 0)
completes (AtSize ForData) = on_zero (AtSize ForData) refl (filled (SizedData 0) [] 0)
completes (AtSize ForBss) = on_zero (AtSize ForBss) refl (whole (Bss 0))
completes (InPayload f done owed) = filled f done (suc owed)
completes (AtGroup groups) = at_group groups
completes (AtTarget groups owed) = on_zero (AtTarget groups owed) refl (relocated groups 0 [] (suc owed))
completes (InOffsets groups target done owed) = relocated groups target done (suc owed)
completes (AtEntry entries) = at_entry entries
completes (InName entries word done owed) = named entries word done (suc owed)
completes (AtValue entries word name) = at_value entries word name
completes (AtExtWord entries) = at_ext_word entries
completes (InExtName entries word done owed) = ext_named entries word done (suc owed)
completes (AtExtValue entries word name) = at_ext_value entries word name
completes (AtExtSize entries word name) = at_ext_size entries word name
completes (AtExtCount entries word name value) = at_ext_count entries word name value
completes (InExtOffsets entries word name value done owed) = referred entries word name value done (suc owed)

-- What is read so is a body that fits, and its text is the longwords.
pub run_fits : (word : ℕ) (n : BlockNext) (ps : List (Part × ℕ)) (b : BlockBody) → NextFits word n → AllByRecursion PartGoes ps → Follows n ps (Whole b) → FitsWord word b × (body_parts b ≡ read_next n ++ ps)
run_fits word n [] b h go follows = (subst (NextFits word) follows h, sym (ap read_next follows) ∙ sym (append-nil (read_next n)))
run_fits word (Whole c) (p ∷ ps) b h go follows = absurd follows
run_fits word (Open x) (p ∷ ps) b h go follows =
    let ok : refuse_inside (part_of x) p.1 ≡ None = ap (λ (part : Part). refuse_inside part p.1) follows.0 ∙ go.0.1 in
    let next = run_fits word (step_inside x p.1) ps b (step_fits word x p.1 h go.0.0 ok) go.1 follows.1 in
    let part : ◌≡◌ {A = Part × ℕ} (part_of x, p.1) p = λ i. (follows.0 i, p.1) in (
      next.0,
      next.1 ∙ ap (λ l. l ++ ps) (step_reads word x p.1 h ok) ∙ append_assoc (read_inside x) ((part_of x, p.1) ∷ []) ps ∙ ap (λ (q : Part × ℕ). read_inside x ++ q ∷ ps) part,
    )
