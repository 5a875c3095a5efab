-- The text of the parts of a block is its text.
use Rattle.std.proofs.Common.{◌≡◌, ℕ, ◌+◌, ◌*◌, true, List, [], ◌∷◌, ◌++◌, length, map, refl, sym, ap, ap₂, ◌∙◌, append_assoc, arith, Option, Some, None}
use Rattle.std.specs.Prelude.{⊤}
use Rattle.std.specs.List.{AllByRecursion, flat_map}
use Rattle.hunk_words.specs.Bits.{entry_type, is_relocation, kind, name_longs}
use Rattle.hunk_words.specs.Limits.{name_limit}
use Rattle.hunk_words.specs.declared.block_word.Kind.{Kind}
use Rattle.hunk_words.specs.declared.block_word.Kind.TheVariants as kinds
use Rattle.hunk_grammar.specs.declared.ext_shape.ExtShape.{ExtShape}
use Rattle.hunk_grammar.specs.declared.ext_shape.ExtShape.TheVariants.{Definition, References, Common}
use Rattle.hunk_grammar.specs.ExtKinds.{ext_shape}
use Rattle.hunk_blocks.specs.Entries.{shaped_text}
use Rattle.hunk_blocks.specs.Parts.{block_text, ext_text, group_text, symbol_text, text_of}
use Rattle.hunk_blocks.specs.Values.{BlockBody, BlockValue, ExtEntry, RelocGroup, SymbolEntry, Name, Code, Data, Bss, Reloc, Ext, Symbol, Debug, Advisory, End, FitsWord, IsBlock, IsEntryWord, IsExtEntry, IsSymbolEntry, ext_type, is_unknown}
use Rattle.hunk_blocks.proofs.PartTexts.{body_text_is, ext_text_is, group_text_is, symbol_text_is}
use Rattle.hunk_parts.specs.Parts.{FilePart, block_file_parts, entry_part, group_part, item_parts, of_block, of_entry, of_group, of_symbol, symbol_part}
use Rattle.hunk_parts.specs.RowsText.{closing, part_text, payload_text, shape_text, text_from}
use Rattle.hunk_parts.proofs.spelled.BlockBodies.{list_of}

-- ---- items

-- No zero stands before an item.
not_closed : (list : Option Kind) → (closing list group_part ≡ []) × (closing list symbol_part ≡ []) × (closing list entry_part ≡ [])
not_closed None = (refl, refl, refl)
not_closed (Some k) = (refl, refl, refl)

-- the longword in front of a name
word_is : (word : ℕ) (name : List ℕ) → length name ≡ name_longs word → entry_type word * name_limit + length name ≡ word
word_is word name count = omega (arith, count)

group_part_text : (g : RelocGroup) → part_text (of_group g) ≡ group_text g
group_part_text g = sym (group_text_is g)

symbol_part_text : (s : SymbolEntry) → IsEntryWord s.word s.name → part_text (of_symbol s) ≡ symbol_text s
symbol_part_text s h = ap (λ (w : ℕ). w ∷ (s.name ++ s.value ∷ [])) (word_is s.word s.name h.count) ∙ sym (symbol_text_is s)

shape_text_is : (o : Option ExtShape) (e : ExtEntry) → shape_text o (of_entry e) ≡ shaped_text o (e.value, e.offsets)
shape_text_is (Some Definition) e = refl
shape_text_is (Some References) e = refl
shape_text_is (Some Common) e = refl
shape_text_is None e = refl

entry_part_text : (e : ExtEntry) → IsEntryWord e.word e.name → part_text (of_entry e) ≡ ext_text e
entry_part_text e h =
    ap₂ (λ (w : ℕ) (ws : List ℕ). w ∷ (e.name ++ ws)) (word_is e.word e.name h.count) (shape_text_is (ext_shape (ext_type e)) e) ∙ sym (ext_text_is e)

-- items one after the other
module _ {A : Type 0} (Is : A → Type 0) (of : A → FilePart) (text : A → List ℕ) (list : Option Kind) where
  each_text : ((x : A) (qs : List FilePart) → Is x → text_from list (of x ∷ qs) ≡ text x ++ text_from list qs) → (xs : List A) (rest : List FilePart) → AllByRecursion Is xs →
      text_from list (map of xs ++ rest) ≡ flat_map text xs ++ text_from list rest
  each_text one [] rest h = refl
  each_text one (x ∷ xs) rest h =
      one x (map of xs ++ rest) h.0 ∙ ap (λ (ws : List ℕ). text x ++ ws) (each_text one xs rest h.1) ∙ sym (append_assoc (text x) (flat_map text xs) (text_from list rest))

any : {A : Type 0} (Is : A → Type 0) (xs : List A) → ((x : A) → Is x) → AllByRecursion Is xs
any Is [] all = tt
any Is (x ∷ xs) all = (all x, any Is xs all)

module _ (list : Option Kind) where
  one_group : (g : RelocGroup) (qs : List FilePart) → text_from list (of_group g ∷ qs) ≡ group_text g ++ text_from list qs
  one_group g qs = ap (λ (ws : List ℕ). (ws ++ part_text (of_group g)) ++ text_from list qs) (not_closed list).0 ∙ ap (λ (ws : List ℕ). ws ++ text_from list qs) (group_part_text g)

  one_symbol : (s : SymbolEntry) (qs : List FilePart) → IsSymbolEntry s → text_from list (of_symbol s ∷ qs) ≡ symbol_text s ++ text_from list qs
  one_symbol s qs is = ap (λ (ws : List ℕ). (ws ++ part_text (of_symbol s)) ++ text_from list qs) (not_closed list).1 ∙ ap (λ (ws : List ℕ). ws ++ text_from list qs) (symbol_part_text s is.entry_word)

  one_entry : (e : ExtEntry) (qs : List FilePart) → IsExtEntry e → text_from list (of_entry e ∷ qs) ≡ ext_text e ++ text_from list qs
  one_entry e qs is = ap (λ (ws : List ℕ). (ws ++ part_text (of_entry e)) ++ text_from list qs) (not_closed list).2 ∙ ap (λ (ws : List ℕ). ws ++ text_from list qs) (entry_part_text e is.entry_word)

-- ---- the body

-- A zero ends the list that is open before these parts.
abbrev pub Ends : Kind → List FilePart → Type 0
Ends k rest = list_of k ≡ Some k → text_from (Some k) rest ≡ 0 ∷ text_from None rest

pub relocating_list : (k : Kind) → is_relocation k ≡ true → list_of k ≡ Some k
relocating_list kinds.Unit h = absurd cc
relocating_list _ h = cc

no_payload : (k : Kind) (q : FilePart) → is_relocation k ≡ true → payload_text k q ≡ []
no_payload kinds.Unit q h = absurd cc
no_payload _ q h = cc

unknown_payload : (k : Kind) (q : FilePart) → is_unknown k ≡ true → (payload_text k q ≡ (q.value + length q.content) ∷ q.content) × (list_of k ≡ None)
unknown_payload (kinds.Unknown n) q h = (refl, refl)
unknown_payload kinds.Unit q h = absurd cc
unknown_payload _ q h = absurd cc

-- ---- by the kind of the word

pub no_sum : (words : List ℕ) → (0 + length words) ∷ words ≡ length words ∷ words
no_sum words = ap (λ (n : ℕ). n ∷ words) (omega arith)

module _ (word : ℕ) (rest : List FilePart) (ends : Ends (kind word) rest) where
  abbrev this : BlockBody → FilePart
  this body = of_block (record { word = word; body = body })

  -- What follows the word of a block with this body is its text.
  abbrev Spells : BlockBody → Type 0
  Spells body = payload_text (kind word) (this body) ++ text_from (list_of (kind word)) (item_parts body ++ rest) ≡ text_of body ++ text_from None rest

  no_list : (body : BlockBody) (k : Kind) → kind word ≡ k → payload_text k (this body) ≡ text_of body → list_of k ≡ None → item_parts body ≡ [] → Spells body
  no_list body k is payload none items =
      ap (λ (x : Kind). payload_text x (this body) ++ text_from (list_of x) (item_parts body ++ rest)) is
      ∙ ap₂ (λ (ws : List ℕ) (l : Option Kind). ws ++ text_from l (item_parts body ++ rest)) payload none
      ∙ ap (λ (qs : List FilePart). text_of body ++ text_from None (qs ++ rest)) items

  a_list : (body : BlockBody) (items : List ℕ) → list_of (kind word) ≡ Some (kind word) → payload_text (kind word) (this body) ≡ [] →
      text_from (Some (kind word)) (item_parts body ++ rest) ≡ items ++ text_from (Some (kind word)) rest → items ++ 0 ∷ [] ≡ text_of body → Spells body
  a_list body items is none each text =
      ap₂ (λ (ws : List ℕ) (l : Option Kind). ws ++ text_from l (item_parts body ++ rest)) none is
      ∙ each
      ∙ ap (λ (ws : List ℕ). items ++ ws) (ends is)
      ∙ sym (append_assoc items (0 ∷ []) (text_from None rest))
      ∙ ap (λ (ws : List ℕ). ws ++ text_from None rest) text

  body_spells : (body : BlockBody) → FitsWord word body → Spells body
  body_spells (Name words) h = no_list (Name words) kinds.Name h.0 (no_sum words) refl refl
  body_spells (Code top words) h = no_list (Code top words) kinds.Code h.0 (ap (λ (n : ℕ). n ∷ words) (omega arith)) refl refl
  body_spells (Data top words) h = no_list (Data top words) kinds.Data h.0 (ap (λ (n : ℕ). n ∷ words) (omega arith)) refl refl
  body_spells (Bss size) h = no_list (Bss size) kinds.Bss h.0 (ap (λ (n : ℕ). n ∷ []) (omega arith)) refl refl
  body_spells (Debug words) h = no_list (Debug words) kinds.Debug h.0 (no_sum words) refl refl
  body_spells (Advisory words) h = let u = unknown_payload (kind word) (this (Advisory words)) h.0 in no_list (Advisory words) (kind word) refl (u.0 ∙ no_sum words) u.1 refl
  body_spells End h = no_list End kinds.End h refl refl refl
  body_spells (Reloc groups) h = a_list (Reloc groups) (flat_map group_text groups) (relocating_list (kind word) h.0) (no_payload (kind word) (this (Reloc groups)) h.0)
      (each_text (λ g. ⊤) of_group group_text (Some (kind word)) (λ g qs k. one_group (Some (kind word)) g qs) groups rest (any (λ g. ⊤) groups (λ g. tt))) refl
  body_spells (Symbol entries) h = a_list (Symbol entries) (flat_map symbol_text entries) (rw h.0 refl) (rw h.0 refl)
      (each_text IsSymbolEntry of_symbol symbol_text (Some (kind word)) (one_symbol (Some (kind word))) entries rest h.1) refl
  body_spells (Ext entries) h = a_list (Ext entries) (flat_map ext_text entries) (rw h.0 refl) (rw h.0 refl)
      (each_text IsExtEntry of_entry ext_text (Some (kind word)) (one_entry (Some (kind word))) entries rest h.1) refl

-- The parts of a block spell its text.
pub block_spells : (b : BlockValue) (rest : List FilePart) → IsBlock b → Ends (kind b.word) rest → text_from None (block_file_parts b ++ rest) ≡ block_text b ++ text_from None rest
block_spells b rest is ends =
    ap (λ (ws : List ℕ). b.word ∷ ws) (body_spells b.word rest ends b.body is.body ∙ ap (λ (ws : List ℕ). ws ++ text_from None rest) (sym (body_text_is b.body)))
