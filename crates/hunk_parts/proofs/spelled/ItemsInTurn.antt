-- An item of the open list before others.
use Rattle.std.proofs.Common.{◌≡◌, ◌≢◌, ℕ, zero, suc, true, List, ◌∷◌, ◌++◌, refl, sym, ap, subst, ◌∙◌, Option, Some}
use Rattle.std.specs.List.{flat_map}
use Rattle.hunk_words.specs.Bits.{is_relocation}
use Rattle.hunk_words.specs.declared.block_word.Kind.{Kind}
use Rattle.hunk_words.specs.declared.block_word.Kind.TheVariants as kinds
use Rattle.hunk_grammar.specs.declared.object_position.WordPlace.{WordPlace}
use Rattle.hunk_blocks.specs.Values.{BlockBody, RelocGroup, SymbolEntry, ExtEntry, Reloc, Symbol, Ext, IsGroup, IsSymbolEntry, IsExtEntry}
use Rattle.hunk_parts.specs.Parts.{FilePart, block_file_parts, item_parts, of_entry, of_group, of_symbol}
use Rattle.hunk_parts.proofs.spelled.Tails.{FitsBody, FitsOneGroup, IsListOf, Tail}

-- items with this one before them
record More (hunks longs : ℕ) (k : Kind) (q : FilePart) (old : BlockBody) : Type 0 where
  pub body : BlockBody
  pub is : IsListOf k body
  pub fits : FitsBody hunks longs body
  pub parts : q ∷ item_parts old ≡ item_parts body

groups_fit : (hunks longs : ℕ) (g : RelocGroup) (groups : List RelocGroup) → FitsOneGroup hunks longs g → FitsBody hunks longs (Reloc groups) → FitsBody hunks longs (Reloc (g ∷ groups))
groups_fit zero longs g groups fit rest = tt
groups_fit (suc n) longs g groups fit rest = (fit, rest)

no_relocation : (k : Kind) → k ≡ kinds.Symbol → is_relocation k ≡ true → ⊥
no_relocation k is e = let h = rw is at e in cc

neither_kind : kinds.Symbol ≢ kinds.Ext
neither_kind e = cc

no_relocation_either : (k : Kind) → k ≡ kinds.Ext → is_relocation k ≡ true → ⊥
no_relocation_either k is e = let h = rw is at e in cc

more_groups : (hunks longs : ℕ) (k : Kind) (old : BlockBody) (g : RelocGroup) → is_relocation k ≡ true → IsListOf k old → FitsBody hunks longs old → IsGroup g → FitsOneGroup hunks longs g → More hunks longs k (of_group g) old
more_groups hunks longs k (Reloc groups) g rel is old_fits group fit =
    record { body = Reloc (g ∷ groups); is = (rel, (group, is.1)); fits = groups_fit hunks longs g groups fit old_fits; parts = refl }
more_groups hunks longs k (Symbol entries) g rel is old_fits group fit = absurd (no_relocation k is.0 rel)
more_groups hunks longs k (Ext entries) g rel is old_fits group fit = absurd (no_relocation_either k is.0 rel)
more_groups hunks longs k _ g rel is old_fits group fit = absurd is

symbols_fit : (hunks longs : ℕ) (entries : List SymbolEntry) → FitsBody hunks longs (Symbol entries)
symbols_fit zero longs entries = tt
symbols_fit (suc n) longs entries = tt

entries_fit : (hunks longs : ℕ) (entries : List ExtEntry) → FitsBody hunks longs (Ext entries)
entries_fit zero longs entries = tt
entries_fit (suc n) longs entries = tt

more_symbols : (hunks longs : ℕ) (old : BlockBody) (s : SymbolEntry) → IsListOf kinds.Symbol old → IsSymbolEntry s → More hunks longs kinds.Symbol (of_symbol s) old
more_symbols hunks longs (Symbol entries) s is entry =
    record { body = Symbol (s ∷ entries); is = (refl, (entry, is.1)); fits = symbols_fit hunks longs (s ∷ entries); parts = refl }
more_symbols hunks longs (Reloc groups) s is entry = absurd (no_relocation kinds.Symbol refl is.0)
more_symbols hunks longs (Ext entries) s is entry = absurd (neither_kind is.0)
more_symbols hunks longs _ s is entry = absurd is

more_entries : (hunks longs : ℕ) (old : BlockBody) (e : ExtEntry) → IsListOf kinds.Ext old → IsExtEntry e → More hunks longs kinds.Ext (of_entry e) old
more_entries hunks longs (Ext entries) e is entry =
    record { body = Ext (e ∷ entries); is = (refl, (entry, is.1)); fits = entries_fit hunks longs (e ∷ entries); parts = refl }
more_entries hunks longs (Reloc groups) e is entry = absurd (no_relocation_either kinds.Ext refl is.0)
more_entries hunks longs (Symbol entries) e is entry = absurd (neither_kind (sym is.0))
more_entries hunks longs _ e is entry = absurd is

-- ---- before a tail

module _ (hunks longs : ℕ) (place : WordPlace) (qs rest : List FilePart) where
  -- the tail with this item before it
  with_item : (k : Kind) (q : FilePart) (t : Tail hunks longs place (Some k) qs rest) → More hunks longs k q t.items → Tail hunks longs place (Some k) (q ∷ qs) rest
  with_item k q t m = record {
    items = m.body;
    are_items = (m.is, m.fits);
    blocks = t.blocks;
    are_blocks = t.are_blocks;
    stand = t.stand;
    parts = ap (λ (xs : List FilePart). q ∷ xs) t.parts ∙ ap (λ (xs : List FilePart). xs ++ (flat_map block_file_parts t.blocks ++ rest)) m.parts;
  }

  pub group_first : (list : Option Kind) (k : Kind) (g : RelocGroup) → list ≡ Some k → is_relocation k ≡ true → IsGroup g → FitsOneGroup hunks longs g →
      Tail hunks longs place list qs rest → Tail hunks longs place list (of_group g ∷ qs) rest
  group_first list k g is rel group fit = subst (λ (l : Option Kind). Tail hunks longs place l qs rest → Tail hunks longs place l (of_group g ∷ qs) rest) (sym is)
      (λ t. with_item k (of_group g) t (more_groups hunks longs k t.items g rel t.are_items.0 t.are_items.1 group fit))

  pub symbol_first : (list : Option Kind) (s : SymbolEntry) → list ≡ Some kinds.Symbol → IsSymbolEntry s → Tail hunks longs place list qs rest → Tail hunks longs place list (of_symbol s ∷ qs) rest
  symbol_first list s is entry = subst (λ (l : Option Kind). Tail hunks longs place l qs rest → Tail hunks longs place l (of_symbol s ∷ qs) rest) (sym is)
      (λ t. with_item kinds.Symbol (of_symbol s) t (more_symbols hunks longs t.items s t.are_items.0 entry))

  pub entry_first : (list : Option Kind) (e : ExtEntry) → list ≡ Some kinds.Ext → IsExtEntry e → Tail hunks longs place list qs rest → Tail hunks longs place list (of_entry e ∷ qs) rest
  entry_first list e is entry = subst (λ (l : Option Kind). Tail hunks longs place l qs rest → Tail hunks longs place l (of_entry e ∷ qs) rest) (sym is)
      (λ t. with_item kinds.Ext (of_entry e) t (more_entries hunks longs t.items e t.are_items.0 entry))
