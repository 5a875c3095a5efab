-- An item that is not refused is one of the open list.
use Rattle.std.proofs.Common.{◌≡◌, ℕ, true, List, ◌∷◌, sym, ap, ap₂, subst, Option, Some, None}
use Rattle.std.proofs.lemmas.Bool.{eqb-true}
use Rattle.hunk_words.specs.declared.block_word.Kind.{Kind}
use Rattle.hunk_grammar.specs.ExtKinds.{ext_shape}
use Rattle.hunk_grammar.specs.declared.ext_shape.ExtShape.{ExtShape}
use Rattle.hunk_grammar.specs.declared.ext_shape.ExtShape.TheVariants.{Definition, References, Common}
use Rattle.hunk_grammar.specs.declared.object_position.WordPlace.{WordPlace}
use Rattle.hunk_blocks.specs.Values.{SymbolEntry, ExtEntry, FitsShape, IsExtEntry, ext_type}
use Rattle.hunk_parts.specs.PartFaults.{fits_shape, refuse_row, size_of_part}
use Rattle.hunk_parts.specs.Parts.{FilePart, entry_part, group_part, part, symbol_part}
use Rattle.hunk_parts.proofs.spelled.EntryWords.{is_entry_word, type_is_byte, type_of}
use Rattle.hunk_parts.proofs.spelled.ItemTests.{entry_passes, group, group_passes, name_word, symbol_passes}
use Rattle.hunk_parts.proofs.spelled.ItemsInTurn.{entry_first, group_first, symbol_first}
use Rattle.hunk_parts.proofs.spelled.PartTests.{no_longs}
use Rattle.hunk_parts.proofs.spelled.Passing.{spot}
use Rattle.hunk_parts.proofs.spelled.Tails.{HasLongs, Tail}

abbrev symbol : ℕ → ℕ → List ℕ → SymbolEntry
symbol top value name = record { word = name_word top name; name = name; value = value }

abbrev entry : ℕ → ℕ → List ℕ → List ℕ → ExtEntry
entry top value name offsets = record { word = name_word top name; name = name; value = value; offsets = offsets }

shape_fits : (o : Option ExtShape) (e : ExtEntry) (what word : ℕ) → fits_shape o (size_of_part (part what word e.value e.name e.offsets)) ≡ true → FitsShape o e
shape_fits (Some Definition) e what word h = no_longs e.offsets h
shape_fits (Some References) e what word h = eqb-true e.value 0 h
shape_fits (Some Common) e what word h = tt
shape_fits None e what word h = absurd cc

module _ (hunks longs : ℕ) (place : WordPlace) (list : Option Kind) (word value : ℕ) (content offsets : List ℕ) (qs rest : List FilePart) where
  -- the same before a part that is not refused
  abbrev InFront : ℕ → Type 0
  InFront what =
      refuse_row (spot hunks longs place list) (Some (part what word value content offsets)) ≡ None → HasLongs (part what word value content offsets) →
      Tail hunks longs place list qs rest → Tail hunks longs place list (part what word value content offsets ∷ qs) rest

  abbrev begins : FilePart → Type 0
  begins q = Tail hunks longs place list (q ∷ qs) rest

  pub group_in_front : InFront group_part
  group_in_front e fit t =
      let h = group_passes hunks longs place list word value content offsets e in
      subst begins (ap₂ (λ (v : ℕ) (c : List ℕ). part group_part word v c offsets) (sym h.value_is) (sym h.content_is))
      (group_first hunks longs place qs rest list h.list_kind (group word offsets) h.open_list h.relocates (record { some = h.some; target = fit.word; offsets = (h.few, fit.offsets) }) h.fits t)

  pub symbol_in_front : InFront symbol_part
  symbol_in_front e fit t =
      let h = symbol_passes hunks longs place list word value content offsets e in
      subst begins (ap₂ (λ (w : ℕ) (os : List ℕ). part symbol_part w value content os) (type_of word content h.name.short) (sym h.offsets_are))
      (symbol_first hunks longs place qs rest list (symbol word value content) h.open_list (record { entry_word = is_entry_word word content h.byte h.name fit.content; value = fit.value }) t)

  pub entry_in_front : InFront entry_part
  entry_in_front e fit t =
      let h = entry_passes hunks longs place list word value content offsets e in
      let x : ExtEntry = entry word value content offsets in
      let top : ext_type x ≡ word = type_of word content h.name.short in
      let is : IsExtEntry x = record {
        entry_word = is_entry_word word content (type_is_byte word h.accepted) h.name fit.content;
        value = fit.value;
        offsets = (h.few, fit.offsets);
        shape = subst (λ (n : ℕ). FitsShape (ext_shape n) x) (sym top) (shape_fits (ext_shape word) x entry_part word h.shape);
      } in
      subst begins (ap (λ (w : ℕ). part entry_part w value content offsets) top) (entry_first hunks longs place qs rest list x h.open_list is t)
