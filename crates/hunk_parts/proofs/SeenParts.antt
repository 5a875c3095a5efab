-- The rows of a file, seen in its bytes, are its parts.
use Rattle.std.proofs.Common.{◌≡◌, ℕ, ◌+◌, ◌-◌, ◌*◌, List, [], ◌∷◌, ◌++◌, length, map, drop, refl, sym, ap, ap₂, subst, ◌∙◌, append-nil, append_assoc, arith, Option, Some, None}
use Rattle.std.specs.Bool.{⊤}
use Rattle.std.specs.List.{AllByRecursion, flat_map}
use Rattle.std.proofs.lemmas.List.{length-append}
use Rattle.hunk_words.specs.Longs.{bytes_of}
use Rattle.hunk_grammar.specs.declared.ext_shape.ExtShape.{ExtShape}
use Rattle.hunk_grammar.specs.declared.ext_shape.ExtShape.TheVariants.{Definition, References, Common}
use Rattle.hunk_grammar.specs.ExtKinds.{ext_shape}
use Rattle.hunk_blocks.specs.Entries.{shaped_text}
use Rattle.hunk_blocks.specs.Parts.{block_text, ext_text, group_text, list_text, symbol_text, text_of}
use Rattle.hunk_blocks.specs.Values.{BlockBody, BlockValue, Name, Code, Data, Reloc, RelocGroup, Symbol, SymbolEntry, Ext, ExtEntry, Debug, Advisory, FitsShape, FitsWord, IsBlock, IsExtEntry, ext_type}
use Rattle.hunk_blocks.proofs.{PartTexts.{body_text_is, ext_text_is, group_text_is, symbol_text_is}}
use Rattle.hunk_files.specs.Hunks.{block_texts}
use Rattle.hunk_files.specs.HunkFile.{IsFileOf}
use Rattle.hunk_files.specs.LoadFile.{HunkValue, IsHunk, IsLoadFile, LoadFileValue, declared_longs}
use Rattle.hunk_files.specs.ObjectFile.{IsObjectFile, IsObjectHunk, IsUnit, ObjectFileValue, UnitValue, object_text, unit_header, unit_text}
use Rattle.hunk_files.specs.Tables.{header_text}
use Rattle.hunk_files.specs.declared.hunk_file.HunkFile.{HunkFile}
use Rattle.hunk_files.specs.declared.hunk_file.HunkFile.TheVariants as files
use Rattle.hunk_files.proofs.{cuts.OneReading.are_blocks, cuts.TableReading.hunks_follow, cuts.UnitReading.object_longs, views.BlocksInPlace.texts_longs}
use Rattle.hunk_parts.specs.Listing.{item_rows}
use Rattle.hunk_parts.specs.PartRows.{block_rows, blocks_rows, entry_row, group_row, hunk_rows, items_rows, load_rows, object_rows, part_rows, payload_place, symbol_row, unit_rows}
use Rattle.hunk_parts.specs.Parts.{FilePart, block_file_parts, hunk_file_parts, item_parts, of_block, of_entry, of_group, of_hunk, of_symbol, of_unit, parts_of, payload_of, seen, unit_file_parts}
use Rattle.hunk_parts.specs.declared.part_row.PartRow.{PartRow}
use Rattle.hunk_parts.proofs.Standing.{StandAt, all_longs, all_seen, front_stands, none_stand, part_seen, rest_stands}

-- a list by its parts
ones : {A B : Type 0} (f : A → B) (xs : List A) → flat_map (λ x. f x ∷ []) xs ≡ map f xs
ones f [] = refl
ones f (x ∷ xs) = ap (λ ys. f x ∷ ys) (ones f xs)

-- the text of an entry ends with its offsets
shaped : (s : Option ExtShape) (e : ExtEntry) → FitsShape s e → (front : List ℕ) × (shaped_text s (e.value, e.offsets) ≡ front ++ e.offsets)
shaped None e fits = absurd fits
shaped (Some Definition) e fits = (e.value ∷ [], ap (λ (os : List ℕ). e.value ∷ os) (sym fits))
shaped (Some References) e fits = (length e.offsets ∷ [], refl)
shaped (Some Common) e fits = (e.value ∷ length e.offsets ∷ [], refl)

ends_with : (e : ExtEntry) → IsExtEntry e → (front : List ℕ) × (ext_text e ≡ front ++ e.offsets)
ends_with e is =
    let s = shaped (ext_shape (ext_type e)) e is.shape in
    (e.word ∷ e.name ++ s.0, ext_text_is e ∙ ap (λ (ws : List ℕ). e.word ∷ e.name ++ ws) s.1 ∙ ap (λ (ws : List ℕ). e.word ∷ ws) (sym (append_assoc e.name s.0 e.offsets)))

module _ (bytes : List ℕ) where
  abbrev AreSeen : List PartRow → List FilePart → Type 0
  AreSeen rows parts = map (seen bytes) rows ≡ map Some parts

  -- ---- items

  group_seen : (place : ℕ) (g : RelocGroup) → ⊤ → StandAt bytes place (group_text g) → AreSeen (group_row place g ∷ []) (of_group g ∷ [])
  group_seen place g is s =
      let words = subst (StandAt bytes place) (group_text_is g) s in
      ap (λ p. p ∷ []) (part_seen bytes 0 (place + 8) (of_group g) (none_stand bytes 0) (rest_stands bytes place (length g.offsets ∷ g.target ∷ []) g.offsets words))

  symbol_seen : (place : ℕ) (e : SymbolEntry) → ⊤ → StandAt bytes place (symbol_text e) → AreSeen (symbol_row place e ∷ []) (of_symbol e ∷ [])
  symbol_seen place e is s =
      let after = rest_stands bytes place (e.word ∷ []) (e.name ++ e.value ∷ []) (subst (StandAt bytes place) (symbol_text_is e) s) in
      ap (λ p. p ∷ []) (part_seen bytes (place + 4) 0 (of_symbol e) (front_stands bytes (place + 4) e.name (e.value ∷ []) after) (none_stand bytes 0))

  entry_seen : (place : ℕ) (e : ExtEntry) → IsExtEntry e → StandAt bytes place (ext_text e) → AreSeen (entry_row place e ∷ []) (of_entry e ∷ [])
  entry_seen place e is s =
      let shape = shaped_text (ext_shape (ext_type e)) (e.value, e.offsets) in
      let after = rest_stands bytes place (e.word ∷ []) (e.name ++ shape) (subst (StandAt bytes place) (ext_text_is e) s) in
      let end = ends_with e is in
      let offsets = rest_stands bytes place end.0 e.offsets (subst (StandAt bytes place) end.1 s) in
      let at : place + 4 * length end.0 ≡ place + 4 * length (ext_text e) - 4 * length e.offsets = omega (arith, ap (λ (ws : List ℕ). length ws) end.1, length-append end.0 e.offsets) in
      ap (λ p. p ∷ [])
      (part_seen bytes (place + 4) (place + 4 * length (ext_text e) - 4 * length e.offsets) (of_entry e) (front_stands bytes (place + 4) e.name shape after) (subst (λ (n : ℕ). StandAt bytes n e.offsets) at offsets))

  list_seen : {A : Type 0} (row : ℕ → A → PartRow) (text : A → List ℕ) (of : A → FilePart) (Is : A → Type 0) → ((place : ℕ) (x : A) → Is x → StandAt bytes place (text x) → AreSeen (row place x ∷ []) (of x ∷ [])) →
      (place : ℕ) (xs : List A) → AllByRecursion Is xs → StandAt bytes place (list_text text xs) → AreSeen (item_rows row text place xs) (map of xs)
  list_seen row text of Is each place xs are s =
      all_seen text Is bytes (λ n x. row n x ∷ []) (λ x. of x ∷ []) each place xs are (front_stands bytes place (flat_map text xs) (0 ∷ []) s) ∙ ap (map Some) (ones of xs)

  any : {A : Type 0} (xs : List A) → AllByRecursion (λ x. ⊤) xs
  any [] = tt
  any (x ∷ xs) = (tt, any xs)

  items_seen : (place word : ℕ) (body : BlockBody) → FitsWord word body → StandAt bytes place (text_of body) → AreSeen (items_rows place body) (item_parts body)
  items_seen place word (Reloc groups) fits s = list_seen group_row group_text of_group (λ g. ⊤) group_seen place groups (any groups) s
  items_seen place word (Symbol entries) fits s = list_seen symbol_row symbol_text of_symbol (λ e. ⊤) symbol_seen place entries (any entries) s
  items_seen place word (Ext entries) fits s = list_seen entry_row ext_text of_entry IsExtEntry entry_seen place entries fits.1 s
  items_seen place word _ fits s = refl

  -- ---- blocks

  payload_stands : (place word : ℕ) (body : BlockBody) → StandAt bytes place (word ∷ text_of body) → StandAt bytes (payload_place place (payload_of body)) ((of_block (record { word = word; body = body })).content)
  payload_stands place word (Name ws) s = rest_stands bytes place (word ∷ length ws ∷ []) ws s
  payload_stands place word (Code top ws) s = rest_stands bytes place (word ∷ _ ∷ []) ws s
  payload_stands place word (Data top ws) s = rest_stands bytes place (word ∷ _ ∷ []) ws s
  payload_stands place word (Debug ws) s = rest_stands bytes place (word ∷ length ws ∷ []) ws s
  payload_stands place word (Advisory ws) s = rest_stands bytes place (word ∷ length ws ∷ []) ws s
  payload_stands place word _ s = none_stand bytes 0

  block_seen : (place : ℕ) (b : BlockValue) → IsBlock b → StandAt bytes place (block_text b) → AreSeen (block_rows place b) (block_file_parts b)
  block_seen place b is s =
      let text = subst (λ (ws : List ℕ). StandAt bytes place (b.word ∷ ws)) (body_text_is b.body) s in
      ap₂ (λ (p : Option FilePart) (ps : List (Option FilePart)). p ∷ ps)
      (part_seen bytes (payload_place place (payload_of b.body)) 0 (of_block b) (payload_stands place b.word b.body text) (none_stand bytes 0))
      (items_seen (place + 4) b.word b.body is.body (rest_stands bytes place (b.word ∷ []) (text_of b.body) text))

  blocks_seen : (place : ℕ) (bs : List BlockValue) → AllByRecursion IsBlock bs → StandAt bytes place (block_texts bs) → AreSeen (blocks_rows place bs) (flat_map block_file_parts bs)
  blocks_seen = all_seen block_text IsBlock bytes block_rows block_file_parts block_seen

  -- ---- hunks and units

  hunk_seen : (most place : ℕ) (h : HunkValue) → IsHunk most h → StandAt bytes place (block_texts h.blocks) → AreSeen (hunk_rows place h) (hunk_file_parts h)
  hunk_seen most place h is s =
      ap₂ (λ (p : Option FilePart) (ps : List (Option FilePart)). p ∷ ps) (part_seen bytes 0 0 (of_hunk h.entry) (none_stand bytes 0) (none_stand bytes 0))
      (blocks_seen place h.blocks (are_blocks most (declared_longs h) h.blocks is.blocks) s)

  unit_seen : (place : ℕ) (u : UnitValue) → IsUnit u → StandAt bytes place (unit_text u) → AreSeen (unit_rows place u) (unit_file_parts u)
  unit_seen place u is s =
      let hunks = flat_map block_texts u.hunks in
      let name = rest_stands bytes place (_ ∷ length u.name ∷ []) u.name (front_stands bytes place (unit_header u.name) hunks s) in
      ap₂ (λ (p : Option FilePart) (ps : List (Option FilePart)). p ∷ ps) (part_seen bytes (place + 8) 0 (of_unit u.name) name (none_stand bytes 0))
      (
      all_seen block_texts IsObjectHunk bytes blocks_rows (flat_map block_file_parts) (λ n h are. blocks_seen n h are.blocks) (place + 4 * length (unit_header u.name)) u.hunks is.hunks
      (rest_stands bytes place (unit_header u.name) hunks s)
      )

  -- ---- files

  load_seen : (v : LoadFileValue) (rest : List ℕ) → IsLoadFile v → drop (4 * length (header_text v)) bytes ≡ bytes_of (flat_map (λ (h : HunkValue). block_texts h.blocks) v) ++ rest →
      AreSeen (load_rows v) (flat_map hunk_file_parts v)
  load_seen v rest is follow =
      let texts = λ (h : HunkValue). block_texts h.blocks in
      all_seen texts (IsHunk (length v)) bytes hunk_rows hunk_file_parts (hunk_seen (length v)) (4 * length (header_text v)) v is.each (record {
        are_longs = all_longs texts (IsHunk (length v)) (λ h ok. texts_longs h.blocks (are_blocks (length v) (declared_longs h) h.blocks ok.blocks)) v is.each;
        rest = rest;
        text = follow;
      })

  object_seen : (v : ObjectFileValue) → IsObjectFile v → bytes ≡ bytes_of (object_text v) → AreSeen (object_rows v) (flat_map unit_file_parts v)
  object_seen v is text =
      all_seen unit_text IsUnit bytes unit_rows unit_file_parts unit_seen 0 v is.units
      (record { are_longs = object_longs v is.units; rest = []; text = text ∙ sym (append-nil (bytes_of (object_text v))) })

pub file_parts : (bytes : List ℕ) (file : HunkFile) → IsFileOf bytes file → map (seen bytes) (part_rows file) ≡ map Some (parts_of file)
unfolding parts_of
file_parts bytes (files.Load v n) is =
    ap (λ (w : LoadFileValue). map (seen bytes) (load_rows w)) is.1
    ∙ load_seen bytes is.0.value is.0.rest is.0.is_load_file (hunks_follow bytes is.0)
    ∙ ap (λ (w : LoadFileValue). map Some (flat_map hunk_file_parts w)) (sym is.1)
file_parts bytes (files.Object v) is =
    ap (λ (w : ObjectFileValue). map (seen bytes) (object_rows w)) is.1
    ∙ object_seen bytes is.0.value is.0.is_object_file is.0.text_is
    ∙ ap (λ (w : ObjectFileValue). map Some (flat_map unit_file_parts w)) (sym is.1)
