-- Findings with their places: without them they are the findings, and the place is that of the offset.
use Rattle.std.proofs.Common.{rules, ◌≡◌, ℕ, ◌+◌, ◌*◌, List, [], ◌∷◌, ◌++◌, length, map, refl, sym, ap, ap₂, ◌∙◌, append_assoc, length-append, arith, Some}
use Rattle.std.specs.List.{flat_map}
use Rattle.std.proofs.lemmas.List.{map-append}
use Rattle.hunk_words.specs.Bits.{kind}
use Rattle.hunk_blocks.specs.{Parts.{block_text, ext_text, group_text}, Placed.{GivesFirst, Placed}}
use Rattle.hunk_blocks.specs.Values.{BlockBody, Reloc, Ext}
use Rattle.hunk_files.specs.Findings.{FindingValue, HunkContext, body_findings, entry_findings, findings, group_findings, hunk_bytes, hunk_findings, hunks_findings, outside, reference_width, relocation_findings, relocation_width, units_findings}
use Rattle.hunk_files.specs.ObjectFile.{ObjectFileValue, ObjectHunk, UnitValue, unit_header, unit_text}
use Rattle.hunk_files.specs.Items.{ItemValue, UnitItem, HunkItem, BlockItem, blocks_items, hunks_items, item_text, units_items}
use Rattle.hunk_files.specs.PlacedFindings.{PlacedFinding, block_findings_at, body_findings_at, entry_findings_at, group_findings_at, hunk_findings_at, hunks_findings_at, in_turn, offsets_findings_at, placed_findings, standing_at, unit_findings_at, units_findings_at}
use Rattle.hunk_files.specs.{Hunks.block_texts, InPlace.GivesPart}

-- ---- without places

abbrev values : List PlacedFinding → List FindingValue
values placed = map (λ f. f.value) placed

values_standing : (place : ℕ) (found : List FindingValue) → values (standing_at place found) ≡ found
values_standing place [] = refl
values_standing place (f ∷ found) = ap (λ (fs : List FindingValue). f ∷ fs) (values_standing place found)

values_append : (xs ys : List PlacedFinding) → values (xs ++ ys) ≡ values xs ++ values ys
values_append xs ys = map-append (λ f. f.value) xs ys

values_in_turn : {A : Type 0} (found : ℕ → A → List PlacedFinding) (plain : A → List FindingValue) (text : A → List ℕ) → ((place : ℕ) (x : A) → values (found place x) ≡ plain x) →
    (place : ℕ) (xs : List A) → values (in_turn found text place xs) ≡ flat_map plain xs
values_in_turn found plain text same place [] = refl
values_in_turn found plain text same place (x ∷ xs) =
    let next = place + 4 * length (text x) in
    values_append (found place x) (in_turn found text next xs)
    ∙ ap₂ (λ (fs gs : List FindingValue). fs ++ gs) (same place x) (values_in_turn found plain text same next xs)

values_offsets : (found : ℕ → List FindingValue) (place : ℕ) (offsets : List ℕ) → values (offsets_findings_at found place offsets) ≡ flat_map found offsets
values_offsets found place offsets = values_in_turn (λ place offset. standing_at place (found offset)) found (λ offset. offset ∷ []) (λ place offset. values_standing place (found offset)) place offsets

values_body : (s : HunkContext) (place word : ℕ) (body : BlockBody) → values (body_findings_at s place word body) ≡ body_findings s word body
values_body s place word (Reloc groups) =
    let width = relocation_width (kind word) in
    values_in_turn (group_findings_at s width) (group_findings s width) group_text (λ place g. values_offsets (relocation_findings s width g.target) (place + 8) g.offsets) (place + 4) groups
values_body s place word (Ext entries) =
    values_in_turn (λ place e. entry_findings_at s (place + 4 * length (ext_text e)) e) (entry_findings s) ext_text (λ place e. values_offsets (outside s (reference_width e)) _ e.offsets) (place + 4) entries
values_body s place word _ = refl

values_hunk : (s : HunkContext) (place : ℕ) (h : ObjectHunk) → values (hunk_findings_at s place h) ≡ hunk_findings s h
values_hunk s place h = values_in_turn (block_findings_at s) (λ b. body_findings s b.word b.body) block_text (λ place b. values_body s place b.word b.body) place h

values_hunks : (unit hunks number place : ℕ) (hs : List ObjectHunk) → values (hunks_findings_at unit hunks number place hs) ≡ hunks_findings unit hunks number hs
values_hunks unit hunks number place [] = refl
values_hunks unit hunks number place (h ∷ hs) =
    let s : HunkContext = record { unit = unit; hunk = number; hunks = hunks; bytes = hunk_bytes h } in
    let next = place + 4 * length (block_texts h) in
    values_append (hunk_findings_at s place h) (hunks_findings_at unit hunks (number + 1) next hs)
    ∙ ap₂ (λ (fs gs : List FindingValue). fs ++ gs) (values_hunk s place h) (values_hunks unit hunks (number + 1) next hs)

values_units : (number place : ℕ) (us : List UnitValue) → values (units_findings_at number place us) ≡ units_findings number us
values_units number place [] = refl
values_units number place (u ∷ us) =
    let next = place + 4 * length (unit_text u) in
    values_append (unit_findings_at number place u) (units_findings_at (number + 1) next us)
    ∙ ap₂ (λ (fs gs : List FindingValue). fs ++ gs) (values_hunks number (length u.hunks) 0 (place + 4 * length (unit_header u.name)) u.hunks) (values_units (number + 1) next us)

pub findings_placed : (o : ObjectFileValue) → map (λ f. f.value) (placed_findings o) ≡ findings o
findings_placed o = values_units 0 0 o

-- ---- what is left to find is that of the first item or part, and that of those after it

pub item_first : {T A : Type 0} (view : T → A) (found : ℕ → A → List PlacedFinding) (text : A → List ℕ) (old new : Placed (List A)) (item : T) → GivesFirst view text old (Some item) new →
    in_turn found text old.place old.value ≡ found old.place (view item) ++ in_turn found text new.place new.value
item_first {T} {A} view found text old new item gives = search rules

-- ---- item by item

-- where offsets stand from an item on: a unit or a hunk begins, or all stays as it is
abbrev pub context_at : HunkContext → ItemValue → HunkContext
context_at s (UnitItem number u) = record { unit = number; hunk = 0; hunks = length u.hunks; bytes = 0 }
context_at s (HunkItem unit number h) = record { unit = unit; hunk = number; hunks = s.hunks; bytes = hunk_bytes h }
context_at s (BlockItem unit hunk b) = s

-- those of an item that begins at this byte, and in which offsets stand so
abbrev pub item_findings_at : HunkContext → ℕ → ItemValue → List PlacedFinding
item_findings_at s place (BlockItem unit hunk b) = block_findings_at s place b
item_findings_at s place _ = []

-- those of items, from this byte on
abbrev pub items_findings_at : HunkContext → ℕ → List ItemValue → List PlacedFinding
items_findings_at s place [] = []
items_findings_at s place (item ∷ rest) =
    item_findings_at (context_at s item) place item ++ items_findings_at (context_at s item) (place + 4 * length (item_text item)) rest

-- The first of them is given.
pub item_given : (s : HunkContext) (old new : Placed (List ItemValue)) (item : Placed ItemValue) → GivesPart item_text old (Some item) new →
    items_findings_at s old.place old.value ≡ item_findings_at (context_at s item.value) item.place item.value ++ items_findings_at (context_at s item.value) new.place new.value
item_given s old new item gives =
    let here = context_at s item.value in
    ap (λ (p : Placed (List ItemValue)). items_findings_at s p.place p.value) gives.0
    ∙ ap (λ (n : ℕ). item_findings_at here item.place item.value ++ items_findings_at here n new.value) (sym gives.1)

-- what is found in these items, wherever offsets stood before them
module _ (rest : List ItemValue) (found : ℕ → List PlacedFinding) (are : (s : HunkContext) (place : ℕ) → items_findings_at s place rest ≡ found place) where
  -- of a text and what stands after it
  after : (place : ℕ) (xs ys : List ℕ) → found (place + 4 * length xs + 4 * length ys) ≡ found (place + 4 * length (xs ++ ys))
  after place xs ys = ap found (omega (arith, length-append xs ys))

  blocks_found : (s : HunkContext) (unit hunk place : ℕ) (bs : ObjectHunk) (more : List ItemValue) (then : ℕ → List PlacedFinding) → ((place : ℕ) → items_findings_at s place more ≡ then place) →
      items_findings_at s place (blocks_items unit hunk bs ++ more) ≡ hunk_findings_at s place bs ++ then (place + 4 * length (block_texts bs))
  blocks_found s unit hunk place [] more then are = are place ∙ ap then (let same : place ≡ place + 0 = omega arith in same)
  blocks_found s unit hunk place (b ∷ bs) more then are =
      let here = block_findings_at s place b in
      let next = place + 4 * length (block_text b) in
      ap (λ (fs : List PlacedFinding). here ++ fs) (blocks_found s unit hunk next bs more then are)
      ∙ sym (append_assoc here (hunk_findings_at s next bs) (then (next + 4 * length (block_texts bs))))
      ∙ ap (λ (n : ℕ). (here ++ hunk_findings_at s next bs) ++ then n) (omega (arith, length-append (block_text b) (block_texts bs)))

  hunks_found : (s : HunkContext) (unit number place : ℕ) (hs : List ObjectHunk) →
      items_findings_at s place (hunks_items unit number hs ++ rest) ≡ hunks_findings_at unit s.hunks number place hs ++ found (place + 4 * length (flat_map block_texts hs))
  hunks_found s unit number place [] = are s place ∙ ap found (let same : place ≡ place + 0 = omega arith in same)
  hunks_found s unit number place (h ∷ hs) =
      let here : HunkContext = record { unit = unit; hunk = number; hunks = s.hunks; bytes = hunk_bytes h } in
      let left = hunks_items unit (number + 1) hs ++ rest in
      let next = place + 4 * length (block_texts h) in
      let others = hunks_findings_at unit s.hunks (number + 1) next hs in
      let none : place + 0 ≡ place = omega arith in
      (λ i. items_findings_at here (none i) (append_assoc (blocks_items unit number h) (hunks_items unit (number + 1) hs) rest i))
      ∙ blocks_found here unit number place h left (λ n. hunks_findings_at unit s.hunks (number + 1) n hs ++ found (n + 4 * length (flat_map block_texts hs))) (λ n. hunks_found here unit (number + 1) n hs)
      ∙ sym (append_assoc (hunk_findings_at here place h) others (found (next + 4 * length (flat_map block_texts hs))))
      ∙ ap (λ (fs : List PlacedFinding). (hunk_findings_at here place h ++ others) ++ fs) (after place (block_texts h) (flat_map block_texts hs))

units_found : (s : HunkContext) (number place : ℕ) (us : List UnitValue) → items_findings_at s place (units_items number us) ≡ units_findings_at number place us
units_found s number place [] = refl
units_found s number place (u ∷ us) =
    let here : HunkContext = record { unit = number; hunk = 0; hunks = length u.hunks; bytes = 0 } in
    let start = place + 4 * length (unit_header u.name) in
    hunks_found (units_items (number + 1) us) (λ n. units_findings_at (number + 1) n us) (λ s n. units_found s (number + 1) n us) here number 0 start u.hunks
    ∙ ap (λ (n : ℕ). unit_findings_at number place u ++ units_findings_at (number + 1) n us) (omega (arith, length-append (unit_header u.name) (flat_map block_texts u.hunks)))

pub items_found : (s : HunkContext) (o : ObjectFileValue) → items_findings_at s 0 (units_items 0 o) ≡ placed_findings o
items_found s o = units_found s 0 0 o
