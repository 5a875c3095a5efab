-- The rows of the items of a file that are still to come.
use Rattle.std.proofs.Common.{◌≡◌, ℕ, ◌+◌, ◌*◌, List, [], ◌∷◌, ◌++◌, length, map, take, drop, refl, sym, ap, subst, ◌∙◌, Some, append_assoc, arith}
use Rattle.std.specs.List.{flat_map}
use Rattle.std.proofs.lemmas.List.{length-append}
use Rattle.hunk_blocks.specs.{Parts.block_text, Placed.Placed, Values.BlockValue}
use Rattle.hunk_files.specs.Hunks.{block_texts}
use Rattle.hunk_files.specs.InPlace.{GivesPart}
use Rattle.hunk_files.specs.ItemViews.{GivesItem, item_seen}
use Rattle.hunk_files.specs.Items.{ItemValue, UnitItem, HunkItem, BlockItem, blocks_items, hunks_items, item_text, units_items}
use Rattle.hunk_files.specs.LoadFile.{HunkValue, TableEntry}
use Rattle.hunk_files.specs.LoadText.{table}
use Rattle.hunk_files.specs.ObjectFile.{ObjectHunk, UnitValue, unit_header, unit_text}
use Rattle.hunk_files.specs.declared.items.Item.{Item}
use Rattle.hunk_files.proofs.findings.FindingSteps.{TakenUpTo, taken_on}
use Rattle.hunk_parts.specs.Listing.{in_turn}
use Rattle.hunk_parts.specs.PartRows.{block_row, block_rows, blocks_rows, hunk_row, hunk_rows, items_rows, unit_row, unit_rows}
use Rattle.hunk_parts.specs.declared.part_row.PartRow.{PartRow}

-- those of an item from this byte on, where these entries of the table are left
abbrev pub own_rows : List TableEntry → ℕ → ItemValue → List PartRow
own_rows entries place (UnitItem number u) = unit_row place u.name ∷ []
own_rows entries place (HunkItem unit number h) = map hunk_row (take 1 entries)
own_rows entries place (BlockItem unit hunk b) = block_rows place b

-- the entries after it
abbrev pub entries_after : List TableEntry → ItemValue → List TableEntry
entries_after entries (HunkItem unit number h) = drop 1 entries
entries_after entries item = entries

abbrev pub rows_left : List TableEntry → ℕ → List ItemValue → List PartRow
rows_left entries place [] = []
rows_left entries place (item ∷ rest) = own_rows entries place item ++ rows_left (entries_after entries item) (place + 4 * length (item_text item)) rest

-- They are those of the first, and of what follows it.
pub first_left : (entries : List TableEntry) (old new : Placed (List ItemValue)) (item : Placed ItemValue) → GivesPart item_text old (Some item) new →
    rows_left entries old.place old.value ≡ own_rows entries item.place item.value ++ rows_left (entries_after entries item.value) new.place new.value
first_left entries old new item gives =
    ap (λ (p : Placed (List ItemValue)). rows_left entries p.place p.value) gives.0
    ∙ ap (λ (n : ℕ). own_rows entries item.place item.value ++ rows_left (entries_after entries item.value) n new.value) (sym gives.1)

-- The rows of the next item are taken.
pub item_taken : {S : Type 0} (Takes : S → List PartRow → S → Type 0) → ((a b c : S) (xs ys : List PartRow) → Takes a xs b → Takes b ys c → Takes a (xs ++ ys) c) →
    (a b c : S) (entries : List TableEntry) (old new : Placed (List ItemValue)) (item value : Item) (rows all : List PartRow) →
    item ≡ value → GivesItem old (Some item) new → rows ≡ own_rows entries (item_seen value).place (item_seen value).value →
    TakenUpTo Takes a b (rows_left entries old.place old.value) all → Takes b rows c →
    TakenUpTo Takes a c (rows_left (entries_after entries (item_seen value).value) new.place new.value) all
item_taken Takes more a b c entries old new item value rows all is gives are before next =
    let after = rows_left (entries_after entries (item_seen value).value) new.place new.value in
    let first = first_left entries old new (item_seen value) (subst (λ (i : Item). GivesItem old (Some i) new) is gives) in
    taken_on Takes more a b c rows after (rows_left entries old.place old.value) all (first ∙ ap (λ (xs : List PartRow). xs ++ after) (sym are)) before next

-- A block is taken with its items.
pub block_taken : {S : Type 0} (Takes : S → List PartRow → S → Type 0) → ((a b c : S) (xs ys : List PartRow) → Takes a xs b → Takes b ys c → Takes a (xs ++ ys) c) →
    (a b c : S) (block : Placed BlockValue) (r : PartRow) (items : List PartRow) → r ≡ block_row block.place block.value → items ≡ items_rows (block.place + 4) block.value.body →
    Takes a (r ∷ []) b → Takes b items c → Takes a (block_rows block.place block.value) c
block_taken Takes more a b c block r items is are first next =
    subst (λ (xs : List PartRow). Takes a xs c) (ap (λ (x : PartRow). x ∷ items) is ∙ ap (λ (xs : List PartRow). block_row block.place block.value ∷ xs) are) (more a b c (r ∷ []) items first next)

-- ---- those of a whole file

-- of blocks, and what follows them
blocks_left : (entries : List TableEntry) (place unit hunk : ℕ) (bs : List BlockValue) (rest : List ItemValue) →
    rows_left entries place (blocks_items unit hunk bs ++ rest) ≡ blocks_rows place bs ++ rows_left entries (place + 4 * length (block_texts bs)) rest
blocks_left entries place unit hunk [] rest = ap (λ (n : ℕ). rows_left entries n rest) (omega arith)
blocks_left entries place unit hunk (b ∷ bs) rest =
    let next = place + 4 * length (block_text b) in
    ap (λ rows. block_rows place b ++ rows)
    (blocks_left entries next unit hunk bs rest ∙ ap (λ (n : ℕ). blocks_rows next bs ++ rows_left entries n rest) (omega (arith, length-append (block_text b) (block_texts bs))))
    ∙ sym (append_assoc (block_rows place b) (blocks_rows next bs) (rows_left entries (place + 4 * length (block_texts (b ∷ bs))) rest))

-- of the hunks of a unit
hunks_left : (place unit number : ℕ) (hs : List ObjectHunk) (rest : List ItemValue) →
    rows_left [] place (hunks_items unit number hs ++ rest) ≡ in_turn blocks_rows block_texts place hs ++ rows_left [] (place + 4 * length (flat_map block_texts hs)) rest
hunks_left place unit number [] rest = ap (λ (n : ℕ). rows_left [] n rest) (omega arith)
hunks_left place unit number (h ∷ hs) rest =
    let next = place + 4 * length (block_texts h) in
    let after = hunks_items unit (number + 1) hs in
    let all = rows_left [] (place + 4 * length (flat_map block_texts (h ∷ hs))) rest in
    ap (λ (items : List ItemValue). rows_left [] (place + 4 * 0) items) (append_assoc (blocks_items unit number h) after rest)
    ∙ ap (λ (n : ℕ). rows_left [] n (blocks_items unit number h ++ (after ++ rest))) (omega arith)
    ∙ blocks_left [] place unit number h (after ++ rest)
    ∙ ap (λ rows. blocks_rows place h ++ rows)
    (hunks_left next unit (number + 1) hs rest ∙ ap (λ (n : ℕ). in_turn blocks_rows block_texts next hs ++ rows_left [] n rest) (omega (arith, length-append (block_texts h) (flat_map block_texts hs))))
    ∙ sym (append_assoc (blocks_rows place h) (in_turn blocks_rows block_texts next hs) all)

pub units_left : (place number : ℕ) (us : List UnitValue) → rows_left [] place (units_items number us) ≡ in_turn unit_rows unit_text place us
units_left place number [] = refl
units_left place number (u ∷ us) =
    let header = unit_header u.name in
    let body = place + 4 * length header in
    let hunks = in_turn blocks_rows block_texts body u.hunks in
    ap (λ rows. unit_row place u.name ∷ rows)
    (
    hunks_left body number 0 u.hunks (units_items (number + 1) us)
    ∙ ap (λ (n : ℕ). hunks ++ rows_left [] n (units_items (number + 1) us)) (omega (arith, length-append header (flat_map block_texts u.hunks)))
    ∙ ap (λ rows. hunks ++ rows) (units_left (place + 4 * length (unit_text u)) (number + 1) us)
    )

pub load_left : (place number : ℕ) (hs : List HunkValue) →
    rows_left (table hs) place (hunks_items 0 number (map (λ (h : HunkValue). h.blocks) hs)) ≡ in_turn hunk_rows (λ h. block_texts h.blocks) place hs
load_left place number [] = refl
load_left place number (h ∷ hs) =
    let after = hunks_items 0 (number + 1) (map (λ (x : HunkValue). x.blocks) hs) in
    ap (λ rows. hunk_row h.entry ∷ rows)
    (
    ap (λ (n : ℕ). rows_left (table hs) n (blocks_items 0 number h.blocks ++ after)) (omega arith)
    ∙ blocks_left (table hs) place 0 number h.blocks after
    ∙ ap (λ rows. blocks_rows place h.blocks ++ rows) (load_left (place + 4 * length (block_texts h.blocks)) (number + 1) hs)
    )
