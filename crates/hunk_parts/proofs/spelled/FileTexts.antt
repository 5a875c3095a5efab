-- The parts of a file spell its text.
use Rattle.std.proofs.Common.{◌≡◌, ℕ, Bool, true, false, cond, List, [], ◌∷◌, ◌++◌, length, map, refl, sym, ap, ap₂, subst, ◌∙◌, append_assoc, arith, Some, None}
use Rattle.std.specs.Prelude.{nat_lt}
use Rattle.std.specs.List.{AllByRecursion, filter, flat_map}
use Rattle.hunk_words.specs.Bits.{kind}
use Rattle.hunk_words.specs.Longs.{bytes_of}
use Rattle.hunk_words.specs.declared.block_word.Kind.{Kind}
use Rattle.hunk_grammar.specs.Standings.{BlockStanding, Beside, Content, Relocating, Ending, is_ending}
use Rattle.hunk_blocks.specs.Faults.{words}
use Rattle.hunk_blocks.specs.Parts.{block_text}
use Rattle.hunk_blocks.specs.Values.{BlockBody, BlockValue, Reloc, Symbol, Ext, IsBlock}
use Rattle.hunk_files.specs.HunkFile.{IsFileOf, file_bytes}
use Rattle.hunk_files.specs.Hunks.{block_texts}
use Rattle.hunk_files.specs.LoadFile.{AreInOrder, IsHunk, IsLoadFile, LoadFileValue, TableEntry, declared_longs, standing}
use Rattle.hunk_files.specs.LoadText.{header_labelled, table, text}
use Rattle.hunk_files.specs.ObjectFile.{IsObjectFile, IsObjectHunk, IsUnit, ObjectFileValue, ObjectHunk, object_text, unit_header}
use Rattle.hunk_files.specs.Tables.{hunk_texts}
use Rattle.hunk_files.specs.declared.hunk_file.HunkFile.{HunkFile}
use Rattle.hunk_files.specs.declared.hunk_file.HunkFile.TheVariants as files
use Rattle.hunk_files.proofs.cuts.OneReading.{are_blocks, order_left, order_stops}
use Rattle.hunk_files.proofs.cuts.TableReading.{text_is}
use Rattle.hunk_files.proofs.walk.FileText.{standings}
use Rattle.hunk_files.proofs.walk.HunkOrder.{standing_is}
use Rattle.hunk_parts.specs.PartFaults.{items_of}
use Rattle.hunk_parts.specs.Parts.{FilePart, block_file_parts, hunk_file_parts, item_parts, of_entry, of_group, of_symbol, parts_of, unit_file_parts}
use Rattle.hunk_parts.specs.RowsText.{hunk_entry, is_hunk, parts_text, text_from}
use Rattle.hunk_parts.proofs.spelled.ItemTexts.{Ends, block_spells}
use Rattle.hunk_parts.proofs.spelled.PartKinds.{lists_go_on}

-- ---- blocks

opened : (b : Bool) (k : Kind) → cond b (Some k) None ≡ Some k → b ≡ true
opened true k e = refl
opened false k e = absurd cc

last_ends : (has : Bool) (s : BlockStanding) → AreInOrder has (s ∷ []) → is_ending s ≡ true
last_ends true Ending o = refl
last_ends true Beside o = absurd o
last_ends false Beside o = absurd o
last_ends false Content o = absurd o
last_ends true Relocating o = absurd o
last_ends _ _ o = absurd o

-- After a block that opens a list comes another one.
list_ends : (has : Bool) (b : BlockValue) (bs : List BlockValue) (rest : List FilePart) → IsBlock b → AreInOrder has (standings (b ∷ bs)) → Ends (kind b.word) (flat_map block_file_parts bs ++ rest)
list_ends has b (c ∷ bs) rest is o opens = refl
list_ends has b [] rest is o opens =
    let more = lists_go_on (kind b.word) (opened (nat_lt 0 (items_of (kind b.word))) (kind b.word) opens) in
    let last = last_ends has (standing b.body) o in
    let same = ap is_ending (standing_is b.word b.body is.body) in
    absurd cc

-- More blocks follow one that is not END.
more_spell : (has : Bool) (b : BlockValue) (bs : List BlockValue) (rest : List FilePart) → ((k : Bool) → AreInOrder k (standings bs) → text_from None (flat_map block_file_parts bs ++ rest) ≡ block_texts bs ++ text_from None rest) →
    AreInOrder has (standings (b ∷ bs)) → (e : Bool) → is_ending (standing b.body) ≡ e → text_from None (flat_map block_file_parts bs ++ rest) ≡ block_texts bs ++ text_from None rest
more_spell has b [] rest again o e is = refl
more_spell has b (c ∷ bs) rest again o true is = absurd (let none = order_stops has (standing b.body) (c ∷ bs) o is in cc)
more_spell has b (c ∷ bs) rest again o false is = let left = order_left has (standing b.body) (standings (c ∷ bs)) o is in again left.0 left.1

pub blocks_spell : (has : Bool) (bs : List BlockValue) (rest : List FilePart) → AllByRecursion IsBlock bs → AreInOrder has (standings bs) →
    text_from None (flat_map block_file_parts bs ++ rest) ≡ block_texts bs ++ text_from None rest
blocks_spell has [] rest are o = absurd o
blocks_spell has (b ∷ bs) rest are o =
    ap (text_from None) (append_assoc (block_file_parts b) (flat_map block_file_parts bs) rest)
    ∙ block_spells b (flat_map block_file_parts bs ++ rest) are.0 (list_ends has b bs rest are.0 o)
    ∙ ap (λ (ws : List ℕ). block_text b ++ ws) (more_spell has b bs rest (λ k order. blocks_spell k bs rest are.1 order) o (is_ending (standing b.body)) refl)
    ∙ sym (append_assoc (block_text b) (block_texts bs) (text_from None rest))

-- ---- hunks and units

hunks_spell : (most : ℕ) (hs : LoadFileValue) → AllByRecursion (IsHunk most) hs → text_from None (flat_map hunk_file_parts hs) ≡ hunk_texts hs
hunks_spell most [] are = refl
hunks_spell most (h ∷ hs) are =
    blocks_spell false h.blocks (flat_map hunk_file_parts hs) (are_blocks most (declared_longs h) h.blocks are.0.blocks) are.0.order
    ∙ ap (λ (ws : List ℕ). block_texts h.blocks ++ ws) (hunks_spell most hs are.1)

object_hunks_spell : (hs : List ObjectHunk) (rest : List FilePart) → AllByRecursion IsObjectHunk hs → text_from None (flat_map (flat_map block_file_parts) hs ++ rest) ≡ flat_map block_texts hs ++ text_from None rest
object_hunks_spell [] rest are = refl
object_hunks_spell (h ∷ hs) rest are =
    let more = flat_map (flat_map block_file_parts) hs in
    ap (text_from None) (append_assoc (flat_map block_file_parts h) more rest)
    ∙ blocks_spell false h (more ++ rest) are.0.blocks are.0.order
    ∙ ap (λ (ws : List ℕ). block_texts h ++ ws) (object_hunks_spell hs rest are.1)
    ∙ sym (append_assoc (block_texts h) (flat_map block_texts hs) (text_from None rest))

units_spell : (us : ObjectFileValue) → AllByRecursion IsUnit us → text_from None (flat_map unit_file_parts us) ≡ object_text us
units_spell [] are = refl
units_spell (u ∷ us) are =
    ap (λ (ws : List ℕ). unit_header u.name ++ ws)
    (object_hunks_spell u.hunks (flat_map unit_file_parts us) are.0.hunks ∙ ap (λ (ws : List ℕ). flat_map block_texts u.hunks ++ ws) (units_spell us are.1))
    ∙ sym (append_assoc (unit_header u.name) (flat_map block_texts u.hunks) (object_text us))

-- ---- the header

-- no hunks are among these parts
abbrev pub Skips : List FilePart → Type 0
Skips qs = (rest : List FilePart) → filter is_hunk (qs ++ rest) ≡ filter is_hunk rest

skip_each : {A : Type 0} (f : A → List FilePart) → ((x : A) → Skips (f x)) → (xs : List A) → Skips (flat_map f xs)
skip_each f one [] rest = refl
skip_each f one (x ∷ xs) rest = ap (filter is_hunk) (append_assoc (f x) (flat_map f xs) rest) ∙ one x (flat_map f xs ++ rest) ∙ skip_each f one xs rest

skip_map : {A : Type 0} (of : A → FilePart) → ((x : A) → is_hunk (of x) ≡ false) → (xs : List A) → Skips (map of xs)
skip_map of none [] rest = refl
skip_map of none (x ∷ xs) rest = ap (λ (b : Bool). cond b (of x ∷ filter is_hunk (map of xs ++ rest)) (filter is_hunk (map of xs ++ rest))) (none x) ∙ skip_map of none xs rest

skip_items : (body : BlockBody) → Skips (item_parts body)
skip_items (Reloc groups) = skip_map of_group (λ g. refl) groups
skip_items (Symbol entries) = skip_map of_symbol (λ s. refl) entries
skip_items (Ext entries) = skip_map of_entry (λ e. refl) entries
skip_items _ = λ rest. refl

pub skip_blocks : (bs : List BlockValue) → Skips (flat_map block_file_parts bs)
skip_blocks = skip_each block_file_parts (λ b. skip_items b.body)

-- the entries of the table
pub entries_are : (hs : LoadFileValue) → map hunk_entry (filter is_hunk (flat_map hunk_file_parts hs)) ≡ table hs
entries_are [] = refl
entries_are (h ∷ hs) = ap (λ (es : List TableEntry). h.entry ∷ es) (ap (map hunk_entry) (skip_blocks h.blocks (flat_map hunk_file_parts hs)) ∙ entries_are hs)

-- ---- files

load_spells : (v : LoadFileValue) → IsLoadFile v → parts_text (flat_map hunk_file_parts v) ≡ text v
load_spells [] is = absurd (omega (arith, is.some))
load_spells (h ∷ hs) is =
    ap₂ (λ (es : List TableEntry) (ws : List ℕ). words (header_labelled es) ++ ws) (entries_are (h ∷ hs)) (hunks_spell (length (h ∷ hs)) (h ∷ hs) is.each) ∙ sym (text_is (h ∷ hs))

object_spells : (o : ObjectFileValue) → IsObjectFile o → parts_text (flat_map unit_file_parts o) ≡ object_text o
object_spells [] is = absurd (omega (arith, is.some))
object_spells (u ∷ us) is = units_spell (u ∷ us) is.units

-- The parts of a file spell its text.
pub file_spells : (bytes : List ℕ) (file : HunkFile) → IsFileOf bytes file → bytes_of (parts_text (parts_of file)) ≡ file_bytes file
unfolding parts_of
file_spells bytes (files.Load v rest) is = ap bytes_of (load_spells v (subst IsLoadFile (sym is.1) is.0.is_load_file))
file_spells bytes (files.Object o) is = ap bytes_of (object_spells o (subst IsObjectFile (sym is.1) is.0.is_object_file))

-- Files of the same parts have the same bytes.
pub one_file : (a b : HunkFile) (ones others : List ℕ) → IsFileOf ones a → IsFileOf others b → parts_of a ≡ parts_of b → file_bytes a ≡ file_bytes b
one_file a b ones others is ok same = sym (file_spells ones a is) ∙ ap (λ (qs : List FilePart). bytes_of (parts_text qs)) same ∙ file_spells others b ok
