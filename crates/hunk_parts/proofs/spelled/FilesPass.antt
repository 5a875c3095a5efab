-- No part of a file is refused.
use Rattle.std.proofs.Common.{◌≡◌, ℕ, zero, suc, ◌<◌, Bool, true, false, ◌||◌, cond, List, [], ◌∷◌, ◌++◌, length, map, refl, sym, ap, subst, ◌∙◌, append_assoc, Option, Some, None, inl, inr}
use Rattle.std.specs.Prelude.{nat_lt}
use Rattle.std.specs.List.{AllByRecursion, flat_map}
use Rattle.std.proofs.lemmas.Bool.{eq-eqb, lt-ltb}
use Rattle.hunk_words.specs.Bits.{has_both_bits, is_relocation, kind}
use Rattle.hunk_words.specs.Limits.{name_limit}
use Rattle.hunk_words.specs.declared.block_word.Kind.{Kind}
use Rattle.hunk_words.specs.declared.block_word.Kind.TheVariants as kinds
use Rattle.hunk_grammar.specs.ObjectPositions.{place_next}
use Rattle.hunk_grammar.specs.ObjectRoles.{after_block, has_content}
use Rattle.hunk_grammar.specs.Standings.{BlockStanding, Beside, Content, Relocating, Ending, is_content, is_ending, standing_of_kind}
use Rattle.hunk_grammar.specs.declared.object_position.WordPlace.{WordPlace}
use Rattle.hunk_grammar.specs.declared.object_position.WordPlace.TheVariants.{BeforeUnits, BetweenHunks, InHunk}
use Rattle.hunk_blocks.specs.Values.{BlockBody, BlockValue, RelocGroup, SymbolEntry, ExtEntry, Reloc, Ext, Symbol, FitsWord, IsBlock, IsExtEntry, IsGroup, IsSymbolEntry}
use Rattle.hunk_files.specs.LoadFile.{AreInOrder, HunkValue, IsHunk, IsTableEntry, TableEntry, declared_longs, standing}
use Rattle.hunk_files.specs.ObjectFile.{IsObjectHunk, IsUnit, ObjectFileValue, ObjectHunk, UnitValue}
use Rattle.hunk_files.proofs.{object_walk.OneObjectFault.{Next, order_next}, walk.FileText.standings, walk.HunkOrder.standing_is}
use Rattle.hunk_parts.specs.PartFaults.{is_open, items_of, refuse_row}
use Rattle.hunk_parts.specs.Parts.{FilePart, block_file_parts, hunk_file_parts, item_parts, of_entry, of_group, of_hunk, of_symbol, of_unit, unit_file_parts}
use Rattle.hunk_parts.proofs.spelled.BlockBodies.{list_of}
use Rattle.hunk_parts.proofs.spelled.BlocksPass.{MayStand, block_row_passes, fits_body, is_block}
use Rattle.hunk_parts.proofs.spelled.ItemTexts.{relocating_list}
use Rattle.hunk_parts.proofs.spelled.ItemsPass.{entry_row_passes, group_row_passes, symbol_row_passes}
use Rattle.hunk_parts.proofs.spelled.PartKinds.{lists_go_on}
use Rattle.hunk_parts.proofs.spelled.PartTests.{no_zero}
use Rattle.hunk_parts.proofs.spelled.Passing.{Pass, spot}
use Rattle.hunk_parts.proofs.spelled.Tails.{FitsBlock, FitsBody, FitsOneGroup}

-- ---- items

module _ (hunks longs : ℕ) (has : Bool) (rest : List FilePart) where
  -- the parts in an open hunk, with the list of this kind open
  abbrev ListPasses : Kind → List FilePart → Type 0
  ListPasses k qs = Pass hunks longs (InHunk has) (Some k) qs

  groups_pass : (k : Kind) (groups : List RelocGroup) → is_relocation k ≡ true → AllByRecursion IsGroup groups → AllByRecursion (FitsOneGroup hunks longs) groups → ListPasses k rest → ListPasses k (map of_group groups ++ rest)
  groups_pass k [] relocates are fits h = h
  groups_pass k (g ∷ groups) relocates are fits h = (group_row_passes hunks longs has k g relocates are.0 fits.0, groups_pass k groups relocates are.1 fits.1 h)

  symbols_pass : (entries : List SymbolEntry) → AllByRecursion IsSymbolEntry entries → ListPasses kinds.Symbol rest → ListPasses kinds.Symbol (map of_symbol entries ++ rest)
  symbols_pass [] are h = h
  symbols_pass (s ∷ entries) are h = (symbol_row_passes hunks longs has s are.0, symbols_pass entries are.1 h)

  entries_pass : (entries : List ExtEntry) → AllByRecursion IsExtEntry entries → ListPasses kinds.Ext rest → ListPasses kinds.Ext (map of_entry entries ++ rest)
  entries_pass [] are h = h
  entries_pass (e ∷ entries) are h = (entry_row_passes hunks longs has e are.0, entries_pass entries are.1 h)

any_group : (longs : ℕ) (groups : List RelocGroup) → AllByRecursion (FitsOneGroup 0 longs) groups
any_group longs [] = tt
any_group longs (g ∷ groups) = (tt, any_group longs groups)

groups_fit : (hunks longs : ℕ) (groups : List RelocGroup) → FitsBody hunks longs (Reloc groups) → AllByRecursion (FitsOneGroup hunks longs) groups
groups_fit zero longs groups h = any_group longs groups
groups_fit (suc n) longs groups h = h

-- after a block that stands so
abbrev next : WordPlace → BlockStanding → WordPlace
next place s = cond (is_ending s) BetweenHunks (after_block place s)

items_pass : (hunks longs : ℕ) (place : WordPlace) (word : ℕ) (body : BlockBody) (rest : List FilePart) → FitsWord word body → FitsBody hunks longs body →
    Pass hunks longs (next place (standing body)) (list_of (kind word)) rest → Pass hunks longs (next place (standing body)) (list_of (kind word)) (item_parts body ++ rest)
items_pass hunks longs place word (Reloc groups) rest h fits =
    subst (λ (l : Option Kind). Pass hunks longs (InHunk (has_content place || false)) l rest → Pass hunks longs (InHunk (has_content place || false)) l (map of_group groups ++ rest)) (sym (relocating_list (kind word) h.0))
    (groups_pass hunks longs (has_content place || false) rest (kind word) groups h.0 h.1 (groups_fit hunks longs groups fits))
items_pass hunks longs place word (Symbol entries) rest h fits =
    subst (λ (k : Kind). Pass hunks longs (InHunk (has_content place || false)) (list_of k) rest → Pass hunks longs (InHunk (has_content place || false)) (list_of k) (map of_symbol entries ++ rest)) (sym h.0)
    (symbols_pass hunks longs (has_content place || false) rest entries h.1)
items_pass hunks longs place word (Ext entries) rest h fits =
    subst (λ (k : Kind). Pass hunks longs (InHunk (has_content place || false)) (list_of k) rest → Pass hunks longs (InHunk (has_content place || false)) (list_of k) (map of_entry entries ++ rest)) (sym h.0)
    (entries_pass hunks longs (has_content place || false) rest entries h.1)
items_pass hunks longs place word _ rest h fits = λ p. p

-- ---- blocks

no_list_opens : (k : Kind) (b : Bool) → nat_lt 0 (items_of k) ≡ b → is_ending (standing_of_kind k) ≡ true → cond b (Some k) None ≡ None
no_list_opens k true opens last = absurd (let more = lists_go_on k opens in cc)
no_list_opens k false opens last = refl

always : (hunks : ℕ) (has : Bool) → MayStand hunks (InHunk has)
always zero has = refl
always (suc n) has = refl

next_is : (place : WordPlace) (s : BlockStanding) → next place s ≡ place_next place s
next_is place Beside = refl
next_is place Content = refl
next_is place Relocating = refl
next_is place Ending = refl

ends_hunk : (place : WordPlace) (s : BlockStanding) → place_next place s ≡ BetweenHunks → is_ending s ≡ true
ends_hunk place Ending e = refl
ends_hunk place Beside e = absurd cc
ends_hunk place Content e = absurd cc
ends_hunk place Relocating e = absurd cc

module _ (hunks longs : ℕ) (rest : List FilePart) (after : Pass hunks longs BetweenHunks None rest) where
  abbrev BlocksPass : WordPlace → Option Kind → List BlockValue → Type 0
  BlocksPass place list bs = Pass hunks longs place list (flat_map block_file_parts bs ++ rest)

  one_passes : (place : WordPlace) (list : Option Kind) (b : BlockValue) (bs : List BlockValue) → FitsBlock hunks longs b → MayStand hunks place → (n : Next place (standing b.body) bs) →
      BlocksPass (next place (standing b.body)) (list_of (kind b.word)) bs → BlocksPass place list (b ∷ bs)
  one_passes place list b bs fits may n h =
      let is = is_block hunks longs b fits in
      let more = flat_map block_file_parts bs ++ rest in
      let items = items_pass hunks longs place b.word b.body more is.body (fits_body hunks longs b fits) h in
      subst (Pass hunks longs place list) (sym (append_assoc (block_file_parts b) (flat_map block_file_parts bs) rest)) (
        block_row_passes hunks longs place list b fits may n.stands,
        subst (λ (s : BlockStanding). Pass hunks longs (next place s) (list_of (kind b.word)) (item_parts b.body ++ more)) (standing_is b.word b.body is.body) items,
      )

  later : (place : WordPlace) (b : BlockValue) (bs : List BlockValue) → IsBlock b → (n : Next place (standing b.body) bs) → ((has : Bool) (list : Option Kind) → AreInOrder has (standings bs) → BlocksPass (InHunk has) list bs) →
      BlocksPass (next place (standing b.body)) (list_of (kind b.word)) bs
  later place b bs is n again = elim n.goes [
    | inl h ↦ ends h.0 h.1
    | inr h ↦ subst (λ (p : WordPlace). BlocksPass p (list_of (kind b.word)) bs) (sym (next_is place (standing b.body) ∙ h.0)) (again (has_content place || is_content (standing b.body)) (list_of (kind b.word)) h.1)
  ]
    where
      ends : bs ≡ [] → place_next place (standing b.body) ≡ BetweenHunks → BlocksPass (next place (standing b.body)) (list_of (kind b.word)) bs
      ends none last =
          let closes : is_ending (standing_of_kind (kind b.word)) ≡ true = ap is_ending (sym (standing_is b.word b.body is.body)) ∙ ends_hunk place (standing b.body) last in
          let no_list : list_of (kind b.word) ≡ None = no_list_opens (kind b.word) (nat_lt 0 (items_of (kind b.word))) refl closes in
          subst (λ (cs : List BlockValue). BlocksPass (next place (standing b.body)) (list_of (kind b.word)) cs) (sym none)
          (subst (λ (p : WordPlace). Pass hunks longs p (list_of (kind b.word)) rest) (sym (next_is place (standing b.body) ∙ last)) (subst (λ (l : Option Kind). Pass hunks longs BetweenHunks l rest) (sym no_list) after))

  pub blocks_pass : (place : WordPlace) (list : Option Kind) (bs : List BlockValue) → AllByRecursion (FitsBlock hunks longs) bs → AreInOrder (has_content place) (standings bs) → MayStand hunks place → BlocksPass place list bs
  blocks_pass place list [] are o may = absurd o
  blocks_pass place list (b ∷ bs) are o may =
      let n = order_next place (standing b.body) bs o in
      one_passes place list b bs are.0 may n
      (later place b bs (is_block hunks longs b are.0) n (λ has l order. blocks_pass (InHunk has) l bs are.1 order (always hunks has)))

-- ---- hunks of a load file

pub hunk_row_passes : (n longs : ℕ) (place : WordPlace) (e : TableEntry) → is_open place ≡ false → IsTableEntry e → refuse_row (spot (suc n) longs place None) (Some (of_hunk e)) ≡ None
hunk_row_passes n longs place e closed is = by_bits (has_both_bits e.word) refl
  where
    by_bits : (b : Bool) → has_both_bits e.word ≡ b → refuse_row (spot (suc n) longs place None) (Some (of_hunk e)) ≡ None
    by_bits true bits = rw (no_zero n, closed, bits) refl
    by_bits false bits = rw (no_zero n, closed, bits, eq-eqb e.extra 0 (is.2 bits)) refl

pub hunks_pass : (n longs : ℕ) (hs : List HunkValue) → AllByRecursion (IsHunk (suc n)) hs → Pass (suc n) longs BetweenHunks None (flat_map hunk_file_parts hs)
hunks_pass n longs [] are = (refl, refl)
hunks_pass n longs (h ∷ hs) are = (hunk_row_passes n longs BetweenHunks h.entry refl are.0.entry, blocks_pass (suc n) (declared_longs h) (flat_map hunk_file_parts hs) (hunks_pass n (declared_longs h) hs are.1) (InHunk false) None h.blocks are.0.blocks are.0.order refl)

-- from the start of the file
pub load_passes : (n : ℕ) (h : HunkValue) (hs : List HunkValue) → AllByRecursion (IsHunk (suc n)) (h ∷ hs) → Pass (suc n) 0 BeforeUnits None (flat_map hunk_file_parts (h ∷ hs))
load_passes n h hs are = (hunk_row_passes n 0 BeforeUnits h.entry refl are.0.entry, (hunks_pass n 0 (h ∷ hs) are).1)

-- ---- units

unit_row_passes : (longs : ℕ) (place : WordPlace) (name : List ℕ) → is_open place ≡ false → length name < name_limit → refuse_row (spot 0 longs place None) (Some (of_unit name)) ≡ None
unit_row_passes longs place name closed short = rw (closed, lt-ltb (length name) name_limit short) refl

object_hunks_pass : (longs : ℕ) (hs : List ObjectHunk) (rest : List FilePart) → AllByRecursion IsObjectHunk hs → Pass 0 longs BetweenHunks None rest → Pass 0 longs BetweenHunks None (flat_map (flat_map block_file_parts) hs ++ rest)
object_hunks_pass longs [] rest are after = after
object_hunks_pass longs (h ∷ hs) rest are after =
    let more = flat_map (flat_map block_file_parts) hs in
    subst (Pass 0 longs BetweenHunks None) (sym (append_assoc (flat_map block_file_parts h) more rest))
    (blocks_pass 0 longs (more ++ rest) (object_hunks_pass longs hs rest are.1 after) BetweenHunks None h are.0.blocks are.0.order refl)

unit_passes : (longs : ℕ) (place : WordPlace) (u : UnitValue) (rest : List FilePart) → is_open place ≡ false → IsUnit u → Pass 0 longs BetweenHunks None rest → Pass 0 longs place None (unit_file_parts u ++ rest)
unit_passes longs place u rest closed is after = (unit_row_passes longs place u.name closed is.name.0, object_hunks_pass longs u.hunks rest is.hunks after)

units_pass : (longs : ℕ) (us : ObjectFileValue) → AllByRecursion IsUnit us → Pass 0 longs BetweenHunks None (flat_map unit_file_parts us)
units_pass longs [] are = (refl, refl)
units_pass longs (u ∷ us) are = unit_passes longs BetweenHunks u (flat_map unit_file_parts us) refl are.0 (units_pass longs us are.1)

-- from the start of the file
pub object_passes : (u : UnitValue) (us : ObjectFileValue) → AllByRecursion IsUnit (u ∷ us) → Pass 0 0 BeforeUnits None (flat_map unit_file_parts (u ∷ us))
object_passes u us are = unit_passes 0 BeforeUnits u (flat_map unit_file_parts us) refl are.0 (units_pass 0 us are.1)
