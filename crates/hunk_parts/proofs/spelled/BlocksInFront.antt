-- A block that is not refused, before the rest of its hunk.
use Rattle.std.proofs.Common.{◌≡◌, ℕ, zero, suc, Bool, true, false, ◌||◌, cond, List, [], ◌∷◌, ◌++◌, refl, sym, ap, ap₂, subst, ◌∙◌, append_assoc, Option, Some, None}
use Rattle.std.specs.Prelude.{nat_lt, ⊤}
use Rattle.std.specs.List.{AllByRecursion, flat_map}
use Rattle.hunk_words.specs.Bits.{is_relocation, kind}
use Rattle.hunk_words.specs.Longs.{IsLong}
use Rattle.hunk_words.specs.declared.block_word.Kind.{Kind}
use Rattle.hunk_words.specs.declared.block_word.Kind.TheVariants as kinds
use Rattle.hunk_grammar.specs.Modes.{refuse_alone_word}
use Rattle.hunk_grammar.specs.ObjectRoles.{has_content}
use Rattle.hunk_grammar.specs.Standings.{BlockStanding, Beside, Content, Relocating, Ending, is_content, is_ending, refuse_standing, standing_of_kind}
use Rattle.hunk_grammar.specs.declared.mode.Mode.TheVariants as modes
use Rattle.hunk_grammar.specs.declared.object_position.WordPlace.{WordPlace}
use Rattle.hunk_grammar.specs.declared.object_position.WordPlace.TheVariants.{BetweenHunks, InHunk}
use Rattle.hunk_blocks.specs.Values.{BlockBody, BlockValue, Reloc, Ext, Symbol, End, FitsWord}
use Rattle.hunk_blocks.proofs.Admitted.{block}
use Rattle.hunk_blocks.proofs.BlockOutcome.{block_is}
use Rattle.hunk_files.specs.LoadFile.{AreInOrder}
use Rattle.hunk_files.proofs.walk.FileText.{standings}
use Rattle.hunk_files.proofs.walk.HunkOrder.{standing_is}
use Rattle.hunk_parts.specs.PartFaults.{is_open, items_of, list_after, place_after, refuse_row, size_of_part}
use Rattle.hunk_parts.specs.Parts.{FilePart, block_file_parts, block_part, item_parts, of_block, part}
use Rattle.hunk_parts.proofs.spelled.BlockBodies.{BodyMade, body_made}
use Rattle.hunk_parts.proofs.spelled.BlockTests.{BlockPasses, block_passes, mode_of}
use Rattle.hunk_parts.proofs.spelled.Passing.{spot}
use Rattle.hunk_parts.proofs.spelled.Tails.{AreItems, FitsBlock, FitsBody, HasLongs, StandAt, Tail}

-- ---- the open list ends

-- A list is open only in a hunk.
abbrev pub IsListAt : WordPlace → Option Kind → Type 0
IsListAt place None = ⊤
IsListAt place (Some k) = (is_open place ≡ true) × (nat_lt 0 (items_of k) ≡ true)

pub record NoItems (hunks longs : ℕ) (list : Option Kind) : Type 0 where
  pub items : BlockBody
  pub are : AreItems hunks longs list items
  pub none : item_parts items ≡ []

no_groups_fit : (hunks longs : ℕ) → FitsBody hunks longs (Reloc [])
no_groups_fit zero longs = tt
no_groups_fit (suc n) longs = tt

no_symbols_fit : (hunks longs : ℕ) → FitsBody hunks longs (Symbol [])
no_symbols_fit zero longs = tt
no_symbols_fit (suc n) longs = tt

no_entries_fit : (hunks longs : ℕ) → FitsBody hunks longs (Ext [])
no_entries_fit zero longs = tt
no_entries_fit (suc n) longs = tt

pub no_items : (hunks longs : ℕ) (place : WordPlace) (list : Option Kind) → IsListAt place list → NoItems hunks longs list
no_items hunks longs place None h = record { items = End; are = refl; none = refl }
no_items hunks longs place (Some kinds.Symbol) h = record { items = Symbol []; are = ((refl, tt), no_symbols_fit hunks longs); none = refl }
no_items hunks longs place (Some kinds.Ext) h = record { items = Ext []; are = ((refl, tt), no_entries_fit hunks longs); none = refl }
no_items hunks longs place (Some k) h = by_kind k (is_relocation k) refl h.1
  where
    by_kind : (k : Kind) (b : Bool) → is_relocation k ≡ b → nat_lt 0 (cond b 4 0) ≡ true → NoItems hunks longs (Some k)
    by_kind k true e is = record { items = Reloc []; are = ((e, tt), no_groups_fit hunks longs); none = refl }
    by_kind k false e is = absurd cc

-- ---- the order of blocks

order_first : (has : Bool) (s : BlockStanding) (blocks : List BlockValue) → refuse_standing has s ≡ None → StandAt (cond (is_ending s) BetweenHunks (InHunk (has || is_content s))) blocks → AreInOrder has (s ∷ standings blocks)
order_first true Beside blocks ok h = h
order_first false Beside blocks ok h = h
order_first false Content blocks ok h = h
order_first true Relocating blocks ok h = h
order_first true Ending blocks ok h = ap standings h
order_first _ _ blocks ok h = absurd cc

-- ---- the block

fits_block : (hunks longs word : ℕ) (body : BlockBody) → IsLong word → refuse_alone_word (mode_of hunks) word ≡ None → FitsWord word body → FitsBody hunks longs body → FitsBlock hunks longs (block word body)
fits_block zero longs word body fit alone is fits = (block_is modes.Object word body fit alone is).0
fits_block (suc n) longs word body fit alone is fits = let b = block_is modes.Load word body fit alone is in record { block = b.0; mode = b.1; fits = fits }

-- Parts that begin with a block: blocks up to END, and what follows their hunk.
pub record FromBlock (hunks longs : ℕ) (place : WordPlace) (qs rest : List FilePart) : Type 0 where
  pub blocks : List BlockValue
  pub are_blocks : AllByRecursion (FitsBlock hunks longs) blocks
  pub order : AreInOrder (has_content place) (standings blocks)
  pub parts : qs ≡ flat_map block_file_parts blocks ++ rest

module _ (hunks longs : ℕ) (place : WordPlace) (list : Option Kind) (word value : ℕ) (content offsets : List ℕ) (qs rest : List FilePart) where
  abbrev this : FilePart
  this = part block_part word value content offsets

  abbrev Later : Type 0
  Later = Tail hunks longs (place_after place (size_of_part this)) (list_after list block_part word) qs rest

  from_made : (h : BlockPasses hunks longs place list word value content offsets) → IsLong word → (t : Later) → BodyMade hunks longs word value content t.items → FromBlock hunks longs place (this ∷ qs) rest
  from_made h fit t m =
      let b : BlockValue = block word m.body in
      let q : this ≡ of_block b = sym (ap₂ (λ (v : ℕ) (c : List ℕ). part block_part word v c []) m.value_is m.content_is ∙ ap (λ (os : List ℕ). part block_part word value content os) (sym h.offsets_are)) in
      record {
        blocks = b ∷ t.blocks;
        are_blocks = (fits_block hunks longs word m.body fit h.alone m.is m.fits, t.are_blocks);
        order = subst (λ (s : BlockStanding). AreInOrder (has_content place) (s ∷ standings t.blocks)) (sym (standing_is word m.body m.is)) (order_first (has_content place) (standing_of_kind (kind word)) t.blocks h.stands t.stand);
        parts =
            ap₂ (λ (x : FilePart) (xs : List FilePart). x ∷ xs) q t.parts
            ∙ ap (λ (xs : List FilePart). of_block b ∷ (xs ++ (flat_map block_file_parts t.blocks ++ rest))) (sym m.items_are)
            ∙ ap (λ (xs : List FilePart). of_block b ∷ xs) (sym (append_assoc (item_parts m.body) (flat_map block_file_parts t.blocks) rest));
      }

  pub from_block : refuse_row (spot hunks longs place list) (Some this) ≡ None → HasLongs this → Later → FromBlock hunks longs place (this ∷ qs) rest
  from_block e fit t =
      let h = block_passes hunks longs place list word value content offsets e in
      from_made h fit.word t (body_made hunks longs place list word value content offsets t.items fit h t.are_items)
