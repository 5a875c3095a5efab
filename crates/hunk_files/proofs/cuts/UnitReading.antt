-- The longwords of units, and where units begin.
use Rattle.std.proofs.Common.{◌≡◌, ℕ, ◌+◌, ◌*◌, ◌^◌, ◌≤◌, List, [], ◌∷◌, ◌++◌, length, take, drop, get_or, refl, sym, ap, ◌∙◌, append_assoc, append-nil, arith}
use Rattle.std.specs.List.{flat_map, AllByRecursion}
use Rattle.std.proofs.lemmas.List.{take_at, drop_at}
use Rattle.hunk_words.specs.declared.block_word.Kind.TheVariants as kinds
use Rattle.hunk_words.specs.{Bits.kind, Longs.{longs, bytes_of, AreLongs, IsLong}}
use Rattle.hunk_words.proofs.LongLaws.{bytes_of-append, length-bytes_of, longs-bytes_of}
use Rattle.hunk_blocks.specs.{Values.{BlockBody, Name, FitsWord, IsBlock, IsPayload}, Parts.block_text}
use Rattle.hunk_files.specs.Hunks.{block_texts}
use Rattle.hunk_files.specs.ObjectFile.{ObjectHunk, UnitValue, ObjectFileValue, IsObjectHunk, IsUnit, unit_word, unit_header, unit_text, object_text}
use Rattle.hunk_files.specs.Units.{UnitAt}
use Rattle.hunk_files.proofs.{views.PlaceLaws.text_inside, walk.Accepted.All-flat_map}
use Rattle.hunk_blocks.proofs.{BlockLongs.block_longs, Lists.All-append}

-- ---- longwords

pub hunk_longs : (h : ObjectHunk) → AllByRecursion IsBlock h → AreLongs (flat_map block_text h)
hunk_longs h is = All-flat_map IsBlock IsLong block_text block_longs h is

pub hunks_longs : (hs : List ObjectHunk) → AllByRecursion IsObjectHunk hs → AreLongs (flat_map (flat_map block_text) hs)
hunks_longs hs is = All-flat_map IsObjectHunk IsLong (flat_map block_text) (λ h k. hunk_longs h k.blocks) hs is

pub header_longs : (name : List ℕ) → IsPayload (2 ^ 24) name → AreLongs (unit_header name)
header_longs name h = (omega arith, (omega (arith, h.0), h.1))

pub unit_longs : (u : UnitValue) → IsUnit u → AreLongs (unit_text u)
unit_longs u is = All-append IsLong (unit_header u.name) (flat_map (flat_map block_text) u.hunks) (header_longs u.name is.name) (hunks_longs u.hunks is.hunks)

pub object_longs : (us : ObjectFileValue) → AllByRecursion IsUnit us → AreLongs (object_text us)
object_longs us is = All-flat_map IsUnit IsLong unit_text unit_longs us is

-- ---- where units begin

pub unit_kind : kind unit_word ≡ kinds.Unit
unfolding kind
unit_kind = refl

pub no_kind : (word : ℕ) (body : BlockBody) → FitsWord word body → kind word ≡ kinds.Unit → ⊥
no_kind word (Name ws) h e = cc
no_kind word _ h e = cc

pub text_longs : (bytes : List ℕ) (us : ObjectFileValue) → AllByRecursion IsUnit us → bytes ≡ bytes_of (object_text us) → longs bytes ≡ object_text us
text_longs bytes us is e = ap longs (e ∙ sym (append-nil (bytes_of (object_text us)))) ∙ longs-bytes_of (object_text us) [] (object_longs us is) ∙ append-nil (object_text us)

abbrev pub unit : List ℕ → List ObjectHunk → UnitValue
unit name hunks = record { name = name; hunks = hunks }

-- ---- the header of a unit

module _ (bytes : List ℕ) (start : ℕ) (here : UnitAt bytes start) where
  abbrev name : List ℕ
  name = here.unit.name

  abbrev hunks_rest : List ℕ
  hunks_rest = bytes_of (flat_map block_texts here.unit.hunks) ++ here.rest

  pub header_split : drop start bytes ≡ bytes_of (unit_header name) ++ hunks_rest
  header_split =
      here.text ∙ ap (λ (l : List ℕ). l ++ here.rest) (bytes_of-append (unit_header name) (flat_map block_texts here.unit.hunks))
      ∙ append_assoc (bytes_of (unit_header name)) (bytes_of (flat_map block_texts here.unit.hunks)) here.rest

  pub unit_inside : start + 4 * length (unit_text here.unit) ≤ length bytes
  unit_inside = text_inside bytes start (unit_text here.unit) here.rest here.text (omega arith)

  pub header_inside : start + 8 + 4 * length name ≤ length bytes
  header_inside = omega (arith, text_inside bytes start (unit_header name) hunks_rest header_split (omega arith))

  pub count_is : get_or (longs (drop start bytes)) 1 0 ≡ length name
  count_is =
      ap (λ (l : List ℕ). get_or (longs l) 1 0) header_split
      ∙ ap (λ (ws : List ℕ). get_or ws 1 0) (longs-bytes_of (unit_header name) hunks_rest (header_longs name here.is.name))

  pub name_is : (size : ℕ) → size ≡ 4 * length name → longs (take size (drop 8 (drop start bytes))) ≡ name
  name_is size e =
      let front : List ℕ = unit_word ∷ length name ∷ [] in
      let split : drop start bytes ≡ bytes_of front ++ (bytes_of name ++ hunks_rest) =
      header_split ∙ ap (λ (l : List ℕ). l ++ hunks_rest) (bytes_of-append front name) ∙ append_assoc (bytes_of front) (bytes_of name) hunks_rest in
      let cut : take size (drop 8 (drop start bytes)) ≡ bytes_of name ++ [] =
      ap (λ (l : List ℕ). take size (drop 8 l)) split
      ∙ ap (take size) (drop_at (bytes_of front) (bytes_of name ++ hunks_rest) 8 (length-bytes_of front))
      ∙ take_at (bytes_of name) hunks_rest size (length-bytes_of name ∙ sym e)
      ∙ sym (append-nil (bytes_of name)) in
      ap longs cut ∙ longs-bytes_of name [] here.is.name.1 ∙ append-nil name
