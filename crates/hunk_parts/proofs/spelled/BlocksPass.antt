-- The blocks of a hunk are not refused.
use Rattle.std.proofs.Common.{◌≡◌, ℕ, zero, suc, ◌^◌, ◌<◌, Bool, true, false, ◌&&◌, eqb, List, length, refl, sym, ap, ap₂, ◌∙◌, arith, Option, Some, None}
use Rattle.std.specs.Prelude.{nat_lt, ◌==◌}
use Rattle.std.proofs.lemmas.Bool.{eq-eqb, le-ltb, lt-ltb, ne_eqb}
use Rattle.hunk_words.specs.Bits.{is_relocation, kind, size_longs, size_word, unit_word}
use Rattle.hunk_words.specs.Limits.{content_limit, name_limit}
use Rattle.hunk_words.specs.declared.block_word.Kind.{Kind}
use Rattle.hunk_words.specs.declared.block_word.Kind.TheVariants as kinds
use Rattle.hunk_words.specs.declared.reason.Reason.{Reason}
use Rattle.hunk_grammar.specs.ObjectPositions.{refuse_place}
use Rattle.hunk_grammar.specs.ObjectRoles.{has_content, refuse_object_word, refuse_unit}
use Rattle.hunk_grammar.specs.Standings.{BlockStanding, first_of, refuse_standing, standing_of_kind}
use Rattle.hunk_grammar.specs.declared.mode.Mode.TheVariants as modes
use Rattle.hunk_grammar.specs.declared.object_position.WordPlace.{WordPlace}
use Rattle.hunk_grammar.specs.declared.object_position.WordPlace.TheVariants.{BeforeUnits, BetweenHunks, InHunk}
use Rattle.hunk_grammar.proofs.BlockWords as loads
use Rattle.hunk_grammar.proofs.ObjectWords as objects
use Rattle.hunk_blocks.specs.Values.{BlockBody, BlockValue, Name, Code, Data, Bss, Reloc, Ext, Symbol, Debug, Advisory, End, FitsWord, IsBlock, is_unknown}
use Rattle.hunk_blocks.proofs.Admitted.{word_passes}
use Rattle.hunk_blocks.proofs.Lists.{passes_else}
use Rattle.hunk_files.specs.LoadFile.{standing}
use Rattle.hunk_files.proofs.{cuts.UnitReading.{no_kind, unit_kind}, walk.HunkOrder.standing_is}
use Rattle.hunk_parts.specs.PartFaults.{PartSize, by_reason, fits_kind, has_no_offsets, is_before_units, is_in_place, is_open, refuse_block_word, refuse_content, refuse_far, refuse_part, refuse_row, refuse_size, refuse_what, size_of_part, strange}
use Rattle.hunk_parts.specs.Parts.{block_part, of_block}
use Rattle.hunk_parts.proofs.spelled.BlockTests.{FitsLongs}
use Rattle.hunk_parts.proofs.spelled.ItemsPass.{both_hold, holding, neither, placed}
use Rattle.hunk_parts.proofs.spelled.PartTests.{no_zero, some_hunks}
use Rattle.hunk_parts.proofs.spelled.Passing.{spot}
use Rattle.hunk_parts.proofs.spelled.Tails.{FitsBlock, FitsBody}

-- ---- the word

-- A block of a load file stands in a hunk, one of an object file after the first unit began.
abbrev pub MayStand : ℕ → WordPlace → Type 0
MayStand zero place = is_before_units place ≡ false
MayStand (suc n) place = is_open place ≡ true

is_placed : (hunks longs : ℕ) (place : WordPlace) (list : Option Kind) (q : PartSize) → q.what ≡ block_part → MayStand hunks place → is_in_place (spot hunks longs place list) q ≡ true
is_placed zero longs place list q is may = rw (is, may) refl
is_placed (suc n) longs place list q is may = rw (some_hunks n, may) refl

begun_place : (place : WordPlace) (s : BlockStanding) → is_before_units place ≡ false → refuse_standing (has_content place) s ≡ None → refuse_place place s ≡ None
begun_place BeforeUnits s begun ok = absurd cc
begun_place BetweenHunks s begun ok = ok
begun_place (InHunk has) s begun ok = ok

no_unit : (b : BlockValue) → IsBlock b → b.word ≡ unit_word → ⊥
no_unit b is e = no_kind b.word b.body is.body (ap kind e ∙ unit_kind)

standing_passes : (has : Bool) (b : BlockValue) → IsBlock b → refuse_standing has (standing b.body) ≡ None → refuse_standing has (standing_of_kind (kind b.word)) ≡ None
standing_passes has b is ok = ap (refuse_standing has) (sym (standing_is b.word b.body is.body)) ∙ ok

pub block_word_passes : (hunks longs : ℕ) (place : WordPlace) (list : Option Kind) (b : BlockValue) → FitsBlock hunks longs b → MayStand hunks place → refuse_standing (has_content place) (standing b.body) ≡ None →
    refuse_block_word (spot hunks longs place list) b.word ≡ None
block_word_passes zero longs place list b fits may ok =
    objects.word_split place b.word
    ∙ passes_else (eqb b.word unit_word) (refuse_unit place) _ (ne_eqb b.word unit_word (no_unit b fits))
    ∙ ap (λ (o : Option Reason). first_of o (refuse_place place (standing_of_kind (kind b.word)))) (word_passes modes.Object b fits tt)
    ∙ begun_place place (standing_of_kind (kind b.word)) may (standing_passes (has_content place) b fits ok)
block_word_passes (suc n) longs place list b fits may ok =
    passes_else (eqb (suc n) 0) (refuse_object_word place b.word) _ (no_zero n)
    ∙ loads.word_split (has_content place) b.word
    ∙ ap₂ first_of (word_passes modes.Load b fits.block fits.mode) (standing_passes (has_content place) b fits.block ok)

-- ---- its fields

relocation_fits : (k : Kind) (word : ℕ) → is_relocation k ≡ true → fits_kind k (record { what = block_part; word = word; value = 0; content = 0; offsets = 0 }) ≡ true
relocation_fits kinds.Unit word h = absurd cc
relocation_fits _ word h = cc

unknown_fits : (k : Kind) (word n : ℕ) → is_unknown k ≡ true → n < 2 ^ 32 → fits_kind k (record { what = block_part; word = word; value = 0; content = n; offsets = 0 }) ≡ true
unknown_fits (kinds.Unknown m) word n h few = rw (lt-ltb n (2 ^ 32) few) refl
unknown_fits kinds.Unit word n h few = absurd cc
unknown_fits _ word n h few = absurd cc

no_low_bits : (top : ℕ) → (size_longs (size_word top 0) == 0) ≡ true
no_low_bits top = eq-eqb (size_longs (size_word top 0)) 0 (omega arith)

pub kind_fits : (word : ℕ) (body : BlockBody) → FitsWord word body → fits_kind (kind word) (size_of_part (of_block (record { word = word; body = body }))) ≡ true
kind_fits word (Name words) h = rw h.0 refl
kind_fits word (Code top words) h = rw (h.0, no_low_bits top) refl
kind_fits word (Data top words) h = rw (h.0, no_low_bits top) refl
kind_fits word (Bss size) h = rw h.0 refl
kind_fits word (Reloc groups) h = relocation_fits (kind word) word h.0
kind_fits word (Ext entries) h = rw h.0 refl
kind_fits word (Symbol entries) h = rw h.0 refl
kind_fits word (Debug words) h = rw (h.0, lt-ltb (length words) (2 ^ 32) h.1.0) refl
kind_fits word (Advisory words) h = unknown_fits (kind word) word (length words) h.0 h.2.0
kind_fits word End h = rw h refl

-- ---- its size

content_fits : (hunks longs : ℕ) (place : WordPlace) (list : Option Kind) (n : ℕ) → n < content_limit → FitsLongs hunks longs n → refuse_content (spot hunks longs place list) n ≡ None
content_fits zero longs place list n few fits = rw (lt-ltb n content_limit few) refl
content_fits (suc m) longs place list n few fits = rw (lt-ltb n content_limit few, some_hunks m, le-ltb longs n fits) refl

code_longs : (hunks longs top : ℕ) (words : List ℕ) → FitsBody hunks longs (Code top words) → FitsLongs hunks longs (length words)
code_longs zero longs top words h = tt
code_longs (suc n) longs top words h = h

data_longs : (hunks longs top : ℕ) (words : List ℕ) → FitsBody hunks longs (Data top words) → FitsLongs hunks longs (length words)
data_longs zero longs top words h = tt
data_longs (suc n) longs top words h = h

bss_longs : (hunks longs size : ℕ) → FitsBody hunks longs (Bss size) → FitsLongs hunks longs (size_longs size)
bss_longs zero longs size h = tt
bss_longs (suc n) longs size h = h

module _ (hunks longs : ℕ) (place : WordPlace) (list : Option Kind) where
  abbrev SizePasses : Kind → PartSize → Type 0
  SizePasses k q = refuse_size (spot hunks longs place list) k q ≡ None

  relocation_size : (k : Kind) (q : PartSize) → is_relocation k ≡ true → SizePasses k q
  relocation_size kinds.Unit q h = absurd cc
  relocation_size kinds.Name q h = absurd cc
  relocation_size kinds.Code q h = absurd cc
  relocation_size kinds.Data q h = absurd cc
  relocation_size kinds.Bss q h = absurd cc
  relocation_size _ q h = refl

  unknown_size : (k : Kind) (q : PartSize) → is_unknown k ≡ true → SizePasses k q
  unknown_size (kinds.Unknown n) q h = refl
  unknown_size kinds.Unit q h = absurd cc
  unknown_size _ q h = absurd cc

  size_passes : (word : ℕ) (body : BlockBody) → FitsWord word body → FitsBody hunks longs body → SizePasses (kind word) (size_of_part (of_block (record { word = word; body = body })))
  size_passes word (Name words) h fits = rw h.0 (holding (nat_lt (length words) name_limit) _ (lt-ltb (length words) name_limit h.1.0))
  size_passes word (Code top words) h fits = rw h.0 (content_fits hunks longs place list (length words) h.2.0 (code_longs hunks longs top words fits))
  size_passes word (Data top words) h fits = rw h.0 (content_fits hunks longs place list (length words) h.2.0 (data_longs hunks longs top words fits))
  size_passes word (Bss size) h fits = rw h.0 (content_fits hunks longs place list (size_longs size) (omega arith) (bss_longs hunks longs size fits))
  size_passes word (Reloc groups) h fits = relocation_size (kind word) _ h.0
  size_passes word (Ext entries) h fits = rw h.0 refl
  size_passes word (Symbol entries) h fits = rw h.0 refl
  size_passes word (Debug words) h fits = rw h.0 refl
  size_passes word (Advisory words) h fits = unknown_size (kind word) _ h.0
  size_passes word End h fits = rw h refl

-- ---- the block

pub is_block : (hunks longs : ℕ) (b : BlockValue) → FitsBlock hunks longs b → IsBlock b
is_block zero longs b h = h
is_block (suc n) longs b h = h.block

pub fits_body : (hunks longs : ℕ) (b : BlockValue) → FitsBlock hunks longs b → FitsBody hunks longs b.body
fits_body zero longs b h = tt
fits_body (suc n) longs b h = h.fits

pub block_row_passes : (hunks longs : ℕ) (place : WordPlace) (list : Option Kind) (b : BlockValue) → FitsBlock hunks longs b → MayStand hunks place → refuse_standing (has_content place) (standing b.body) ≡ None →
    refuse_row (spot hunks longs place list) (Some (of_block b)) ≡ None
block_row_passes hunks longs place list b fits may ok =
    let p = spot hunks longs place list in
    let q = size_of_part (of_block b) in
    let is = is_block hunks longs b fits in
    let tests : (fits_kind (kind b.word) q && has_no_offsets q) ≡ true = both_hold (fits_kind (kind b.word) q) (has_no_offsets q) (kind_fits b.word b.body is.body) refl in
    neither (refuse_part p q) (refuse_far p (of_block b))
    (placed (is_in_place p q) (refuse_what block_part p q) strange (is_placed hunks longs place list q refl may)
    (neither (by_reason (refuse_block_word p b.word)) _ (ap by_reason (block_word_passes hunks longs place list b fits may ok))
    (neither _ (refuse_size p (kind b.word) q) (holding _ strange tests) (size_passes hunks longs place list b.word b.body is.body (fits_body hunks longs b fits)))))
    refl
