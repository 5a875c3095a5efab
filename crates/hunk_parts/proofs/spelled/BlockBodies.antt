-- The body of a block that is not refused, by the kind of its word.
use Rattle.std.proofs.Common.{◌≡◌, ℕ, zero, suc, ◌^◌, ◌<◌, true, not, ◌&&◌, cond, List, [], length, refl, sym, ap, ◌∙◌, arith, Option, Some, None}
use Rattle.std.specs.Prelude.{◌==◌, nat_lt, unwrap_or}
use Rattle.std.proofs.lemmas.Bool.{and_parts, eqb-true, ltb-true, not-false, not-true}
use Rattle.hunk_words.specs.Bits.{has_both_bits, is_advisory, is_relocation, kind, memory_bits, size_longs, size_word}
use Rattle.hunk_words.specs.Longs.{IsLong}
use Rattle.hunk_words.specs.Limits.{name_limit}
use Rattle.hunk_words.specs.declared.block_word.Kind.{Kind}
use Rattle.hunk_words.specs.declared.block_word.Kind.TheVariants as kinds
use Rattle.hunk_words.specs.declared.reason.Reason.TheVariants as reasons
use Rattle.hunk_grammar.specs.Modes.{refuse_alone_kind}
use Rattle.hunk_grammar.specs.declared.object_position.WordPlace.{WordPlace}
use Rattle.hunk_blocks.specs.Values.{BlockBody, Name, Code, Data, Bss, Reloc, Ext, Symbol, Debug, Advisory, End, FitsWord, is_unknown}
use Rattle.hunk_blocks.proofs.Lists.{passed_both, passed_true}
use Rattle.hunk_parts.specs.PartFaults.{PartSize, fits_kind, has_no_content, has_no_value, items_of, refuse_size, size_of_part}
use Rattle.hunk_parts.specs.Parts.{block_part, item_parts, part, payload_of, size_value}
use Rattle.hunk_parts.proofs.spelled.BlockTests.{BlockPasses, FitsLongs, content_passes, mode_of}
use Rattle.hunk_parts.proofs.spelled.Passing.{spot}
use Rattle.hunk_parts.proofs.spelled.PartTests.{no_longs, test_holds}
use Rattle.hunk_parts.proofs.spelled.Tails.{AreItems, FitsBody, HasLongs, IsListOf}

-- the list that a block of this kind opens
abbrev pub list_of : Kind → Option Kind
list_of k = cond (nat_lt 0 (items_of k)) (Some k) None

-- A body of these fields and items.
pub record BodyMade (hunks longs word value : ℕ) (content : List ℕ) (items : BlockBody) : Type 0 where
  pub body : BlockBody
  pub is : FitsWord word body
  pub fits : FitsBody hunks longs body
  pub value_is : size_value body ≡ value
  pub content_is : unwrap_or (payload_of body) [] ≡ content
  pub items_are : item_parts body ≡ item_parts items

-- ---- those that declare a size

code_fits : (hunks longs top : ℕ) (words : List ℕ) → FitsLongs hunks longs (length words) → FitsBody hunks longs (Code top words)
code_fits zero longs top words h = tt
code_fits (suc n) longs top words h = h

data_fits : (hunks longs top : ℕ) (words : List ℕ) → FitsLongs hunks longs (length words) → FitsBody hunks longs (Data top words)
data_fits zero longs top words h = tt
data_fits (suc n) longs top words h = h

bss_fits : (hunks longs size : ℕ) → FitsLongs hunks longs (size_longs size) → FitsBody hunks longs (Bss size)
bss_fits zero longs size h = tt
bss_fits (suc n) longs size h = h

top_bits : (value : ℕ) → IsLong value → memory_bits value < 4
top_bits value fit = omega (arith, fit)

only_top : (value : ℕ) → size_longs value ≡ 0 → size_word (memory_bits value) 0 ≡ value
only_top value none = omega (arith, none)

-- ---- those that declare none

named : (hunks longs : ℕ) (words : List ℕ) → FitsBody hunks longs (Name words)
named zero longs words = tt
named (suc n) longs words = tt

noted : (hunks longs : ℕ) (words : List ℕ) → FitsBody hunks longs (Debug words)
noted zero longs words = tt
noted (suc n) longs words = tt

advised : (hunks longs : ℕ) (words : List ℕ) → FitsBody hunks longs (Advisory words)
advised zero longs words = tt
advised (suc n) longs words = tt

ended : (hunks longs : ℕ) → FitsBody hunks longs End
ended zero longs = tt
ended (suc n) longs = tt

-- ---- by the kind

module _ (hunks longs : ℕ) (place : WordPlace) (list : Option Kind) (word value : ℕ) (content offsets : List ℕ) (items : BlockBody) (fit : HasLongs (part block_part word value content offsets)) where
  abbrev Made : Type 0
  Made = BodyMade hunks longs word value content items

  abbrev this : PartSize
  this = size_of_part (part block_part word value content offsets)

  -- The word is of this kind, and nothing is refused.
  record OfKind (k : Kind) : Type 0 where
    pub kind_is : kind word ≡ k
    pub alone : refuse_alone_kind (mode_of hunks) (is_advisory word) k ≡ None
    pub fits : fits_kind k this ≡ true
    pub size : refuse_size (spot hunks longs place list) k this ≡ None
    pub items_are : AreItems hunks longs (list_of k) items

  none_listed : items ≡ End → item_parts End ≡ item_parts items
  none_listed e = ap item_parts (sym e)

  -- ---- lists, and END

  listed : (k : Kind) (body : BlockBody) → kind word ≡ k → IsListOf k body → FitsBody hunks longs body → value ≡ 0 → content ≡ [] → BodyMade hunks longs word value content body
  listed k (Reloc groups) is h body_fits no_value no_content = record {
    body = Reloc groups;
    is = (ap is_relocation is ∙ h.0, h.1);
    fits = body_fits;
    value_is = sym no_value;
    content_is = sym no_content;
    items_are = refl;
  }
  listed k (Symbol entries) is h body_fits no_value no_content = record {
    body = Symbol entries;
    is = (is ∙ h.0, h.1);
    fits = body_fits;
    value_is = sym no_value;
    content_is = sym no_content;
    items_are = refl;
  }
  listed k (Ext entries) is h body_fits no_value no_content = record {
    body = Ext entries;
    is = (is ∙ h.0, h.1);
    fits = body_fits;
    value_is = sym no_value;
    content_is = sym no_content;
    items_are = refl;
  }
  listed k _ is h body_fits no_value no_content = absurd h

  list_made : (k : Kind) → kind word ≡ k → (has_no_value this && has_no_content this) ≡ true → IsListOf k items → FitsBody hunks longs items → Made
  list_made k is empty h body_fits =
      let e = and_parts (has_no_value this) (has_no_content this) empty in
      listed k items is h body_fits (eqb-true value 0 e.0) (no_longs content e.1)

  end_made : OfKind kinds.End → Made
  end_made h =
      let e = and_parts (has_no_value this) (has_no_content this) h.fits in
      record {
        body = End;
        is = h.kind_is;
        fits = ended hunks longs;
        value_is = sym (eqb-true value 0 e.0);
        content_is = sym (no_longs content e.1);
        items_are = none_listed h.items_are;
      }

  -- ---- content

  sized_fits : (k : Kind) → fits_kind kinds.Code this ≡ true → size_longs value ≡ 0
  sized_fits k h = eqb-true (size_longs value) 0 (not-false (size_longs value == 0) (not-true (not (size_longs value == 0)) h))

  code_made : OfKind kinds.Code → Made
  code_made h =
      let c = content_passes hunks longs place list (length content) h.size in
      record {
        body = Code (memory_bits value) content;
        is = (h.kind_is, top_bits value fit.value, (c.0, fit.content));
        fits = code_fits hunks longs (memory_bits value) content c.1;
        value_is = only_top value (sized_fits kinds.Code h.fits);
        content_is = refl;
        items_are = none_listed h.items_are;
      }

  data_made : OfKind kinds.Data → Made
  data_made h =
      let c = content_passes hunks longs place list (length content) h.size in
      record {
        body = Data (memory_bits value) content;
        is = (h.kind_is, top_bits value fit.value, (c.0, fit.content));
        fits = data_fits hunks longs (memory_bits value) content c.1;
        value_is = only_top value (sized_fits kinds.Data h.fits);
        content_is = refl;
        items_are = none_listed h.items_are;
      }

  bss_made : OfKind kinds.Bss → Made
  bss_made h = record {
    body = Bss value;
    is = (h.kind_is, fit.value);
    fits = bss_fits hunks longs value (content_passes hunks longs place list (size_longs value) h.size).1;
    value_is = refl;
    content_is = sym (no_longs content h.fits);
    items_are = none_listed h.items_are;
  }

  -- ---- names and notes

  name_made : OfKind kinds.Name → Made
  name_made h = record {
    body = Name content;
    is = (h.kind_is, (ltb-true (length content) name_limit (test_holds (nat_lt (length content) name_limit) _ h.size), fit.content));
    fits = named hunks longs content;
    value_is = sym (eqb-true value 0 h.fits);
    content_is = refl;
    items_are = none_listed h.items_are;
  }

  debug_made : OfKind kinds.Debug → Made
  debug_made h =
      let e = and_parts (has_no_value this) (nat_lt (length content) (2 ^ 32)) h.fits in
      record {
        body = Debug content;
        is = (h.kind_is, (ltb-true (length content) (2 ^ 32) e.1, fit.content));
        fits = noted hunks longs content;
        value_is = sym (eqb-true value 0 e.0);
        content_is = refl;
        items_are = none_listed h.items_are;
      }

  advisory_made : (n : ℕ) → OfKind (kinds.Unknown n) → Made
  advisory_made n h =
      let e = and_parts (has_no_value this) (nat_lt (length content) (2 ^ 32)) h.fits in
      record {
        body = Advisory content;
        is = (ap is_unknown h.kind_is, passed_true (is_advisory word) reasons.UnknownBlock h.alone, (ltb-true (length content) (2 ^ 32) e.1, fit.content));
        fits = advised hunks longs content;
        value_is = sym (eqb-true value 0 e.0);
        content_is = refl;
        items_are = none_listed h.items_are;
      }

  -- ---- each kind

  made : (k : Kind) → OfKind k → Made
  made kinds.Code h = code_made h
  made kinds.Data h = data_made h
  made kinds.Bss h = bss_made h
  made kinds.Name h = name_made h
  made kinds.Debug h = debug_made h
  made (kinds.Unknown n) h = advisory_made n h
  made kinds.End h = end_made h
  made kinds.Symbol h = list_made kinds.Symbol h.kind_is h.fits h.items_are.0 h.items_are.1
  made kinds.Ext h = list_made kinds.Ext h.kind_is h.fits h.items_are.0 h.items_are.1
  made kinds.Reloc32 h = list_made kinds.Reloc32 h.kind_is h.fits h.items_are.0 h.items_are.1
  made kinds.Reloc16 h = list_made kinds.Reloc16 h.kind_is h.fits h.items_are.0 h.items_are.1
  made kinds.Reloc8 h = list_made kinds.Reloc8 h.kind_is h.fits h.items_are.0 h.items_are.1
  made kinds.Drel32 h = list_made kinds.Drel32 h.kind_is h.fits h.items_are.0 h.items_are.1
  made kinds.Drel16 h = list_made kinds.Drel16 h.kind_is h.fits h.items_are.0 h.items_are.1
  made kinds.Drel8 h = list_made kinds.Drel8 h.kind_is h.fits h.items_are.0 h.items_are.1
  made kinds.RelReloc32 h = list_made kinds.RelReloc32 h.kind_is h.fits h.items_are.0 h.items_are.1
  made kinds.AbsReloc16 h = list_made kinds.AbsReloc16 h.kind_is h.fits h.items_are.0 h.items_are.1
  made kinds.Unit h = absurd (let e = h.alone in cc)
  made _ h = absurd (let e = h.alone in cc)

  -- the body of a block that is not refused
  pub body_made : BlockPasses hunks longs place list word value content offsets → AreItems hunks longs (list_of (kind word)) items → Made
  body_made h are =
      made (kind word) (record {
        kind_is = refl;
        alone = (passed_both (has_both_bits word) reasons.BothBits _ h.alone).1;
        fits = h.fits;
        size = h.size;
        items_are = are;
      })
