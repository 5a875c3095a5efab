-- The longword in front of the name of a symbol or an entry.
use Rattle.std.proofs.Common.{◌≡◌, ℕ, ◌^◌, ◌<◌, cond, is_some, option_map, List, [], ◌∷◌, length, refl, arith, Option, Some, None, inl, inr}
use Rattle.std.specs.Option.{option_map}
use Rattle.std.proofs.lemmas.Bool.{cases_lt}
use Rattle.hunk_words.specs.Bits.{entry_type, name_longs}
use Rattle.hunk_words.specs.Longs.{AreLongs}
use Rattle.hunk_words.specs.declared.reason.Reason.TheVariants as reasons
use Rattle.hunk_grammar.specs.ExtKinds.{ext_kind, shape_of_kind}
use Rattle.hunk_grammar.specs.declared.ext_kind.ExtKind.{ExtKind}
use Rattle.hunk_grammar.specs.ObjectRoles.{refuse_ext_type}
use Rattle.hunk_blocks.specs.Values.{IsEntryWord}
use Rattle.hunk_parts.proofs.ExtTypes.{large_type}
use Rattle.hunk_parts.proofs.spelled.ItemTests.{NamePasses, name_word}

pub type_of : (top : ℕ) (name : List ℕ) → length name < 2 ^ 24 → entry_type (name_word top name) ≡ top
type_of top name short = omega (arith, short)

pub count_of : (top : ℕ) (name : List ℕ) → length name < 2 ^ 24 → length name ≡ name_longs (name_word top name)
count_of top name short = omega (arith, short)

empty : (name : List ℕ) → length name ≡ 0 → name ≡ []
empty [] e = refl
empty (w ∷ name) e = absurd (omega (arith, e))

pub is_entry_word : (top : ℕ) (name : List ℕ) → top < 256 → NamePasses top name → AreLongs name → IsEntryWord (name_word top name) name
is_entry_word top name byte passes longs = record {
  fits = omega (arith, byte, passes.short);
  goes_on = λ e. passes.goes (omega (arith, e)) (empty name (omega (arith, e)));
  count = count_of top name passes.short;
  longs = longs;
}

-- the types of entries are bytes
found : (o : Option ExtKind) → option_map shape_of_kind o ≡ None → cond (is_some o) None (Some reasons.ExtKind) ≡ None → ⊥
found None none ok = cc
found (Some k) none ok = cc

pub type_is_byte : (n : ℕ) → refuse_ext_type n ≡ None → n < 256
type_is_byte n ok = elim (cases_lt n 256) [ inl small ↦ small | inr far ↦ absurd (found (ext_kind n) (large_type n far) ok) ]
