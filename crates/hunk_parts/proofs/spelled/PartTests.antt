-- What follows where no test refuses a part.
use Rattle.std.proofs.Common.{◌≡◌, ℕ, suc, ◌+◌, ◌*◌, Bool, true, false, cond, not, ◌&&◌, ltb, eqb, List, [], ◌∷◌, length, refl, arith, Option, Some, None}
use Rattle.std.proofs.lemmas.Bool.{and_parts, eqb-true, lt-ltb, ltb-false, ne_eqb}
use Rattle.std.specs.List.{AllByRecursion}
use Rattle.hunk_words.specs.declared.reason.Reason.{Reason}
use Rattle.hunk_words.specs.declared.block_word.Kind.{Kind}
use Rattle.hunk_words.specs.declared.block_word.Kind.TheVariants as kinds
use Rattle.hunk_words.specs.Bits.{is_relocation}
use Rattle.hunk_files.specs.LoadFile.{IsInside}
use Rattle.hunk_parts.specs.PartFaults.{PartPlace, PartSize, Refusal, by_reason, is_in_place, open_items, or_else, refuse_offsets, refuse_what, strange, where_true}
use Rattle.hunk_parts.specs.Parts.{entry_part, group_part, symbol_part}

-- ---- tests in turn

pub both_pass : (a b : Option Refusal) → or_else a b ≡ None → (a ≡ None) × (b ≡ None)
both_pass (Some r) b e = absurd cc
both_pass None b e = (refl, e)

pub test_holds : (t : Bool) (r : Refusal) → where_true (not t) (Some r) ≡ None → t ≡ true
test_holds true r e = refl
test_holds false r e = absurd cc

pub test_fails : (t : Bool) (r : Refusal) → where_true t (Some r) ≡ None → t ≡ false
test_fails true r e = absurd cc
test_fails false r e = refl

pub no_reason : (o : Option Reason) → by_reason o ≡ None → o ≡ None
no_reason None e = refl
no_reason (Some r) e = absurd cc

pub passes_where : (t : Bool) (o : Option Refusal) (r : Refusal) → cond t o (Some r) ≡ None → (t ≡ true) × (o ≡ None)
passes_where true o r e = (refl, e)
passes_where false o r e = absurd cc

pub passes_unless : (t : Bool) (o : Option Refusal) (r : Refusal) → cond t (Some r) o ≡ None → (t ≡ false) × (o ≡ None)
passes_unless true o r e = absurd cc
passes_unless false o r e = (refl, e)

-- a part that is no HUNK
pub in_its_place : (p : PartPlace) (q : PartSize) → cond (is_in_place p q) (refuse_what q.what p q) strange ≡ None → (is_in_place p q ≡ true) × (refuse_what q.what p q ≡ None)
in_its_place p q e = passes_where (is_in_place p q) (refuse_what q.what p q) _ e

-- ---- tests that hold together

pub three_hold : (a b c : Bool) → (a && b && c) ≡ true → (a ≡ true) × (b ≡ true) × (c ≡ true)
three_hold true true true e = (refl, refl, refl)
three_hold true true false e = absurd cc
three_hold true false c e = absurd cc
three_hold false b c e = absurd cc

pub four_hold : (a b c d : Bool) → (a && b && c && d) ≡ true → (a ≡ true) × (b ≡ true) × (c ≡ true) × (d ≡ true)
four_hold a b c d e = let h = and_parts (a && b && c) d e in let k = three_hold a b c h.0 in (k.0, k.1, k.2, h.1)

-- ---- numbers

pub some_hunks : (n : ℕ) → ltb 0 (suc n) ≡ true
some_hunks n = lt-ltb 0 (suc n) (omega arith)

pub no_zero : (n : ℕ) → eqb (suc n) 0 ≡ false
no_zero n = ne_eqb (suc n) 0 (λ e. omega (arith, e))

pub no_longs : (words : List ℕ) → eqb (length words) 0 ≡ true → words ≡ []
no_longs [] e = refl
no_longs (w ∷ words) e = absurd (omega (arith, eqb-true (length (w ∷ words)) 0 e))

-- ---- the open list

abbrev RelocatesOpen : Option Kind → Type 0
RelocatesOpen list = (k : Kind) × (list ≡ Some k) × (is_relocation k ≡ true)

pub opens_groups : (list : Option Kind) → eqb (open_items list) group_part ≡ true → RelocatesOpen list
opens_groups None e = absurd cc
opens_groups (Some kinds.Symbol) e = absurd cc
opens_groups (Some kinds.Ext) e = absurd cc
opens_groups (Some k) e = by_kind k (is_relocation k) refl e
  where
    by_kind : (k : Kind) (b : Bool) → is_relocation k ≡ b → eqb (cond b group_part 0) group_part ≡ true → RelocatesOpen (Some k)
    by_kind k true h e = (k, refl, h)
    by_kind k false h e = absurd cc

pub opens_symbols : (list : Option Kind) → eqb (open_items list) symbol_part ≡ true → list ≡ Some kinds.Symbol
opens_symbols (Some kinds.Symbol) e = refl
opens_symbols (Some kinds.Unit) e = absurd cc
opens_symbols _ e = absurd cc

pub opens_entries : (list : Option Kind) → eqb (open_items list) entry_part ≡ true → list ≡ Some kinds.Ext
opens_entries (Some kinds.Ext) e = refl
opens_entries (Some kinds.Unit) e = absurd cc
opens_entries _ e = absurd cc

-- ---- offsets of a load file

pub offsets_inside : (longs ahead : ℕ) (offsets : List ℕ) → refuse_offsets longs ahead offsets ≡ None → AllByRecursion (IsInside longs) offsets
offsets_inside longs ahead [] e = tt
offsets_inside longs ahead (o ∷ os) e =
    let h = passes_unless (ltb (4 * longs) (o + 4)) (refuse_offsets longs (ahead + 4) os) _ e in
    (ltb-false (4 * longs) (o + 4) h.0, offsets_inside longs (ahead + 4) os h.1)
