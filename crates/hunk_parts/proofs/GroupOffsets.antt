-- The offsets of a group, one by one.
use Rattle.std.proofs.Common.{add-one, ◌≡◌, ◌<◌, ◌+◌, ◌*◌, ◌^◌, ◌&&◌, ℕ, Bool, true, false, not, nat_lt, List, length, drop, get_or, ap, ◌∙◌, refl, suc, Option, None, cond, sym, subst, if◌then◌else◌, ◌==◌}
use Rattle.std.proofs.Math.Seq.{drop-cons}
use Rattle.std.proofs.lemmas.Bool.{false≢true, ltb-true}
use Rattle.std.proofs.lemmas.Option.{none-some}
use Rattle.hunk_parts.specs.PartFaults.{has_no_content, has_no_value, open_items, refuse_group, PartPlace, PartSize, Refusal, is_in_place, or_else, because, refuse_hunk, refuse_offsets, refuse_part, refuse_what, strange, where_true}
use Rattle.hunk_parts.specs.Parts.{group_part, hunk_part}
use Rattle.hunk_words.specs.declared.reason.Reason.TheVariants as reasons

-- One that does not pass the end is left behind.
pub one_inside : (declared ahead : ℕ) (xs : List ℕ) (i w : ℕ) → i < length xs → w ≡ get_or xs i 0 → nat_lt (4 * declared) (w + 4) ≡ false
    → refuse_offsets declared ahead (drop i xs) ≡ refuse_offsets declared (ahead + 4) (drop (i + 1) xs)
one_inside declared ahead xs i w inside is passes =
    ap (λ (ys : List ℕ). refuse_offsets declared ahead ys) (drop-cons xs i 0 inside)
    ∙ ap (λ (b : Bool). if b then because ahead reasons.BadOffset else refuse_offsets declared (ahead + 4) (drop (suc i) xs)) (ap (λ (v : ℕ). nat_lt (4 * declared) (v + 4)) (sym is) ∙ passes)
    ∙ ap (λ (k : ℕ). refuse_offsets declared (ahead + 4) (drop k xs)) (sym (add-one i))

-- ---- the offsets of a group that is not refused fit their count

not_strange : (b : Bool) (next : Option Refusal) → (cond b next strange) ≡ None → next ≡ None
not_strange true next none = none
not_strange false next none = absurd (none-some _ (sym none))

fits : (b : Bool) (next : Option Refusal) → or_else (where_true (not b) strange) next ≡ None → b ≡ true
fits true next none = refl
fits false next none = absurd (none-some _ (sym none))

last_true : (a b c d e : Bool) → (a && b && c && (d && e)) ≡ true → e ≡ true
last_true true true true true e all = all
last_true true true true false e all = absurd (false≢true all)
last_true true true false d e all = absurd (false≢true all)
last_true true false c d e all = absurd (false≢true all)
last_true false b c d e all = absurd (false≢true all)

-- the tests of a part that is of such a kind
abbrev refuse_by : ℕ → PartPlace → PartSize → Option Refusal
refuse_by what p q =
    if what == hunk_part then refuse_hunk p q else if is_in_place p q then refuse_what what p q else strange

pub few_offsets : (p : PartPlace) (q : PartSize) → q.what ≡ group_part → refuse_part p q ≡ None → q.offsets < 2 ^ 32
few_offsets p q group none = ltb-true q.offsets (2 ^ 32)
    (last_true (open_items p.list == group_part) (has_no_value q) (has_no_content q) (nat_lt 0 q.offsets) _ (fits _ (refuse_group p q) (not_strange _ _ (subst (λ (what : ℕ). refuse_by what p q ≡ None) group none))))
