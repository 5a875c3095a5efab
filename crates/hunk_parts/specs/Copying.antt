-- What is written range by range, after what there was: bytes or rows. The laws that a taker of ranges
-- has to give stand here, too, as code can't cite what is in proofs/.
use Rattle.std.specs.Prelude.{◌≡◌, ◌≤◌, ◌+◌, ◌-◌, ℕ, List, [], ◌++◌, length, take, drop}
use Rattle.std.proofs.Common.{refl, sym, ap, ◌∙◌, append-nil, append_assoc, length-append, arith}
use Rattle.std.proofs.lemmas.List.{drop-drop}

-- The list goes on with these items, from place m to place n, and what lies after them is as it was.
pub record Follows {A : Type 0} (old : List A) (m : ℕ) (items new : List A) (n : ℕ) : Type 0 where
  pub place : n ≡ m + length items
  pub front : take n new ≡ take m old ++ items
  pub rest : drop n new ≡ drop n old

abbrev pub Copies : {A : Type 0} → List A → ℕ → List A → List A → ℕ → Type 0
Copies old m items new n = (length new ≡ length old) × (m + length items ≤ length old → Follows old m items new n)

pub copies_none : {A : Type 0} (old : List A) (n : ℕ) → Copies old n [] old n
copies_none old n = (refl, λ room. record { place = omega arith; front = sym (append-nil (take n old)); rest = refl })

-- What is the same from one place on is so from a later one on.
drop_same : {A : Type 0} (xs ys : List A) (n k : ℕ) → n ≤ k → drop n xs ≡ drop n ys → drop k xs ≡ drop k ys
drop_same {A} xs ys n k less same =
    let on : n + (k - n) ≡ k = omega (arith, less) in
    ap (λ (j : ℕ). drop j xs) (sym on) ∙ sym (drop-drop (k - n) n xs) ∙ ap (λ (zs : List A). drop (k - n) zs) same ∙ drop-drop (k - n) n ys ∙ ap (λ (j : ℕ). drop j ys) on

pub copies_more : {A : Type 0} (a b c : List A) (m n k : ℕ) (xs ys : List A) → Copies a m xs b n → Copies b n ys c k → Copies a m (xs ++ ys) c k
copies_more {A} a b c m n k xs ys first next = (
  next.0 ∙ first.0,
  λ room.
      let sum = length-append xs ys in
      let here = first.1 (omega (arith, room, sum)) in
      let there = next.1 (omega (arith, room, sum, here.place, first.0)) in
      record {
        place = omega (arith, sum, here.place, there.place);
        front = there.front ∙ ap (λ (zs : List A). zs ++ ys) here.front ∙ append_assoc (take m a) xs ys;
        rest = there.rest ∙ drop_same b a n k (omega (arith, there.place)) here.rest;
      },
)
