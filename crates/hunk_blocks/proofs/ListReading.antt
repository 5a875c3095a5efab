-- Reading the groups or entries of a block one after another, up to the zero that ends them.
use Rattle.std.proofs.Common.{rules, ◌≡◌, ◌≢◌, ℕ, ◌+◌, ◌-◌, ◌*◌, ◌<◌, List, [], ◌∷◌, ◌++◌, length, map, refl, sym, ap, ap₂, subst, ◌∙◌, append_assoc, length-append, Option, Some, None, arith}
use Rattle.std.specs.{List.flat_map, Iterator.{MakesProgress, item_count}, Prelude.{Result, IfErr, IsErrAnd}}
use Rattle.hunk_blocks.specs.{Cuts.{Cut, cut_map, list_cut}, Placed.{Placed, GivesFirst, EndsItemAt}}
use Rattle.hunk_blocks.specs.Reading.{Unread, Reads, ReadsValue, BeginsWithSome, BeginsWithList}
use Rattle.hunk_blocks.proofs.{CutLaws.{AreCut, GoesOn, cut, list_cut_ends, list_goes_on}, Lists.{flat_map-more, map-more}}

module _ {A : Type 0} {Is : A → Type 0} {text : A → List ℕ} {one : List ℕ → Cut A} (are : AreCut Is text one) where
  -- ---- one item

  module _ (a : Unread) (word : ℕ) (after : List ℕ) (list : BeginsWithList Is text a.rest) (begins : a.rest ≡ word ∷ after) (some : word ≢ 0) where
    on : GoesOn are a.rest
    on = list_goes_on are a.rest list word after begins some

    pub item_there : BeginsWithSome Is text a.rest
    item_there = record { value = (one a.rest).value; is = on.is; more = (one a.rest).rest; begins = on.text_in_front }

    -- It was read, and the list goes on.
    pub record IsFirst (b : Unread) (x : A) : Type 0 where
      pub first : list_cut one a.rest ≡ cut_map (λ xs. x ∷ xs) (list_cut one b.rest)
      pub place : b.place ≡ a.place + 4 * length (text x)
      pub left : BeginsWithList Is text b.rest
      pub fewer : length b.rest < length a.rest

    pub item_first : (b : Unread) (x : A) → ReadsValue one a b x → IsFirst b x
    item_first b x r =
        let here : Cut A → Type 0 = λ c. (a.rest ≡ text c.value ++ c.rest) × BeginsWithList Is text c.rest × (list_cut one a.rest ≡ cut_map (λ xs. c.value ∷ xs) (list_cut one c.rest)) in
        let all = subst here r.spelled (on.text_in_front, on.left, on.list) in
        let size : length a.rest ≡ length (text x) + length b.rest = ap length all.0 ∙ length-append (text x) b.rest in
        record { first = all.2; place = omega (arith, r.further, size); left = all.1; fewer = omega (arith, size, ap length (are.text_is x)) }

  -- ---- passing over a list

  -- Some of the items were read, and the list goes on.
  pub record Passes (old new : Unread) : Type 0 where
    pub left : BeginsWithList Is text new.rest
    pub after : (list_cut one new.rest).rest ≡ (list_cut one old.rest).rest
    pub further : new.place + 4 * length new.rest ≡ old.place + 4 * length old.rest

  pub item_passed : (a b c : Unread) (word : ℕ) (after : List ℕ) (x : A) → Passes a b → b.rest ≡ word ∷ after → word ≢ 0 → ReadsValue one b c x → Passes a c
  item_passed a b c word after x p e some r =
      let f = item_first b word after p.left e some c x r in
      record { left = f.left; after = ap (λ (l : Cut (List A)). l.rest) (sym f.first) ∙ p.after; further = r.further ∙ p.further }

  pub list_passed : (a b c : Unread) (word : ℕ) (after : List ℕ) → Passes a b → b.rest ≡ word ∷ after → word ≡ 0 → (read : ℕ) → Reads b c (read ∷ []) → (start : Unread) → start ≡ a → ReadsValue (list_cut one) a c (list_cut one start.rest).value
  list_passed a b c word after p e none read r start begin =
      let same : read ∷ c.rest ≡ word ∷ after = sym r.front ∙ e in
      let ends : b.rest ≡ 0 ∷ c.rest = r.front ∙ ap (λ w. w ∷ c.rest) (let f = same in let g : read ≡ word = cc in g ∙ none) in
      let rest : (list_cut one a.rest).rest ≡ c.rest = sym p.after ∙ ap (λ (l : Cut (List A)). l.rest) (list_cut_ends are b.rest c.rest ends) in
      record { spelled = ap₂ (λ (u : Unread) (l : List ℕ). cut (list_cut one u.rest).value l) (sym begin) rest; further = omega (arith, r.further, ap length r.front, p.further) }

  -- ---- as an iterator sees it

  abbrev seen : Unread → Placed (List A)
  seen u = record { place = u.place; value = (list_cut one u.rest).value }

  module _ {T : Type 0} (view : T → A) (a : Unread) (now : Placed (List A)) (same : seen a ≡ now) (list : BeginsWithList Is text a.rest) (word : ℕ) (after : List ℕ) (begins : a.rest ≡ word ∷ after) where
    pub none_given : word ≡ 0 → GivesFirst view text now None now
    none_given none = (ap (λ (p : Placed (List A)). p.value) (sym same) ∙ ap (λ (l : Cut (List A)). l.value) (list_cut_ends are a.rest after (begins ∙ ap (λ w. w ∷ after) none)), refl)

    pub first_given : word ≢ 0 → (b : Unread) (item : T) → ReadsValue one a b (view item) → GivesFirst view text now (Some item) (seen b)
    first_given some b item r =
        let f = item_first a word after list begins some b (view item) r in
        (ap (λ (p : Placed (List A)). p.value) (sym same) ∙ ap (λ (l : Cut (List A)). l.value) f.first, f.place ∙ ap (λ (p : Placed (List A)). p.place + 4 * length (text (view item))) same)

-- an item given is one less to come
pub item_less : {T A : Type 0} (view : T → A) (text : A → List ℕ) (can : Placed (List A) → Type 0) (always : (s : Placed (List A)) → can s) (s t : Placed (List A)) (item : T) → GivesFirst view text s (Some item) t → MakesProgress can (item_count {A = A} (λ p. p.value)) s (Some item) t
item_less view text can always s t item gives = record { on = λ h. (always t, tt, omega (arith, ap length gives.0)); keeps = always t; rests = λ h. tt }

-- ---- keeping the items

module _ {T A : Type 0} (view : T → A) (text : A → List ℕ) (all : Placed (List A)) where
  -- These items were taken, and the others are left.
  pub record Keeps (left : Placed (List A)) (kept : List T) : Type 0 where
    pub split : all.value ≡ map view kept ++ left.value
    pub place : left.place ≡ all.place + 4 * length (flat_map text (map view kept))

  pub item_kept : (old new : Placed (List A)) (kept : List T) (found : Option T) (item : T) → Keeps old kept → found ≡ Some item → GivesFirst view text old found new → Keeps new (kept ++ item ∷ [])
  item_kept old new kept found item k same gives = search (rules, map-more, append_assoc, flat_map-more, length-append)

  -- The item that was taken last ends with the longword before the place.
  pub item_ends : (new : Placed (List A)) (kept : List T) (item : T) (at : ℕ) → Keeps new (kept ++ item ∷ []) → 0 < length (text (view item)) → at + 4 ≡ new.place → EndsItemAt text all at
  item_ends new kept item at k some e =
      let more : map view (kept ++ item ∷ []) ≡ map view kept ++ view item ∷ [] = map-more view kept item in
      let size : length (flat_map text (map view kept ++ view item ∷ [])) ≡ length (flat_map text (map view kept)) + length (text (view item)) =
      ap length (flat_map-more text (map view kept) (view item)) ∙ length-append (flat_map text (map view kept)) (text (view item)) in
      record {
        number = length (flat_map text (map view kept ++ view item ∷ [])) - 1;
        ends =
            record {
              before = map view kept;
              item = view item;
              after = new.value;
              split = k.split ∙ ap (λ l. l ++ new.value) more ∙ append_assoc (map view kept) (view item ∷ []) new.value;
              last = omega (arith, size, some);
            };
        place = omega (arith, e, k.place, ap (λ l. length (flat_map text l)) more, size, some);
      }

-- what holds of any refusal
pub if_err : {T E : Type 0} (r : Result T E) (P : E → Type 0) → ((e : E) → P e) → IfErr r P
if_err r P e = search rules

pub if_err_and : {T E : Type 0} (r : Result T E) (Q P : E → Type 0) → IsErrAnd r Q → ((e : E) → Q e → P e) → IfErr r P
if_err_and r Q P e h = search rules
