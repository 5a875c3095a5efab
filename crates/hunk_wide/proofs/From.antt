-- From which bytes a plain text comes: longwords that are given out as they are, and words of blocks.
use Rattle.std.proofs.Common.{◌≡◌, ℕ, zero, suc, ◌+◌, ◌*◌, ◌^◌, ◌<◌, Bool, false, cond, eqb, ltb, List, [], ◌∷◌, ◌++◌, length, get_or, refl, sym, ap, ap₂, subst, ◌∙◌, append_assoc, Some, None, arith}
use Rattle.std.specs.Int.{from_be_bytes, to_be_bytes, w32}
use Rattle.std.specs.List.{AllByRecursion}
use Rattle.std.proofs.lemmas.{Nat.{from_be_bytes-to_be_bytes_4}}
use Rattle.hunk_words.specs.declared.reason.Reason.TheVariants as reasons
use Rattle.hunk_words.specs.{Bits.{end_word, kind}, Longs.{IsBytes, bytes_of}}
use Rattle.hunk_blocks.specs.Faults.{words}
use Rattle.hunk_grammar.specs.BlockParts.{Part, Part as parts}
use Rattle.hunk_grammar.specs.declared.phase.Phase.TheVariants as phases
use Rattle.hunk_grammar.specs.declared.position.OpenHunk.{OpenHunk}
use Rattle.hunk_grammar.specs.declared.position.Position.{Position}
use Rattle.hunk_grammar.specs.declared.position.Position.TheVariants as positions
use Rattle.hunk_grammar.specs.Positions.{role_at, step}
use Rattle.hunk_grammar.specs.Roles.{InBlock, Place, Role, Role as roles, refuse, refuse_part, refuse_word}
use Rattle.hunk_files.specs.{Machines.{longs_of, refuse_in_load}, WordsRead.{AreAccepted, Labelled}}
use Rattle.hunk_wide.specs.declared.position.FilePosition.{FilePosition}
use Rattle.hunk_wide.specs.declared.position.FilePosition.TheVariants as files
use Rattle.hunk_wide.specs.declared.spot.Spot.{Spot}
use Rattle.hunk_wide.specs.declared.spot.Spot.TheVariants.{Straight, Long}
use Rattle.hunk_wide.specs.declared.spot.Given.{Given}
use Rattle.hunk_wide.specs.declared.spot.Given.TheVariants.{Same}
use Rattle.hunk_wide.specs.FileEnds.{ends}
use Rattle.hunk_wide.specs.Longwords.{behind_load, given, go_on, out_long}
use Rattle.hunk_wide.specs.Plain.{plain_from}
use Rattle.hunk_wide.specs.Spellings.{counted, ends_from, has_end, one_if, short_blocks_from}
use Rattle.hunk_wide.specs.Spellings as spellings
use Rattle.hunk_wide.proofs.{Along.step_same, Spelled.{first}, Steps.{Along, AtBlock, neither}}

-- ---- stretches of the input

-- The input begins with these bytes, for which so many are counted, and for what comes after them `more` is given out.
pub record Comes (s t : Spot) (input more front : List ℕ) (short_blocks ends : ℕ) : Type 0 where
  pub back : List ℕ
  pub split : input ≡ front ++ back
  pub gives : plain_from t back ≡ more
  pub shorts_are : short_blocks_from s input ≡ short_blocks + short_blocks_from t back
  pub ends_are : ends_from s input ≡ ends + ends_from t back

pub none_comes : (s t : Spot) (input more : List ℕ) → s ≡ t → plain_from s input ≡ more → Comes s t input more [] 0 0
none_comes s t input more same e = record {
  back = input;
  split = refl;
  gives = ap (λ (x : Spot). plain_from x input) (sym same) ∙ e;
  shorts_are = omega (arith, ap (λ (x : Spot). short_blocks_from x input) same);
  ends_are = omega (arith, ap (λ (x : Spot). ends_from x input) same);
}

pub two_come : (s t u : Spot) (input mid more front second : List ℕ) (i j m n : ℕ) (c : Comes s t input mid front i m) → Comes t u c.back more second j n
    → Comes s u input more (front ++ second) (i + j) (m + n)
two_come s t u input mid more front second i j m n c d = record {
  back = d.back;
  split = c.split ∙ ap (λ (x : List ℕ). front ++ x) d.split ∙ sym (append_assoc front second d.back);
  gives = d.gives;
  shorts_are = omega (arith, c.shorts_are, d.shorts_are);
  ends_are = omega (arith, c.ends_are, d.ends_are);
}

-- to the same spot, of the same bytes, by other names
pub comes_as : (s t u : Spot) (input more front named : List ℕ) (i m : ℕ) → t ≡ u → front ≡ named → Comes s t input more front i m → Comes s u input more named i m
comes_as s t u input more front named i m spot name c =
    subst (λ (x : Spot). Comes s x input more named i m) spot (subst (λ (x : List ℕ). Comes s t input more x i m) name c)

pub bytes_behind : (front back : List ℕ) → IsBytes (front ++ back) → IsBytes back
bytes_behind [] back h = h
bytes_behind (x ∷ xs) back h = bytes_behind xs back (λ i. h (suc i))

pub back_bytes : (s t : Spot) (input more front : List ℕ) (i m : ℕ) (c : Comes s t input more front i m) → IsBytes input → IsBytes c.back
back_bytes s t input more front i m c h = bytes_behind front c.back (subst IsBytes c.split h)

-- ---- the front of a list

abbrev pub front4 : List ℕ → List ℕ
front4 (a ∷ b ∷ c ∷ d ∷ rest) = a ∷ b ∷ c ∷ d ∷ []
front4 _ = []

abbrev pub back4 : List ℕ → List ℕ
back4 (a ∷ b ∷ c ∷ d ∷ rest) = rest
back4 _ = []

-- ---- bytes that are given out as they are

-- after four of them
abbrev after_four : ℕ → FilePosition → Spot
after_four zero next = Long next
after_four (suc k) next = Straight (4 * k + 3) next

record OneComes (s t : Spot) (input : List ℕ) (a : ℕ) (rest : List ℕ) : Type 0 where
  back : List ℕ
  split : input ≡ a ∷ back
  gives : plain_from t back ≡ rest
  shorts_are : short_blocks_from s input ≡ short_blocks_from t back
  ends_are : ends_from s input ≡ ends_from t back

head_is : (a b : ℕ) (xs ys : List ℕ) → a ∷ xs ≡ b ∷ ys → a ≡ b
head_is a b xs ys e = ap (λ (x : List ℕ). get_or x 0 0) e

abbrev behind_head : List ℕ → List ℕ
behind_head [] = []
behind_head (x ∷ xs) = xs

one_comes : (owed : ℕ) (next : FilePosition) (input : List ℕ) (a : ℕ) (rest : List ℕ) → plain_from (Straight (suc owed) next) input ≡ a ∷ rest
    → OneComes (Straight (suc owed) next) (Straight owed next) input a rest
unfolding plain_from counted
one_comes owed next [] a rest e = absurd (omega (arith, ap length e))
one_comes owed next (b ∷ bs) a rest e = record {
  back = bs;
  split = ap (λ (x : ℕ). x ∷ bs) (head_is b a (plain_from (Straight owed next) bs) rest e);
  gives = ap behind_head e;
  shorts_are = refl;
  ends_are = refl;
}

last_comes : (next : FilePosition) (input : List ℕ) (a : ℕ) (rest : List ℕ) → plain_from (Straight 0 next) input ≡ a ∷ rest → OneComes (Straight 0 next) (Long next) input a rest
unfolding plain_from counted
last_comes next [] a rest e = absurd (omega (arith, ap length e))
last_comes next (b ∷ bs) a rest e = record {
  back = bs;
  split = ap (λ (x : ℕ). x ∷ bs) (head_is b a (plain_from (Long next) bs) rest e);
  gives = ap behind_head e;
  shorts_are = refl;
  ends_are = refl;
}

join_four : (s t u v x : Spot) (input : List ℕ) (a b c d : ℕ) (more : List ℕ) (first : OneComes s t input a (b ∷ c ∷ d ∷ more)) (second : OneComes t u first.back b (c ∷ d ∷ more)) (third : OneComes u v second.back c (d ∷ more))
    → OneComes v x third.back d more → Comes s x input more (a ∷ b ∷ c ∷ d ∷ []) 0 0
join_four s t u v x input a b c d more first second third fourth = record {
  back = fourth.back;
  split = first.split ∙ ap (λ (l : List ℕ). a ∷ l) (second.split ∙ ap (λ (l : List ℕ). b ∷ l) (third.split ∙ ap (λ (l : List ℕ). c ∷ l) fourth.split));
  gives = fourth.gives;
  shorts_are = omega (arith, first.shorts_are, second.shorts_are, third.shorts_are, fourth.shorts_are);
  ends_are = omega (arith, first.ends_are, second.ends_are, third.ends_are, fourth.ends_are);
}

four_come : (k : ℕ) (next : FilePosition) (input : List ℕ) (a b c d : ℕ) (more : List ℕ) → plain_from (Straight (4 * k + 3) next) input ≡ a ∷ b ∷ c ∷ d ∷ more
    → Comes (Straight (4 * k + 3) next) (after_four k next) input more (a ∷ b ∷ c ∷ d ∷ []) 0 0
four_come zero next input a b c d more e =
    let first = one_comes 2 next input a (b ∷ c ∷ d ∷ more) e in
    let second = one_comes 1 next first.back b (c ∷ d ∷ more) first.gives in
    let third = one_comes 0 next second.back c (d ∷ more) second.gives in
    join_four (Straight 3 next) (Straight 2 next) (Straight 1 next) (Straight 0 next) (Long next) input a b c d more first second third (last_comes next third.back d more third.gives)
four_come (suc k) next input a b c d more e =
    let n : ℕ = 4 * k + 3 in
    let same : 4 * suc k + 3 ≡ suc (suc (suc (suc n))) = omega arith in
    let f = ap (λ (m : ℕ). plain_from (Straight m next) input) (sym same) ∙ e in
    let first = one_comes (suc (suc (suc n))) next input a (b ∷ c ∷ d ∷ more) f in
    let second = one_comes (suc (suc n)) next first.back b (c ∷ d ∷ more) first.gives in
    let third = one_comes (suc n) next second.back c (d ∷ more) second.gives in
    subst (λ (m : ℕ). Comes (Straight m next) (Straight n next) input more (a ∷ b ∷ c ∷ d ∷ []) 0 0) (sym same)
    (join_four (Straight (suc (suc (suc (suc n)))) next) (Straight (suc (suc (suc n))) next) (Straight (suc (suc n)) next) (Straight (suc n) next) (Straight n next) input a b c d more
    first second third (one_comes n next third.back d more third.gives))

-- ---- longwords that no block begins with

-- A longword at p, which is given out as it is, and leads to `t`.
abbrev Steps : Position → ℕ → Type 0
Steps p w = (input more : List ℕ) → plain_from (go_on (files.Load p)) input ≡ to_be_bytes w32 w ++ more → Comes (go_on (files.Load p)) (go_on (files.Load (step p w))) input more (to_be_bytes w32 w) 0 0

content_steps : (o : OpenHunk) (l owed w : ℕ) → Steps (positions.Body o (phases.Content l owed)) w
content_steps o l zero w input more e = four_come zero _ input _ _ _ _ more e
content_steps o l (suc k) w input more e = four_come (suc k) _ input _ _ _ _ more e

payload_steps : (o : OpenHunk) (owed w : ℕ) → Steps (positions.Body o (phases.Payload owed)) w
payload_steps o zero w input more e = four_come zero _ input _ _ _ _ more e
payload_steps o (suc k) w input more e = four_come (suc k) _ input _ _ _ _ more e

symbol_steps : (o : OpenHunk) (owed w : ℕ) → Steps (positions.Body o (phases.Symbol owed)) w
symbol_steps o zero w input more e = four_come zero _ input _ _ _ _ more e
symbol_steps o (suc k) w input more e = four_come (suc k) _ input _ _ _ _ more e

front_steps : (o : OpenHunk) (owed w : ℕ) → Steps (positions.Body o (phases.ExtFront owed)) w
front_steps o zero w input more e = four_come zero _ input _ _ _ _ more e
front_steps o (suc k) w input more e = four_come (suc k) _ input _ _ _ _ more e

rest_steps : (o : OpenHunk) (owed w : ℕ) → Steps (positions.Body o (phases.ExtRest owed)) w
rest_steps o zero w input more e = four_come zero _ input _ _ _ _ more e
rest_steps o (suc k) w input more e = four_come (suc k) _ input _ _ _ _ more e

offset_steps : (o : OpenHunk) (t owed w : ℕ) → Steps (positions.Body o (phases.Offset t owed)) w
offset_steps o t zero w input more e = four_come zero _ input _ _ _ _ more e
offset_steps o t (suc k) w input more e = four_come (suc k) _ input _ _ _ _ more e

pub from_cells : (a b c d w : ℕ) (rest more : List ℕ) → w < 2 ^ 32 → a ∷ b ∷ c ∷ d ∷ rest ≡ to_be_bytes w32 w ++ more → from_be_bytes w32 (a ∷ b ∷ c ∷ d ∷ []) ≡ w
from_cells a b c d w rest more fits e = ap (λ (x : List ℕ). from_be_bytes w32 (front4 x)) e ∙ from_be_bytes-to_be_bytes_4 w fits

long_steps : (p : Position) (w : ℕ) → w < 2 ^ 32 → ((x : ℕ) → given (files.Load p) x ≡ Same) → ends (files.Load p) ≡ false → behind_load p w ≡ go_on (files.Load (step p w))
    → (input more : List ℕ) → plain_from (Long (files.Load p)) input ≡ to_be_bytes w32 w ++ more → Comes (Long (files.Load p)) (go_on (files.Load (step p w))) input more (to_be_bytes w32 w) 0 0
unfolding plain_from counted
long_steps p w fits same not next [] more e =
    let none : [] ≡ to_be_bytes w32 w ++ more = ap (λ (b : Bool). cond b (to_be_bytes w32 end_word) []) (sym not) ∙ e in
    absurd (omega (arith, ap length none))
long_steps p w fits same not next (a ∷ []) more e = absurd (omega (arith, ap length e))
long_steps p w fits same not next (a ∷ b ∷ []) more e = absurd (omega (arith, ap length e))
long_steps p w fits same not next (a ∷ b ∷ c ∷ []) more e = absurd (omega (arith, ap length e))
long_steps p w fits same not next (a ∷ b ∷ c ∷ d ∷ rest) more e =
    let x : ℕ = from_be_bytes w32 (a ∷ b ∷ c ∷ d ∷ []) in
    let out : (a ∷ b ∷ c ∷ d ∷ []) ++ plain_from (behind_load p x) rest ≡ to_be_bytes w32 w ++ more =
    ap (λ (g : Given). out_long g (a ∷ b ∷ c ∷ d ∷ []) x ++ plain_from (behind_load p x) rest) (sym (same x)) ∙ e in
    let word : x ≡ w = from_cells a b c d w (plain_from (behind_load p x) rest) more fits out in
    let to : behind_load p x ≡ go_on (files.Load (step p w)) = ap (behind_load p) word ∙ next in
    record {
      back = rest;
      split = ap (λ (l : List ℕ). l ++ rest) (ap front4 out);
      gives = ap (λ (s : Spot). plain_from s rest) (sym to) ∙ ap back4 out;
      shorts_are = ap₂ (λ (g : Given) (s : Spot). one_if (spellings.is_short g) + short_blocks_from s rest) (same x) to;
      ends_are = ap₂ (λ (g : Given) (s : Spot). one_if (has_end g) + ends_from s rest) (same x) to;
    }

pub inner_steps : (longs : ℕ) (p : Position) (w : ℕ) → ((has : Bool) → AtBlock has p → ⊥) → w < 2 ^ 32 → refuse (role_at longs p) w ≡ None → Steps p w
unfolding plain_from counted
inner_steps longs positions.Done w inner fits h input more e = record { back = more; split = e; gives = refl; shorts_are = refl; ends_are = refl }
inner_steps longs (positions.Body o phases.FirstBlock) w inner fits h input more e = absurd (inner o.has_content refl)
inner_steps longs (positions.Body o phases.BlockWord) w inner fits h input more e = absurd (inner o.has_content refl)
inner_steps longs (positions.Body o (phases.Content l owed)) w inner fits h input more e = content_steps o l owed w input more e
inner_steps longs (positions.Body o (phases.Payload owed)) w inner fits h input more e = payload_steps o owed w input more e
inner_steps longs (positions.Body o (phases.Symbol owed)) w inner fits h input more e = symbol_steps o owed w input more e
inner_steps longs (positions.Body o (phases.ExtFront owed)) w inner fits h input more e = front_steps o owed w input more e
inner_steps longs (positions.Body o (phases.ExtRest owed)) w inner fits h input more e = rest_steps o owed w input more e
inner_steps longs (positions.Body o (phases.Offset t owed)) w inner fits h input more e = offset_steps o t owed w input more e
inner_steps longs (positions.Body o phase) w inner fits h input more e = long_steps (positions.Body o phase) w fits (λ x. refl) refl refl input more e
inner_steps longs p w inner fits h input more e = long_steps p w fits (λ x. refl) refl (step_same longs p w h) input more e

-- ---- roles that no block word has

abbrev pub IsInnerPart : Part → Type 0
IsInnerPart parts.BlockWord = ⊥
IsInnerPart _ = Unit {0}

abbrev pub IsInner : Role → Type 0
IsInner (InBlock place part) = IsInnerPart part
IsInner _ = Unit {0}

not_short : (place : Place) (part : Part) → IsInnerPart part → refuse_part place part 0x3FC ≡ Some reasons.ShortReloc → ⊥
not_short place parts.BlockWord h e = h
not_short place parts.ContentSize h e = neither (ltb place.longs 0x3FC) (Some reasons.ContentTooLong) None (Some reasons.ShortReloc) (λ x. cc x) (λ x. cc x) e
not_short place parts.NameCount h e = cc e
not_short place parts.GroupCount h e = neither (eqb place.longs 0) (Some reasons.NothingToRelocate) None (Some reasons.ShortReloc) (λ x. cc x) (λ x. cc x) e
not_short place parts.Target h e = neither (ltb 0x3FC place.hunks) None (Some reasons.BadTarget) (Some reasons.ShortReloc) (λ x. cc x) (λ x. cc x) e
not_short place parts.Offset h e = neither (ltb (4 * place.longs) (0x3FC + 4)) (Some reasons.BadOffset) None (Some reasons.ShortReloc) (λ x. cc x) (λ x. cc x) e
not_short place _ h e = cc e

inner_not_short : (role : Role) → IsInner role → refuse role 0x3FC ≡ Some reasons.ShortReloc → ⊥
inner_not_short (InBlock place part) h e = not_short place part h e
inner_not_short (roles.LastHunk hunks) h e = neither (eqb (0x3FC + 1) hunks) None (Some reasons.LastHunk) (Some reasons.ShortReloc) (λ x. cc x) (λ x. cc x) e
inner_not_short _ h e = cc e

pub word_says : (has : Bool) → refuse_word has 0x3FC ≡ Some reasons.ShortReloc
unfolding kind
word_says has = refl

pub not_at_block : (role : Role) (p : Position) → IsInner role → ((w : ℕ) → refuse_in_load role p w ≡ refuse role w) → (has : Bool) → AtBlock has p → ⊥
not_at_block role (positions.Body o phases.FirstBlock) h test has at = inner_not_short role h (sym (test 0x3FC) ∙ word_says o.has_content)
not_at_block role (positions.Body o phases.BlockWord) h test has at = inner_not_short role h (sym (test 0x3FC) ∙ word_says o.has_content)
not_at_block role (positions.Body o _) h test has at = at
not_at_block role _ h test has at = at

-- Longwords of which none is a block word come from their own bytes.
pub inner_come : (p q : Position) (ls : Labelled) (input more : List ℕ) → AllByRecursion (λ (l : Role × ℕ). IsInner l.0) ls → Along p ls q → AreAccepted ls
    → plain_from (go_on (files.Load p)) input ≡ bytes_of (words ls) ++ more → Comes (go_on (files.Load p)) (go_on (files.Load q)) input more (bytes_of (words ls)) 0 0
unfolding bytes_of
inner_come p q [] input more inner along ok e = none_comes (go_on (files.Load p)) (go_on (files.Load q)) input more (ap (λ (x : Position). go_on (files.Load x)) along) e
inner_come p q (l ∷ ls) input more inner along ok e =
    let c = inner_steps (longs_of l.0) p l.1 (not_at_block l.0 p inner.0 along.0) ok.0.0 (along.0 l.1 ∙ ok.0.1) input (bytes_of (words ls) ++ more) e in
    two_come (go_on (files.Load p)) (go_on (files.Load (step p l.1))) (go_on (files.Load q)) input (bytes_of (words ls) ++ more) more (to_be_bytes w32 l.1) (bytes_of (words ls)) 0 0 0 0 c
    (inner_come (step p l.1) q ls c.back more inner.1 along.1 ok.1 c.gives)
