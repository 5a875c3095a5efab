-- Bytes that are given out as they are, but for END that are put in before some of them.
use Rattle.std.proofs.Common.{◌≡◌, ℕ, ◌+◌, ◌-◌, ◌*◌, ◌<◌, ◌≤◌, Bool, true, false, cond, List, ◌++◌, length, length-append, take, drop, refl, sym, ap, ap₂, subst, ◌∙◌, append_assoc, arith}
use Rattle.std.specs.Int.{to_be_bytes, w32}
use Rattle.std.proofs.lemmas.{Bool.le-ltb, List.{append-nil, length-take, take-append-drop, take_rest}}
use mir.Val.{bool_byte}
use borrow.Rule.Slice.PartMut.{put_mid}
use Rattle.hunk_words.specs.Bits.{end_word}
use Rattle.hunk_grammar.specs.declared.position.OpenHunk.{OpenHunk}
use Rattle.hunk_wide.specs.declared.spot.Spot.{Spot}
use Rattle.hunk_wide.specs.InFile.{LeadsTo}
use Rattle.hunk_wide.specs.Parts.{AsIsBehind, IsSpelled, WithEnds, load_at, put_before, word_at}
use Rattle.hunk_wide.specs.Places.{GoesBy, here_or, place_from}
use Rattle.hunk_wide.specs.Plain.{GivesFor, plain_from}
use Rattle.hunk_wide.specs.Spellings.{BeginsWith, ends_from, one_if, short_blocks_from}
use Rattle.hunk_wide.proofs.{BehindEnds.spelled_from, Cutting.{range_cut, take_add}, Leads.more_lead, Stretches.two_give, Written.put_more}

-- ---- one after the other

-- a byte that is not given out for these
pub here_past : (size given n later : ℕ) → given ≤ n → here_or size given n later ≡ size + later
here_past size given n later past = ap (λ (b : Bool). cond b (n - (given - size)) (size + later)) (le-ltb n given past)

-- the number that a flag is taken as
pub one_byte : (b : Bool) → bool_byte b ≡ one_if b
one_byte true = refl
one_byte false = refl

put_length : (is_behind : Bool) → length (put_before is_behind) ≡ 4 * one_if is_behind
put_length true = refl
put_length false = refl

one_at_most : (is_behind : Bool) → one_if is_behind ≤ 1
one_at_most true = omega arith
one_at_most false = omega arith

two_ends : (s t u : Spot) (xs ys : List ℕ) (count : ℕ) (is_behind : Bool) → 4 ≤ length ys → WithEnds s xs count t → AsIsBehind t ys is_behind u → WithEnds s (xs ++ ys) (count + one_if is_behind) u
two_ends s t u xs ys count is_behind word first second = record {
  few = omega (arith, first.few, word, one_at_most is_behind, length-append xs ys);
  len = λ more.
      omega (
        arith,
        ap (λ (x : List ℕ). length (plain_from s x)) (append_assoc xs ys more),
        first.len (ys ++ more),
        ap length (second.gives more),
        length-append (put_before is_behind ++ ys) (plain_from u more),
        length-append (put_before is_behind) ys,
        put_length is_behind,
        length-append xs ys,
      );
  short_blocks = λ more. ap (short_blocks_from s) (append_assoc xs ys more) ∙ first.short_blocks (ys ++ more) ∙ second.short_blocks more;
  ends = λ more. omega (arith, ap (ends_from s) (append_assoc xs ys more), first.ends (ys ++ more), second.ends more);
  places = λ more n past.
      let front : ℕ = 4 * count + length xs in
      let back : ℕ = 4 * one_if is_behind + length ys in
      let less : n - front - back ≡ n - (4 * (count + one_if is_behind) + length (xs ++ ys)) = omega (arith, length-append xs ys) in
      let more_is = second.places more (n - front) ∙ here_past (length ys) back (n - front) (place_from u more (n - front - back)) (omega (arith, past, length-append xs ys)) in
      omega (
        arith,
        ap (λ (x : List ℕ). place_from s x n) (append_assoc xs ys more),
        first.places (ys ++ more) n (omega (arith, past, length-append xs ys)),
        more_is,
        ap (place_from u more) less,
        length-append xs ys,
      );
}

-- of an input the first bytes, and then a block that is lent
pub block_ends : (s : Spot) (o next : OpenHunk) (is_first is_behind is_end : Bool) (bytes : List ℕ) (at size count : ℕ) → WithEnds s (take at bytes) count (load_at (word_at o is_first))
    → IsSpelled o (take (length bytes - at) (drop at bytes)) size is_behind is_end next → WithEnds s (take (at + size) bytes) (count + one_if is_behind) (load_at (word_at next is_end))
block_ends s o next is_first is_behind is_end bytes at size count first block =
    let lent : List ℕ = take (length bytes - at) (drop at bytes) in
    subst (λ (x : List ℕ). WithEnds s x (count + one_if is_behind) (load_at (word_at next is_end)))
    (ap (λ (x : List ℕ). take at bytes ++ take size x) (take_rest bytes at) ∙ sym (take_add at size bytes))
    (two_ends s _ _ (take at bytes) (take size lent) count is_behind (omega (arith, block.word, block.whole, length-take size lent)) first (spelled_from o next is_first is_behind is_end lent size block))

-- ---- in front of an input

pub ends_go : (s t : Spot) (bytes : List ℕ) (n size given count : ℕ) → 0 < size → size ≤ length bytes → given ≡ size + 4 * count → given ≤ n → WithEnds s (take size bytes) count t → GoesBy s bytes n size given t
ends_go s t bytes n size given count some whole e past part =
    let len : length (take size bytes) ≡ size = omega (arith, whole, length-take size bytes) in
    let all : 4 * count + length (take size bytes) ≡ given = omega (arith, len, e) in
    record {
      some = some;
      whole = whole;
      goes =
          ap (λ (x : List ℕ). place_from s x n) (sym (take-append-drop size bytes))
          ∙ part.places (drop size bytes) n (omega (arith, all, past))
          ∙ (λ j. len j + place_from t (drop size bytes) (n - all j))
          ∙ sym (here_past size given n (place_from t (drop size bytes) (n - given)) past);
    }

pub ends_begin : (s t : Spot) (bytes : List ℕ) (size given count : ℕ) → 0 < size → size ≤ length bytes → given ≡ size + 4 * count → WithEnds s (take size bytes) count t → BeginsWith s bytes size given 0 count t
ends_begin s t bytes size given count some whole e part = record {
  some = some;
  whole = whole;
  few = omega (arith, part.few, whole, length-take size bytes);
  len = omega (arith, ap (λ (x : List ℕ). length (plain_from s x)) all, part.len (drop size bytes), length-take size bytes, whole, e);
  short_blocks = omega (arith, ap (short_blocks_from s) all, part.short_blocks (drop size bytes));
  count = ap (ends_from s) all ∙ part.ends (drop size bytes);
}
  where
    all : bytes ≡ take size bytes ++ drop size bytes
    all = sym (take-append-drop size bytes)

-- ---- copied, where those before `from` are copied already

pending_more : (piece : List ℕ) (from at size : ℕ) → from ≤ at → take (at + size - from) (drop from piece) ≡ take (at - from) (drop from piece) ++ take size (drop at piece)
pending_more piece from at size before =
    let there : from + (at - from) ≡ at = omega (arith, before) in
    let left : at + size - at ≡ size = omega arith in
    range_cut piece from (at + size) (at - from) (omega (arith, before))
    ∙ (λ j. take (at - from) (drop from piece) ++ take (at + size - there j) (drop (there j) piece))
    ∙ ap (λ (k : ℕ). take (at - from) (drop from piece) ++ take k (drop at piece)) left

-- They are copied now, and END is put after them.
pub with_end : (piece buf new buf2 : List ℕ) (at from given count from2 given2 : ℕ) (is_behind : Bool) → is_behind ≡ true → from2 ≡ at → given2 ≡ given + count → buf2 ≡ put_mid given (length buf - given) buf new → given ≤ length buf
    → count ≤ length new → take count new ≡ take (at - from) (drop from piece) ++ to_be_bytes w32 end_word
    → take given2 buf2 ++ take (at - from2) (drop from2 piece) ≡ (take given buf ++ take (at - from) (drop from piece)) ++ put_before is_behind
with_end piece buf new buf2 at from given count from2 given2 is_behind behind f g b inside room copied =
    let none : at - at ≡ 0 = omega arith in
    (λ j. take (g j) (b j) ++ take (at - f j) (drop (f j) piece))
    ∙ ap₂ (λ (x : List ℕ) (k : ℕ). x ++ take k (drop at piece)) (put_more given count buf new inside room ∙ ap (λ (x : List ℕ). take given buf ++ x) copied) none
    ∙ append-nil (take given buf ++ (take (at - from) (drop from piece) ++ to_be_bytes w32 end_word))
    ∙ sym (append_assoc (take given buf) (take (at - from) (drop from piece)) (to_be_bytes w32 end_word))
    ∙ sym (ap (λ (x : Bool). (take given buf ++ take (at - from) (drop from piece)) ++ put_before x) behind)

pub without_end : (piece buf buf2 : List ℕ) (at from given from2 given2 : ℕ) (is_behind : Bool) → is_behind ≡ false → from2 ≡ from → given2 ≡ given → buf2 ≡ buf
    → take given2 buf2 ++ take (at - from2) (drop from2 piece) ≡ (take given buf ++ take (at - from) (drop from piece)) ++ put_before is_behind
without_end piece buf buf2 at from given from2 given2 is_behind none f g b =
    let out : List ℕ = take given buf ++ take (at - from) (drop from piece) in
    (λ j. take (g j) (b j) ++ take (at - f j) (drop (f j) piece)) ∙ sym (ap (λ (x : Bool). out ++ put_before x) none ∙ append-nil out)

pub block_gives : (s : Spot) (o next : OpenHunk) (is_first is_behind is_end : Bool) (piece out buf : List ℕ) (at size from given : ℕ) → from ≤ at → GivesFor s (take at piece) out (load_at (word_at o is_first))
    → IsSpelled o (take (length piece - at) (drop at piece)) size is_behind is_end next → take given buf ++ take (at - from) (drop from piece) ≡ out ++ put_before is_behind
    → GivesFor s (take (at + size) piece) (take given buf ++ take (at + size - from) (drop from piece)) (load_at (word_at next is_end))
block_gives s o next is_first is_behind is_end piece out buf at size from given before first block copied more =
    ap (λ (x : List ℕ). plain_from s (x ++ more)) (take_add at size piece)
    ∙ two_give s (load_at (word_at o is_first)) (load_at (word_at next is_end)) (take at piece) bytes out (put_before is_behind ++ bytes) first
    (subst (λ (x : List ℕ). GivesFor (load_at (word_at o is_first)) (take size x) (put_before is_behind ++ take size x) (load_at (word_at next is_end))) (take_rest piece at)
    (spelled_from o next is_first is_behind is_end (take (length piece - at) (drop at piece)) size block).gives) more
    ∙ ap (λ (x : List ℕ). x ++ plain_from (load_at (word_at next is_end)) more) (sym whole)
  where
    bytes : List ℕ
    bytes = take size (drop at piece)

    whole : take given buf ++ take (at + size - from) (drop from piece) ≡ out ++ (put_before is_behind ++ bytes)
    whole =
        ap (λ (x : List ℕ). take given buf ++ x) (pending_more piece from at size before)
        ∙ sym (append_assoc (take given buf) (take (at - from) (drop from piece)) bytes)
        ∙ ap (λ (x : List ℕ). x ++ bytes) copied
        ∙ append_assoc out (put_before is_behind) bytes

pub block_leads : (s : Spot) (o next : OpenHunk) (is_first is_behind is_end : Bool) (piece : List ℕ) (at size : ℕ) → LeadsTo s (take at piece) (load_at (word_at o is_first))
    → IsSpelled o (take (length piece - at) (drop at piece)) size is_behind is_end next → LeadsTo s (take (at + size) piece) (load_at (word_at next is_end))
block_leads s o next is_first is_behind is_end piece at size first block =
    more_lead s (load_at (word_at o is_first)) (load_at (word_at next is_end)) piece (take (length piece - at) (drop at piece)) at size first
    (spelled_from o next is_first is_behind is_end (take (length piece - at) (drop at piece)) size block).leads (take_rest piece at)
