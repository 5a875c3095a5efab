-- Parts of a file that are given out as they are, passed over at once.
use Rattle.std.proofs.Common.{◌≡◌, ℕ, zero, suc, ◌+◌, ◌-◌, ◌*◌, ◌<◌, ◌≤◌, Bool, true, false, cond, ltb, List, [], ◌∷◌, ◌++◌, Option, None, Some, length, take, drop, length-append, refl, sym, ap, subst, ◌∙◌, append_assoc, zero-add, arith}
use Rattle.std.specs.Int.{from_be_bytes, w32}
use Rattle.std.proofs.lemmas.{Bool.{le-ltb, ltb-false, ltb-true}, List.{length-drop, length-take, take_rest}}
use Rattle.hunk_words.specs.Bits.{has_both_bits, kind}
use Rattle.hunk_grammar.specs.declared.phase.Phase.{Phase}
use Rattle.hunk_grammar.specs.declared.phase.Phase.TheVariants as phases
use Rattle.hunk_grammar.specs.declared.position.OpenHunk.{OpenHunk}
use Rattle.hunk_grammar.specs.declared.position.Position.{Position}
use Rattle.hunk_grammar.specs.declared.position.Position.TheVariants as positions
use Rattle.hunk_grammar.specs.PhaseSteps as inside
use Rattle.hunk_grammar.specs.Positions.{close, onward, open_next, owe_entries}
use Rattle.hunk_wide.specs.declared.position.FilePosition.{FilePosition}
use Rattle.hunk_wide.specs.declared.position.FilePosition.TheVariants as files
use Rattle.hunk_wide.specs.declared.spot.Spot.{Spot}
use Rattle.hunk_wide.specs.declared.spot.Spot.TheVariants.{Straight, Long}
use Rattle.hunk_wide.specs.declared.spot.Given.{Given}
use Rattle.hunk_wide.specs.declared.spot.Given.TheVariants.{Same, BehindEnd, AsLong}
use Rattle.hunk_wide.specs.FileEnds.{ends}
use Rattle.hunk_wide.specs.Longwords.{after_straight, behind_block, behind_load, behind_long, given, given_block, go_on, out_long, straight}
use Rattle.hunk_wide.specs.Parts.{AsIs, OfHunk, IsBlock, IsBody, IsFileEnd, IsNext, IsRow, front_word, load_at, past, word_at}
use Rattle.hunk_wide.specs.InFile.{LeadsTo, spot_after}
use Rattle.hunk_wide.specs.Places.{count_long, here_or, place_from}
use Rattle.hunk_wide.specs.Plain.{plain_from}
use Rattle.hunk_wide.specs.Spellings.{counted, ends_from, has_end, is_short, one_if, short_blocks_from}
use Rattle.hunk_wide.proofs.{Cutting.take_add, Leads.two_lead, Stretches.two_give, Written.part_length}

-- what is next in a load file at this position
abbrev pub load_on : Position → Spot
load_on p = go_on (files.Load p)

-- ---- one after the other

here_none : (n : ℕ) (later : ℕ → ℕ) → later n ≡ here_or 0 0 n (later (n - 0))
here_none n later =
    let same : n ≡ n - 0 = omega arith in
    ap later same ∙ sym (ap (λ (b : Bool). cond b (n - (0 - 0)) (0 + later (n - 0))) (le-ltb n 0 (omega arith)) ∙ zero-add (later (n - 0)))

here_two : (a b n : ℕ) (later : ℕ → ℕ) → here_or a a n (here_or b b (n - a) (later (n - a - b))) ≡ here_or (a + b) (a + b) n (later (n - (a + b)))
here_two a b n later = go (ltb n a) (ltb (n - a) b) (ltb n (a + b)) refl refl refl
  where
    less : n - a - b ≡ n - (a + b)
    less = omega arith

    go : (x y z : Bool) → ltb n a ≡ x → ltb (n - a) b ≡ y → ltb n (a + b) ≡ z
        → cond x (n - (a - a)) (a + cond y (n - a - (b - b)) (b + later (n - a - b))) ≡ cond z (n - (a + b - (a + b))) (a + b + later (n - (a + b)))
    go true y true d e f = omega arith
    go true y false d e f = absurd (omega (arith, ltb-true n a d, ltb-false n (a + b) f))
    go false true true d e f = omega (arith, ltb-false n a d)
    go false true false d e f = absurd (omega (arith, ltb-false n a d, ltb-true (n - a) b e, ltb-false n (a + b) f))
    go false false true d e f = absurd (omega (arith, ltb-false n a d, ltb-false (n - a) b e, ltb-true n (a + b) f))
    go false false false d e f = omega (arith, ap later less)

pub none_as_is : (s : Spot) → AsIs s [] s
none_as_is s = record { gives = λ more. refl; leads = λ more. refl; short_blocks = λ more. refl; ends = λ more. refl; places = λ more n. here_none n (place_from s more) }

two_places : (s t u : Spot) (xs ys : List ℕ) → AsIs s xs t → AsIs t ys u → (more : List ℕ) (n : ℕ)
    → place_from s ((xs ++ ys) ++ more) n ≡ here_or (length (xs ++ ys)) (length (xs ++ ys)) n (place_from u more (n - length (xs ++ ys)))
two_places s t u xs ys first second more n =
    let a : ℕ = length xs in
    ap (λ (x : List ℕ). place_from s x n) (append_assoc xs ys more)
    ∙ first.places (ys ++ more) n
    ∙ ap (here_or a a n) (second.places more (n - a))
    ∙ here_two a (length ys) n (place_from u more)
    ∙ ap (λ (k : ℕ). here_or k k n (place_from u more (n - k))) (sym (length-append xs ys))

pub two_as_is : (s t u : Spot) (xs ys : List ℕ) → AsIs s xs t → AsIs t ys u → AsIs s (xs ++ ys) u
two_as_is s t u xs ys first second = record {
  gives = two_give s t u xs ys xs ys first.gives second.gives;
  leads = two_lead s t u xs ys first.leads second.leads;
  short_blocks = λ more. ap (short_blocks_from s) (append_assoc xs ys more) ∙ first.short_blocks (ys ++ more) ∙ second.short_blocks more;
  ends = λ more. ap (ends_from s) (append_assoc xs ys more) ∙ first.ends (ys ++ more) ∙ second.ends more;
  places = two_places s t u xs ys first second;
}

-- of an input the first bytes, and then bytes after them
pub more_as_is : (s t u : Spot) (bytes : List ℕ) (at n : ℕ) → AsIs s (take at bytes) t → AsIs t (take n (drop at bytes)) u → AsIs s (take (at + n) bytes) u
more_as_is s t u bytes at n first second = subst (λ (x : List ℕ). AsIs s x u) (sym (take_add at n bytes)) (two_as_is s t u (take at bytes) (take n (drop at bytes)) first second)

-- the same, where the bytes after them are lent
pub part_as_is : (s t u : Spot) (bytes : List ℕ) (at n : ℕ) → AsIs s (take at bytes) t → AsIs t (take n (take (length bytes - at) (drop at bytes))) u → AsIs s (take (at + n) bytes) u
part_as_is s t u bytes at n first second = more_as_is s t u bytes at n first (subst (λ (x : List ℕ). AsIs t (take n x) u) (take_rest bytes at) second)

-- ---- units

same_counts : (g : Given) (m : ℕ) → g ≡ Same → (one_if (is_short g) + m ≡ m) × (one_if (has_end g) + m ≡ m)
same_counts g m e = subst (λ (x : Given). (one_if (is_short x) + m ≡ m) × (one_if (has_end x) + m ≡ m)) (sym e) (omega arith, omega arith)

-- a longword that the plain spelling has as it is
pub long_as_is : (p : FilePosition) (bytes : List ℕ) → 4 ≤ length bytes → given p (front_word bytes) ≡ Same → AsIs (Long p) (take 4 bytes) (behind_long p (front_word bytes))
unfolding plain_from counted spot_after place_from
long_as_is p (a ∷ b ∷ c ∷ d ∷ rest) whole same =
    let w : ℕ = from_be_bytes w32 (a ∷ b ∷ c ∷ d ∷ []) in
    record {
      gives = λ more. ap (λ (g : Given). out_long g (a ∷ b ∷ c ∷ d ∷ []) w ++ plain_from (behind_long p w) more) same;
      leads = λ more. refl;
      short_blocks = λ more. (same_counts (given p w) (short_blocks_from (behind_long p w) more) same).0;
      ends = λ more. (same_counts (given p w) (ends_from (behind_long p w) more) same).1;
      places = λ more n. ap (λ (g : Given). here_or 4 (count_long g) n (place_from (behind_long p w) more (n - count_long g))) same;
    }
long_as_is p _ whole same = absurd (omega arith)

straight_gives : (owed : ℕ) (next : FilePosition) (bytes more : List ℕ) → length bytes ≡ suc owed → plain_from (Straight owed next) (bytes ++ more) ≡ bytes ++ plain_from (Long next) more
unfolding plain_from
straight_gives owed next [] more len = absurd (omega (arith, len))
straight_gives zero next (b ∷ []) more len = refl
straight_gives zero next (b ∷ c ∷ bytes) more len = absurd (omega (arith, len))
straight_gives (suc owed) next (b ∷ bytes) more len = ap (λ (x : List ℕ). b ∷ x) (straight_gives owed next bytes more (omega (arith, len)))

straight_leads : (owed : ℕ) (next : FilePosition) (bytes : List ℕ) → length bytes ≡ suc owed → LeadsTo (Straight owed next) bytes (Long next)
unfolding spot_after
straight_leads owed next [] len more = absurd (omega (arith, len))
straight_leads zero next (b ∷ []) len more = refl
straight_leads zero next (b ∷ c ∷ bytes) len more = absurd (omega (arith, len))
straight_leads (suc owed) next (b ∷ bytes) len more = straight_leads owed next bytes (omega (arith, len)) more

straight_counted : (f : Given → ℕ) (e : FilePosition → ℕ) (owed : ℕ) (next : FilePosition) (bytes more : List ℕ) → length bytes ≡ suc owed → counted f e (Straight owed next) (bytes ++ more) ≡ counted f e (Long next) more
unfolding counted
straight_counted f e owed next [] more len = absurd (omega (arith, len))
straight_counted f e zero next (b ∷ []) more len = refl
straight_counted f e zero next (b ∷ c ∷ bytes) more len = absurd (omega (arith, len))
straight_counted f e (suc owed) next (b ∷ bytes) more len = straight_counted f e owed next bytes more (omega (arith, len))

straight_places : (owed : ℕ) (next : FilePosition) (bytes more : List ℕ) (n : ℕ) → length bytes ≡ suc owed
    → place_from (Straight owed next) (bytes ++ more) n ≡ here_or (length bytes) (length bytes) n (place_from (Long next) more (n - length bytes))
unfolding place_from
straight_places owed next [] more n len = absurd (omega (arith, len))
straight_places zero next (b ∷ []) more n len = refl
straight_places zero next (b ∷ c ∷ bytes) more n len = absurd (omega (arith, len))
straight_places (suc owed) next (b ∷ bytes) more n len =
    let k : ℕ = length bytes in
    let one : 1 + k ≡ suc k = omega arith in
    ap (here_or 1 1 n) (straight_places owed next bytes more (n - 1) (omega (arith, len)))
    ∙ here_two 1 k n (place_from (Long next) more)
    ∙ ap (λ (m : ℕ). here_or m m n (place_from (Long next) more (n - m))) one

pub straight_as_is : (owed : ℕ) (next : FilePosition) (bytes : List ℕ) → length bytes ≡ suc owed → AsIs (Straight owed next) bytes (Long next)
straight_as_is owed next bytes len = record {
  gives = λ more. straight_gives owed next bytes more len;
  leads = straight_leads owed next bytes len;
  short_blocks = λ more. straight_counted (λ g. one_if (is_short g)) (λ p. 0) owed next bytes more len;
  ends = λ more. straight_counted (λ g. one_if (has_end g)) (λ p. one_if (ends p)) owed next bytes more len;
  places = λ more n. straight_places owed next bytes more n len;
}

-- ---- runs of longwords that are owed

pub empty_run : (s : Spot) (bytes : List ℕ) → length bytes ≡ 0 → AsIs s bytes s
empty_run s [] len = none_as_is s
empty_run s (b ∷ bytes) len = absurd (omega (arith, len))

after_taken : (n m : ℕ) (bytes : List ℕ) → n + m ≤ length bytes → length (take m (drop n bytes)) ≡ m
after_taken n m bytes whole = omega (arith, length-take m (drop n bytes), length-drop n bytes)

-- a longword, and a run of so many that it owes
pub word_and_run : (p : FilePosition) (t : Spot) (bytes : List ℕ) (n : ℕ) → given p (front_word bytes) ≡ Same → 4 + 4 * n ≤ length bytes
    → ((run : List ℕ) → length run ≡ 4 * n → AsIs (behind_long p (front_word bytes)) run t) → AsIs (Long p) (take (4 + 4 * n) bytes) t
word_and_run p t bytes n same whole run =
    more_as_is (Long p) (behind_long p (front_word bytes)) t bytes 4 (4 * n) (long_as_is p bytes (omega arith) same)
    (run (take (4 * n) (drop 4 bytes)) (after_taken 4 (4 * n) bytes whole))

-- ---- rows of the table

row_owes : (hunks owed w : ℕ) → 0 < owed → has_both_bits w ≡ false → behind_load (positions.SizeWord hunks owed) w ≡ load_at (positions.SizeWord hunks (owed - 1))
row_owes hunks zero w some bare = absurd (omega arith)
row_owes hunks (suc owed) w some bare =
    let e : owed ≡ suc owed - 1 = omega arith in
    ap (λ (b : Bool). load_on (cond b (positions.Attributes hunks w (suc owed)) (owe_entries hunks (suc owed)))) bare ∙ ap (λ (n : ℕ). load_at (positions.SizeWord hunks n)) e

pub row_as_is : (hunks owed : ℕ) (bytes : List ℕ) → 0 < owed → IsRow bytes → AsIs (load_at (positions.SizeWord hunks owed)) (take 4 bytes) (load_at (positions.SizeWord hunks (owed - 1)))
row_as_is hunks owed bytes some row =
    subst (λ (s : Spot). AsIs (load_at (positions.SizeWord hunks owed)) (take 4 bytes) s) (row_owes hunks owed (front_word bytes) some row.bare)
    (long_as_is (files.Load (positions.SizeWord hunks owed)) bytes row.whole refl)

-- ---- blocks

block_same : (g : Given) (o : OpenHunk) (w : ℕ) → behind_block g o phases.FirstBlock w ≡ behind_block g o phases.BlockWord w
block_same Same o w = refl
block_same BehindEnd o w = refl
block_same AsLong o w = refl

pub first_gives : (o : OpenHunk) (bytes : List ℕ) → 4 ≤ length bytes → plain_from (load_at (positions.Body o phases.FirstBlock)) bytes ≡ plain_from (load_at (positions.Body o phases.BlockWord)) bytes
unfolding plain_from
first_gives o (a ∷ b ∷ c ∷ d ∷ rest) word =
    let w : ℕ = from_be_bytes w32 (a ∷ b ∷ c ∷ d ∷ []) in
    ap (λ (s : Spot). out_long (given_block o w) (a ∷ b ∷ c ∷ d ∷ []) w ++ plain_from s rest) (block_same (given_block o w) o w)
first_gives o _ word = absurd (omega arith)

pub first_leads : (o : OpenHunk) (bytes : List ℕ) → 4 ≤ length bytes → spot_after (load_at (positions.Body o phases.FirstBlock)) bytes ≡ spot_after (load_at (positions.Body o phases.BlockWord)) bytes
unfolding spot_after
first_leads o (a ∷ b ∷ c ∷ d ∷ rest) word =
    let w : ℕ = from_be_bytes w32 (a ∷ b ∷ c ∷ d ∷ []) in
    ap (λ (s : Spot). spot_after s rest) (block_same (given_block o w) o w)
first_leads o _ word = absurd (omega arith)

pub first_counted : (f : Given → ℕ) (e : FilePosition → ℕ) (o : OpenHunk) (bytes : List ℕ) → 4 ≤ length bytes
    → counted f e (load_at (positions.Body o phases.FirstBlock)) bytes ≡ counted f e (load_at (positions.Body o phases.BlockWord)) bytes
unfolding counted
first_counted f e o (a ∷ b ∷ c ∷ d ∷ rest) word =
    let w : ℕ = from_be_bytes w32 (a ∷ b ∷ c ∷ d ∷ []) in
    ap (λ (s : Spot). f (given_block o w) + counted f e s rest) (block_same (given_block o w) o w)
first_counted f e o _ word = absurd (omega arith)

pub first_places : (o : OpenHunk) (bytes : List ℕ) (n : ℕ) → 4 ≤ length bytes
    → place_from (load_at (positions.Body o phases.FirstBlock)) bytes n ≡ place_from (load_at (positions.Body o phases.BlockWord)) bytes n
unfolding place_from
first_places o (a ∷ b ∷ c ∷ d ∷ rest) n word =
    let w : ℕ = from_be_bytes w32 (a ∷ b ∷ c ∷ d ∷ []) in
    let count : ℕ = count_long (given_block o w) in
    ap (λ (s : Spot). here_or 4 count n (place_from s rest (n - count))) (block_same (given_block o w) o w)
first_places o _ n word = absurd (omega arith)

-- A hunk's first block leads to what a further one leads to.
first_too : (o : OpenHunk) (is_first : Bool) (bytes : List ℕ) (t : Spot) → 4 ≤ length bytes → AsIs (load_at (word_at o false)) bytes t → AsIs (load_at (word_at o is_first)) bytes t
first_too o false bytes t word part = part
first_too o true bytes t word part = record {
  gives = λ more. first_gives o (bytes ++ more) (whole more) ∙ part.gives more;
  leads = λ more. first_leads o (bytes ++ more) (whole more) ∙ part.leads more;
  short_blocks = λ more. first_counted (λ g. one_if (is_short g)) (λ p. 0) o (bytes ++ more) (whole more) ∙ part.short_blocks more;
  ends = λ more. first_counted (λ g. one_if (has_end g)) (λ p. one_if (ends p)) o (bytes ++ more) (whole more) ∙ part.ends more;
  places = λ more n. first_places o (bytes ++ more) n (whole more) ∙ part.places more n;
}
  where
    whole : (more : List ℕ) → 4 ≤ length (bytes ++ more)
    whole more = omega (arith, word, length-append bytes more)

-- from either on
pub block_from : (o next : OpenHunk) (is_first is_end : Bool) (bytes : List ℕ) (size : ℕ) → IsBlock o bytes size is_end next → AsIs (load_at (word_at o is_first)) (take size bytes) (load_at (word_at next is_end))
block_from o next is_first is_end bytes size block =
    first_too o is_first (take size bytes) _ (omega (arith, block.word, block.whole, length-take size bytes)) block.as_is

-- the word of a block
block_word : (o : OpenHunk) (bytes : List ℕ) (phase : Option Phase) → 4 ≤ length bytes → given_block o (front_word bytes) ≡ Same → inside.begin (kind (front_word bytes)) ≡ phase
    → AsIs (load_at (positions.Body o phases.BlockWord)) (take 4 bytes) (load_on (onward o (close o) phase))
block_word o bytes phase whole same begins =
    subst (λ (x : Option Phase). AsIs (load_at (positions.Body o phases.BlockWord)) (take 4 bytes) (load_on (onward o (close o) x))) begins
    (subst (λ (g : Given). AsIs (load_at (positions.Body o phases.BlockWord)) (take 4 bytes) (behind_block g o phases.BlockWord (front_word bytes))) same
    (long_as_is (files.Load (positions.Body o phases.BlockWord)) bytes whole same))

opens_next : (o next : OpenHunk) → IsNext o next → load_on (close o) ≡ load_at (positions.Body next phases.FirstBlock)
opens_next o next n = (λ j. load_on (open_next (sym n.hunks j) (n.ahead j))) ∙ is_next next n.bare
  where
    is_next : (next : OpenHunk) → next.has_content ≡ false → load_on (open_next next.hunks (suc next.ahead)) ≡ load_at (positions.Body next phases.FirstBlock)
    is_next next bare = ap (λ (b : Bool). load_at (positions.Body (record { hunks = next.hunks; ahead = next.ahead; has_content = b }) phases.FirstBlock)) (sym bare)

-- the END of a hunk that others follow
pub end_as_is : (o next : OpenHunk) (bytes : List ℕ) (size : ℕ) → 4 ≤ length bytes → given_block o (front_word bytes) ≡ Same → inside.begin (kind (front_word bytes)) ≡ None → size ≡ 4 → IsNext o next
    → IsBlock o bytes size true next
end_as_is o next bytes size whole same begins e n = record {
  word = omega (arith, e);
  whole = omega (arith, e, whole);
  as_is =
      subst (λ (k : ℕ). AsIs (load_at (positions.Body o phases.BlockWord)) (take k bytes) (load_at (positions.Body next phases.FirstBlock))) (sym e)
      (subst (λ (s : Spot). AsIs (load_at (positions.Body o phases.BlockWord)) (take 4 bytes) s) (opens_next o next n) (block_word o bytes None whole same begins));
}

-- the END of the last hunk, after which all bytes pass
pub file_end_as_is : (o : OpenHunk) (bytes : List ℕ) → 4 ≤ length bytes → given_block o (front_word bytes) ≡ Same → inside.begin (kind (front_word bytes)) ≡ None → o.ahead ≡ 0
    → IsFileEnd (files.Load (positions.Body o phases.BlockWord)) bytes
file_end_as_is o bytes whole same begins last = record {
  whole = whole;
  as_is =
      subst (λ (n : ℕ). AsIs (load_at (positions.Body o phases.BlockWord)) (take 4 bytes) (load_on (open_next o.hunks n))) last
      (block_word o bytes None whole same begins);
}

starts_there : (o : OpenHunk) (phase : Phase) → inside.longest_run phase ≡ 0 → load_on (positions.Body o phase) ≡ load_at (positions.Body o phase)
starts_there o phase none = ap (λ (n : ℕ). straight n (files.Load (positions.Body o phase)) (after_straight (files.Load (positions.Body o phase)))) none

-- a block of another kind
pub block_as_is : (o next : OpenHunk) (phase : Phase) (bytes : List ℕ) (size : ℕ) → 4 ≤ length bytes → given_block o (front_word bytes) ≡ Same → inside.begin (kind (front_word bytes)) ≡ Some phase
    → IsBody phase (take (length bytes - 4) (drop 4 bytes)) size → next ≡ past o phase → IsBlock o bytes (4 + size) false next
block_as_is o next phase bytes size whole same begins body e = record {
  word = omega arith;
  whole = omega (arith, body.whole, part_length 4 bytes);
  as_is =
      subst (λ (x : OpenHunk). AsIs (load_at (positions.Body o phases.BlockWord)) (take (4 + size) bytes) (load_at (positions.Body x phases.BlockWord))) (sym e)
      (part_as_is _ (load_at (positions.Body o phase)) _ bytes 4 size
      (subst (λ (s : Spot). AsIs (load_at (positions.Body o phases.BlockWord)) (take 4 bytes) s) (starts_there o phase body.begins) (block_word o bytes (Some phase) whole same begins))
      (body.as_is (OfHunk o)));
}
