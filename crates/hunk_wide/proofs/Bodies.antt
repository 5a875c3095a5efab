-- What comes after the word of a block, in files of both kinds, is given out as it is.
use Rattle.std.proofs.Common.{◌≡◌, ℕ, zero, suc, ◌+◌, ◌-◌, ◌*◌, ◌≤◌, Bool, true, false, List, Option, None, Some, IfSome, length, take, drop, refl, sym, ap, subst, ◌∙◌, arith}
use Rattle.std.proofs.lemmas.List.{length-drop}
use Rattle.hunk_words.specs.Bits.{entry_type, name_longs, size_longs}
use Rattle.hunk_grammar.specs.declared.ext_shape.ExtShape.{ExtShape}
use Rattle.hunk_grammar.specs.declared.ext_shape.ExtShape.TheVariants.{Definition}
use Rattle.hunk_grammar.specs.ExtKinds.{ext_shape}
use Rattle.hunk_grammar.specs.declared.phase.Phase.{Phase}
use Rattle.hunk_grammar.specs.declared.phase.Phase.TheVariants as phases
use Rattle.hunk_grammar.specs.declared.position.Position.TheVariants as positions
use Rattle.hunk_grammar.specs.declared.object_position.ObjectPosition.TheVariants as places
use Rattle.hunk_grammar.specs.ObjectPositions as object
use Rattle.hunk_grammar.specs.PhaseSteps as inside
use Rattle.hunk_grammar.specs.Positions.{after, onward}
use Rattle.hunk_wide.specs.declared.position.FilePosition.{FilePosition}
use Rattle.hunk_wide.specs.declared.position.FilePosition.TheVariants as files
use Rattle.hunk_wide.specs.declared.spot.Spot.{Spot}
use Rattle.hunk_wide.specs.declared.spot.Given.TheVariants.{Same}
use Rattle.hunk_wide.specs.Longwords.{after_straight, behind_long, given, go_on, straight}
use Rattle.hunk_wide.specs.Parts.{AsIs, Frame, OfHunk, OfUnit, IsBody, IsEntry, front_word, in_block, past_block, phase_at}
use Rattle.hunk_wide.proofs.AsIs.{empty_run, long_as_is, more_as_is, straight_as_is, word_and_run}

-- ---- one longword

-- what comes after a longword of the block at this phase: one of this phase, or the next block word
abbrev pub goes_in : Frame → Phase → Option Phase → FilePosition
goes_in (OfHunk o) phase next = files.Load (onward o (after o phase) next)
goes_in (OfUnit place) phase next = files.Object (object.within place next)

-- It stands where no block word does, nor content.
abbrev is_inner : Phase → Bool
is_inner phases.FirstBlock = false
is_inner phases.BlockWord = false
is_inner (phases.Content longs owed) = false
is_inner _ = true

inner_same : (f : Frame) (phase : Phase) (w : ℕ) → is_inner phase ≡ true → given (phase_at f phase) w ≡ Same
inner_same (OfUnit place) phase w inner = refl
inner_same (OfHunk o) phases.FirstBlock w inner = absurd (cc inner)
inner_same (OfHunk o) phases.BlockWord w inner = absurd (cc inner)
inner_same (OfHunk o) _ w inner = refl

inner_goes : (f : Frame) (phase : Phase) (w : ℕ) → is_inner phase ≡ true → behind_long (phase_at f phase) w ≡ go_on (goes_in f phase (inside.step phase w))
inner_goes (OfUnit place) phase w inner = refl
inner_goes (OfHunk o) phases.FirstBlock w inner = absurd (cc inner)
inner_goes (OfHunk o) phases.BlockWord w inner = absurd (cc inner)
inner_goes (OfHunk o) _ w inner = refl

inner_ends : (f : Frame) (phase : Phase) → is_inner phase ≡ true → go_on (goes_in f phase None) ≡ past_block f phase
inner_ends (OfUnit place) phase inner = refl
inner_ends (OfHunk o) phases.FirstBlock inner = absurd (cc inner)
inner_ends (OfHunk o) phases.BlockWord inner = absurd (cc inner)
inner_ends (OfHunk o) (phases.Content longs owed) inner = absurd (cc inner)
inner_ends (OfHunk o) _ inner = refl

-- No run is owed at this phase.
starts_in : (f : Frame) (phase next : Phase) → inside.longest_run next ≡ 0 → go_on (goes_in f phase (Some next)) ≡ in_block f next
starts_in (OfHunk o) phase next none = ap (λ (n : ℕ). straight n (files.Load (positions.Body o next)) (after_straight (files.Load (positions.Body o next)))) none
starts_in (OfUnit place) phase next none = ap (λ (n : ℕ). straight n (files.Object (places.Block place next)) (after_straight (files.Object (places.Block place next)))) none

-- one of them
inner_long : (f : Frame) (phase : Phase) (t : Spot) (bytes : List ℕ) → is_inner phase ≡ true → 4 ≤ length bytes → go_on (goes_in f phase (inside.step phase (front_word bytes))) ≡ t → AsIs (in_block f phase) (take 4 bytes) t
inner_long f phase t bytes inner whole e =
    subst (λ (s : Spot). AsIs (in_block f phase) (take 4 bytes) s) (inner_goes f phase (front_word bytes) inner ∙ e)
    (long_as_is (phase_at f phase) bytes whole (inner_same f phase (front_word bytes) inner))

inner_run : (f : Frame) (phase : Phase) (t : Spot) (bytes : List ℕ) (n : ℕ) → is_inner phase ≡ true → 4 + 4 * n ≤ length bytes
    → ((run : List ℕ) → length run ≡ 4 * n → AsIs (go_on (goes_in f phase (inside.step phase (front_word bytes)))) run t) → AsIs (in_block f phase) (take (4 + 4 * n) bytes) t
inner_run f phase t bytes n inner whole run =
    word_and_run (phase_at f phase) t bytes n (inner_same f phase (front_word bytes) inner) whole
    (λ owed len. subst (λ (s : Spot). AsIs s owed t) (sym (inner_goes f phase (front_word bytes) inner)) (run owed len))

-- ---- runs of longwords that are owed

run_length : (n : ℕ) (bytes : List ℕ) → length bytes ≡ 4 * suc n → length bytes ≡ suc (4 * n + 3)
run_length n bytes len = omega (arith, len)

content_run : (f : Frame) (longs n : ℕ) (bytes : List ℕ) → length bytes ≡ 4 * n → AsIs (go_on (goes_in f phases.ContentSize (inside.owe_content longs n))) bytes (past_block f phases.ContentSize)
content_run (OfHunk o) longs zero bytes len = empty_run _ bytes (omega (arith, len))
content_run (OfHunk o) longs (suc n) bytes len = straight_as_is (4 * n + 3) _ bytes (run_length n bytes len)
content_run (OfUnit place) longs zero bytes len = empty_run _ bytes (omega (arith, len))
content_run (OfUnit place) longs (suc n) bytes len = straight_as_is (4 * n + 3) _ bytes (run_length n bytes len)

name_run : (f : Frame) (n : ℕ) (bytes : List ℕ) → length bytes ≡ 4 * n → AsIs (go_on (goes_in f phases.NameCount (inside.owe_payload n))) bytes (past_block f phases.NameCount)
name_run (OfHunk o) zero bytes len = empty_run _ bytes (omega (arith, len))
name_run (OfHunk o) (suc n) bytes len = straight_as_is (4 * n + 3) _ bytes (run_length n bytes len)
name_run (OfUnit place) zero bytes len = empty_run _ bytes (omega (arith, len))
name_run (OfUnit place) (suc n) bytes len = straight_as_is (4 * n + 3) _ bytes (run_length n bytes len)

payload_run : (f : Frame) (n : ℕ) (bytes : List ℕ) → length bytes ≡ 4 * n → AsIs (go_on (goes_in f phases.LongCount (inside.owe_payload n))) bytes (past_block f phases.LongCount)
payload_run (OfHunk o) zero bytes len = empty_run _ bytes (omega (arith, len))
payload_run (OfHunk o) (suc n) bytes len = straight_as_is (4 * n + 3) _ bytes (run_length n bytes len)
payload_run (OfUnit place) zero bytes len = empty_run _ bytes (omega (arith, len))
payload_run (OfUnit place) (suc n) bytes len = straight_as_is (4 * n + 3) _ bytes (run_length n bytes len)

symbol_run : (f : Frame) (n : ℕ) (bytes : List ℕ) → length bytes ≡ 4 * suc n → AsIs (go_on (goes_in f phases.EntryWord (inside.owe_symbol (suc n)))) bytes (in_block f phases.EntryWord)
symbol_run (OfHunk o) n bytes len = straight_as_is (4 * n + 3) _ bytes (run_length n bytes len)
symbol_run (OfUnit place) n bytes len = straight_as_is (4 * n + 3) _ bytes (run_length n bytes len)

offset_run : (f : Frame) (t w : ℕ) (bytes : List ℕ) → (w ≡ 0 → ⊥) → length bytes ≡ 4 * w → AsIs (go_on (goes_in f (phases.Target (w - 1)) (Some (phases.Offset t (w - 1))))) bytes (in_block f phases.GroupCount)
offset_run f t zero bytes some len = absurd (some refl)
offset_run (OfHunk o) t (suc n) bytes some len = straight_as_is (4 * (suc n - 1) + 3) _ bytes (omega (arith, len))
offset_run (OfUnit place) t (suc n) bytes some len = straight_as_is (4 * (suc n - 1) + 3) _ bytes (omega (arith, len))

front_run : (f : Frame) (n : ℕ) (bytes : List ℕ) → length bytes ≡ 4 * n → AsIs (go_on (goes_in f phases.ExtWord (inside.owe_front n))) bytes (in_block f phases.ExtCount)
front_run (OfHunk o) zero bytes len = empty_run _ bytes (omega (arith, len))
front_run (OfHunk o) (suc n) bytes len = straight_as_is (4 * n + 3) _ bytes (run_length n bytes len)
front_run (OfUnit place) zero bytes len = empty_run _ bytes (omega (arith, len))
front_run (OfUnit place) (suc n) bytes len = straight_as_is (4 * n + 3) _ bytes (run_length n bytes len)

rest_run : (f : Frame) (phase : Phase) (n : ℕ) (bytes : List ℕ) → length bytes ≡ 4 * n → AsIs (go_on (goes_in f phase (inside.owe_rest n))) bytes (in_block f phases.ExtWord)
rest_run (OfHunk o) phase zero bytes len = empty_run _ bytes (omega (arith, len))
rest_run (OfHunk o) phase (suc n) bytes len = straight_as_is (4 * n + 3) _ bytes (run_length n bytes len)
rest_run (OfUnit place) phase zero bytes len = empty_run _ bytes (omega (arith, len))
rest_run (OfUnit place) phase (suc n) bytes len = straight_as_is (4 * n + 3) _ bytes (run_length n bytes len)

-- ---- bodies

pub content_as_is : (f : Frame) (bytes : List ℕ) → 4 + 4 * size_longs (front_word bytes) ≤ length bytes
    → AsIs (in_block f phases.ContentSize) (take (4 + 4 * size_longs (front_word bytes)) bytes) (past_block f phases.ContentSize)
content_as_is f bytes whole = inner_run f phases.ContentSize _ bytes (size_longs (front_word bytes)) refl whole (content_run f (size_longs (front_word bytes)) (size_longs (front_word bytes)))

pub bss_as_is : (f : Frame) (bytes : List ℕ) → 4 ≤ length bytes → AsIs (in_block f phases.BssSize) (take 4 bytes) (past_block f phases.BssSize)
bss_as_is f bytes whole = inner_long f phases.BssSize _ bytes refl whole (inner_ends f phases.BssSize refl)

pub name_as_is : (f : Frame) (bytes : List ℕ) → 4 + 4 * front_word bytes ≤ length bytes → AsIs (in_block f phases.NameCount) (take (4 + 4 * front_word bytes) bytes) (past_block f phases.NameCount)
name_as_is f bytes whole = inner_run f phases.NameCount _ bytes (front_word bytes) refl whole (name_run f (front_word bytes))

pub counted_as_is : (f : Frame) (bytes : List ℕ) → 4 + 4 * front_word bytes ≤ length bytes → AsIs (in_block f phases.LongCount) (take (4 + 4 * front_word bytes) bytes) (past_block f phases.LongCount)
counted_as_is f bytes whole = inner_run f phases.LongCount _ bytes (front_word bytes) refl whole (payload_run f (front_word bytes))

-- A word of 0 ends a list.
list_ends : (f : Frame) (phase : Phase) (bytes : List ℕ) → is_inner phase ≡ true → 4 ≤ length bytes → front_word bytes ≡ 0 → inside.step phase 0 ≡ None → AsIs (in_block f phase) (take 4 bytes) (past_block f phase)
list_ends f phase bytes inner whole none e =
    inner_long f phase _ bytes inner whole (ap (λ (w : ℕ). go_on (goes_in f phase (inside.step phase w))) none ∙ ap (λ (x : Option Phase). go_on (goes_in f phase x)) e ∙ inner_ends f phase inner)

-- ---- symbols

symbol_owes : (w : ℕ) → (w ≡ 0 → ⊥) → inside.owe_symbols w ≡ inside.owe_symbol (suc (name_longs w))
symbol_owes zero some = absurd (some refl)
symbol_owes (suc w) some = refl

pub symbol_as_is : (f : Frame) (bytes : List ℕ) → (front_word bytes ≡ 0 → ⊥) → 8 + 4 * name_longs (front_word bytes) ≤ length bytes
    → AsIs (in_block f phases.EntryWord) (take (8 + 4 * name_longs (front_word bytes)) bytes) (in_block f phases.EntryWord)
symbol_as_is f bytes some whole =
    let n : ℕ = name_longs (front_word bytes) in
    let size : 4 + 4 * suc n ≡ 8 + 4 * n = omega arith in
    subst (λ (k : ℕ). AsIs (in_block f phases.EntryWord) (take k bytes) (in_block f phases.EntryWord)) size
    (inner_run f phases.EntryWord _ bytes (suc n) refl (omega arith)
    (λ run len. subst (λ (x : Option Phase). AsIs (go_on (goes_in f phases.EntryWord x)) run (in_block f phases.EntryWord)) (sym (symbol_owes (front_word bytes) some)) (symbol_run f n run len)))

pub symbols_end : (f : Frame) (bytes : List ℕ) → 4 ≤ length bytes → front_word bytes ≡ 0 → AsIs (in_block f phases.EntryWord) (take 4 bytes) (past_block f phases.EntryWord)
symbols_end f bytes whole none = list_ends f phases.EntryWord bytes refl whole none refl

-- ---- groups of offsets

group_owes : (w : ℕ) → (w ≡ 0 → ⊥) → inside.owe_targets w ≡ Some (phases.Target (w - 1))
group_owes zero some = absurd (some refl)
group_owes (suc w) some = let e : w ≡ suc w - 1 = omega arith in ap (λ (n : ℕ). Some (phases.Target n)) e

pub group_as_is : (f : Frame) (bytes : List ℕ) → (front_word bytes ≡ 0 → ⊥) → 8 + 4 * front_word bytes ≤ length bytes
    → AsIs (in_block f phases.GroupCount) (take (8 + 4 * front_word bytes) bytes) (in_block f phases.GroupCount)
group_as_is f bytes some whole =
    let n : ℕ = front_word bytes in
    let size : 4 + (4 + 4 * n) ≡ 8 + 4 * n = omega arith in
    let target : Phase = phases.Target (n - 1) in
    subst (λ (k : ℕ). AsIs (in_block f phases.GroupCount) (take k bytes) (in_block f phases.GroupCount)) size
    (more_as_is (in_block f phases.GroupCount) (in_block f target) _ bytes 4 (4 + 4 * n)
    (inner_long f phases.GroupCount _ bytes refl (omega arith) (ap (λ (x : Option Phase). go_on (goes_in f phases.GroupCount x)) (group_owes n some) ∙ starts_in f phases.GroupCount target refl))
    (inner_run f target _ (drop 4 bytes) n refl (omega (arith, length-drop 4 bytes)) (λ run len. offset_run f (front_word (drop 4 bytes)) n run some len)))

pub groups_end : (f : Frame) (bytes : List ℕ) → 4 ≤ length bytes → front_word bytes ≡ 0 → AsIs (in_block f phases.GroupCount) (take 4 bytes) (past_block f phases.GroupCount)
groups_end f bytes whole none = list_ends f phases.GroupCount bytes refl whole none refl

-- ---- external entries

entry_owes : (w : ℕ) (shape : Option ExtShape) → (w ≡ 0 → ⊥) → ext_shape (entry_type w) ≡ shape → inside.owe_externals w ≡ inside.owe_shaped shape (name_longs w)
entry_owes zero shape some e = absurd (some refl)
entry_owes (suc w) shape some e = ap (λ (x : Option ExtShape). inside.owe_shaped x (name_longs (suc w))) e

-- the word of an entry, and so many longwords
entry_run : (f : Frame) (shape : ExtShape) (t : Spot) (bytes : List ℕ) (n : ℕ) → (front_word bytes ≡ 0 → ⊥) → ext_shape (entry_type (front_word bytes)) ≡ Some shape → 4 + 4 * n ≤ length bytes
    → ((run : List ℕ) → length run ≡ 4 * n → AsIs (go_on (goes_in f phases.ExtWord (inside.owe_shaped (Some shape) (name_longs (front_word bytes))))) run t) → AsIs (in_block f phases.ExtWord) (take (4 + 4 * n) bytes) t
entry_run f shape t bytes n some e whole run =
    inner_run f phases.ExtWord t bytes n refl whole
    (λ owed len. subst (λ (x : Option Phase). AsIs (go_on (goes_in f phases.ExtWord x)) owed t) (sym (entry_owes (front_word bytes) (Some shape) some e)) (run owed len))

-- the count of references, and these
references_as_is : (f : Frame) (bytes : List ℕ) → 4 + 4 * front_word bytes ≤ length bytes → AsIs (in_block f phases.ExtCount) (take (4 + 4 * front_word bytes) bytes) (in_block f phases.ExtWord)
references_as_is f bytes whole = inner_run f phases.ExtCount _ bytes (front_word bytes) refl whole (rest_run f phases.ExtCount (front_word bytes))

pub definition_over : (bytes : List ℕ) (w size : ℕ) → w ≡ front_word bytes → (w ≡ 0 → ⊥) → ext_shape (entry_type w) ≡ Some Definition → size ≡ 4 + 4 * name_longs w + 4 → size ≤ length bytes → IsEntry bytes size
definition_over bytes w size e some shape all whole =
    let n : ℕ = name_longs (front_word bytes) in
    let run : 4 + 4 * suc n ≡ size = omega (arith, all, ap name_longs e) in
    record {
      word = omega (arith, all);
      whole = whole;
      as_is = λ f. subst (λ (k : ℕ). AsIs (in_block f phases.ExtWord) (take k bytes) (in_block f phases.ExtWord)) run
          (entry_run f Definition _ bytes (suc n) (λ none. some (e ∙ none)) (ap (λ (x : ℕ). ext_shape (entry_type x)) (sym e) ∙ shape) (omega (arith, whole, run)) (rest_run f phases.ExtWord (suc n)));
    }

-- the word of an entry, so many longwords, and the references that are counted after them
referring_as_is : (shape : ExtShape) (bytes : List ℕ) (n at size : ℕ) → (front_word bytes ≡ 0 → ⊥) → ext_shape (entry_type (front_word bytes)) ≡ Some shape
    → inside.owe_shaped (Some shape) (name_longs (front_word bytes)) ≡ inside.owe_front n → at ≡ 4 + 4 * n → size ≡ at + (4 + 4 * front_word (drop at bytes)) → size ≤ length bytes → IsEntry bytes size
referring_as_is shape bytes n at size some e owes front all whole = record {
  word = omega (arith, all);
  whole = whole;
  as_is = λ f. subst (λ (k : ℕ). AsIs (in_block f phases.ExtWord) (take k bytes) (in_block f phases.ExtWord)) (sym all)
      (more_as_is (in_block f phases.ExtWord) (in_block f phases.ExtCount) _ bytes at (4 + 4 * front_word (drop at bytes))
      (subst (λ (k : ℕ). AsIs (in_block f phases.ExtWord) (take k bytes) (in_block f phases.ExtCount)) (sym front)
      (entry_run f shape _ bytes n some e (omega (arith, front, all, whole))
      (λ run len. subst (λ (x : Option Phase). AsIs (go_on (goes_in f phases.ExtWord x)) run (in_block f phases.ExtCount)) (sym owes) (front_run f n run len))))
      (references_as_is f (drop at bytes) (omega (arith, all, whole, length-drop at bytes))));
}

pub referring_over : (shape : ExtShape) (bytes : List ℕ) (w n at : ℕ) (size : Option ℕ) → w ≡ front_word bytes → (w ≡ 0 → ⊥) → ext_shape (entry_type w) ≡ Some shape
    → inside.owe_shaped (Some shape) (name_longs w) ≡ inside.owe_front n → at ≡ 4 + 4 * n → IfSome size (λ s. (s ≡ at + (4 + 4 * front_word (drop at bytes))) × (s ≤ length bytes)) → IfSome size (λ s. IsEntry bytes s)
referring_over shape bytes w n at None e some is owes front h = h
referring_over shape bytes w n at (Some size) e some is owes front h =
    referring_as_is shape bytes n at size (λ none. some (e ∙ none)) (ap (λ (x : ℕ). ext_shape (entry_type x)) (sym e) ∙ is)
    (ap (λ (x : ℕ). inside.owe_shaped (Some shape) (name_longs x)) (sym e) ∙ owes) front h.0 h.1

pub entries_end : (f : Frame) (bytes : List ℕ) → 4 ≤ length bytes → front_word bytes ≡ 0 → AsIs (in_block f phases.ExtWord) (take 4 bytes) (past_block f phases.ExtWord)
entries_end f bytes whole none = list_ends f phases.ExtWord bytes refl whole none refl

-- a count, and so many longwords
pub counted_body : (phase : Phase) (bytes : List ℕ) (longs : ℕ) (size : Option ℕ) → inside.longest_run phase ≡ 0 → IfSome size (λ n. (n ≡ 4 + 4 * longs) × (n ≤ length bytes))
    → (4 + 4 * longs ≤ length bytes → (f : Frame) → AsIs (in_block f phase) (take (4 + 4 * longs) bytes) (past_block f phase))
    → IfSome size (λ n. IsBody phase bytes n)
counted_body phase bytes longs None begins h part = h
counted_body phase bytes longs (Some n) begins h part = record {
  whole = h.1;
  begins = begins;
  as_is = λ f. subst (λ (k : ℕ). AsIs (in_block f phase) (take k bytes) (past_block f phase)) (sym h.0) (part (omega (arith, h.0, h.1)) f);
}
