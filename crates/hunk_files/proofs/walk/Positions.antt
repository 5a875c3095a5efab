-- What was read of a load file, in numbers alone: the position of its reader.
use Rattle.std.proofs.Common.{◌≡◌, ◌≢◌, ℕ, zero, suc, ◌+◌, ◌/◌, ◌%◌, ◌^◌, Bool, true, false, cond, List, [], ◌∷◌, ◌++◌, length, refl, ap, ◌∙◌, arith, Option}
use Rattle.hunk_words.specs.{declared.block_word.Kind.Kind, Bits.{size_longs, has_both_bits, kind, entry_type}}
use Rattle.hunk_words.specs.declared.block_word.Kind.TheVariants as kinds
use Rattle.hunk_blocks.specs.Values.{SymbolEntry, ExtEntry, BlockValue}
use Rattle.hunk_grammar.specs.BlockParts.{Part, Part as parts}
use Rattle.hunk_grammar.specs.PhaseSteps.{part_at}
use Rattle.hunk_blocks.specs.ReaderPhase.{phase_of, next_phase}
use Rattle.hunk_blocks.specs.BlockSteps.{ForName, ForCode, ForData, Filling, Counted, SizedCode, SizedData, Inside, AtCount, AtSize, InPayload, AtGroup, InOffsets, AtEntry, InName, AtExtWord, InExtName, AtExtCount, InExtOffsets, BlockNext, Open, Whole, begin_body, step_inside, fill, name_entry, name_external}
use Rattle.hunk_grammar.specs.declared.phase.Phase.{Phase}
use Rattle.hunk_blocks.proofs.BlockPhases.{IsReference, same_part, step_phase, begin_phase, phase_no_word}
use Rattle.hunk_blocks.proofs.Lists.{map-more, more_owed}
use Rattle.hunk_grammar.specs.declared.position.OpenHunk as numbers
use Rattle.hunk_grammar.specs.declared.phase.Phase.TheVariants as phases
use Rattle.hunk_grammar.specs.{declared.position.Position.Position, Positions.{role_at, is_between_hunks}}
use Rattle.hunk_grammar.specs.Roles.{Place, refuse, refuse_part}
use Rattle.hunk_grammar.specs.Standings.{BlockStanding, Beside, Content, Relocating, Ending}
use Rattle.hunk_grammar.specs.declared.position.Position.TheVariants as positions
use Rattle.hunk_grammar.specs.Positions as scan
use Rattle.hunk_files.specs.{LoadFile.{TableEntry, HunkValue, standing}, LoadText.table}
use Rattle.hunk_files.specs.ReaderPosition.{open_of, block_phase, position_of, open_longs, opened}
use Rattle.hunk_files.specs.FileSteps.{HunkSoFar, Progress, AtFirst, AtLastHunk, AtSizeWord, AtAttributes, AtBlock, InBody, Next, More, Finished, role_of, place_of, step_file, rows, open_hunk, with_block, close_by, sized_row, after, hunk, block, table_entry}
use Rattle.hunk_files.proofs.{walk.FileProgress.ProgressFits, walk.HunkProgress.Within, object_walk.EntrySteps.by_shape}

-- ---- refusals

pub no_reference : (p : Place) (word : ℕ) (x : Inside) → Within p word x → IsReference x → ⊥
no_reference p word (InExtOffsets es w name value done owed) h r = absurd h
no_reference p word _ h r = absurd r

block_same : (o : HunkSoFar) (w : ℕ) (blocks : List BlockValue) → refuse (role_of (AtBlock o)) w ≡ refuse (role_at (size_longs o.entry.word) (positions.Body (open_of o) (block_phase blocks))) w
block_same o w [] = refl
block_same o w (b ∷ blocks) = refl

-- The position and the declared longs determine the refusal.
pub refuse_same : (p : Progress) (w : ℕ) → ProgressFits p → refuse (role_of p) w ≡ refuse (role_at (open_longs p) (position_of (More p))) w
refuse_same AtFirst w f = refl
refuse_same (AtBlock o) w f = block_same o w o.blocks
refuse_same (InBody o word x) w f = same_part (λ (part : Part). refuse_part (place_of o) part w) refl x (λ r. absurd (no_reference (place_of o) word x f.2.1 r))
refuse_same _ w f = refl

-- ---- steps

open_position : (hunks : ℕ) (finished : List HunkValue) (ahead : List TableEntry) → position_of (open_hunk hunks finished ahead) ≡ scan.open_next hunks (length ahead)
open_position hunks finished [] = refl
open_position hunks finished (e ∷ ahead) = refl

rows_position : (hunks : ℕ) (done : List TableEntry) (owed : ℕ) → length done + owed ≡ hunks → position_of (rows hunks done owed) ≡ scan.owe_entries hunks owed
rows_position hunks done zero e = let n : length done ≡ hunks = omega (arith, e) in open_position hunks [] done ∙ ap (λ (k : ℕ). scan.open_next hunks k) n
rows_position hunks done (suc owed) e = refl

sized_position : (hunks : ℕ) (done : List TableEntry) (w owed : ℕ) (b : Bool) → length done + suc owed ≡ hunks →
    position_of (sized_row hunks done w owed b) ≡ cond b (positions.Attributes hunks w owed) (scan.owe_entries hunks owed)
sized_position hunks done w owed true e = refl
sized_position hunks done w owed false e = rows_position hunks (done ++ table_entry w 0 ∷ []) owed (more_owed done (table_entry w 0) owed ∙ e)

-- after a whole block that stands so
abbrev closed : numbers.OpenHunk → BlockStanding → Position
closed o Content = scan.at (scan.with_content o) phases.BlockWord
closed o Ending = scan.close o
closed o _ = scan.at o phases.BlockWord

further_block : (blocks : List BlockValue) (b : BlockValue) → block_phase (blocks ++ b ∷ []) ≡ phases.BlockWord
further_block [] b = refl
further_block (c ∷ blocks) b = refl

closed_position : (o : HunkSoFar) (b : BlockValue) (s : BlockStanding) → position_of (close_by o b s) ≡ closed (open_of o) s
closed_position o b Beside = ap (λ (p : Phase). positions.Body (open_of o) p) (further_block o.blocks b)
closed_position o b Relocating = ap (λ (p : Phase). positions.Body (open_of o) p) (further_block o.blocks b)
closed_position o b Content = ap (λ (p : Phase). positions.Body (scan.with_content (open_of o)) p) (further_block o.blocks b)
closed_position o b Ending = open_position o.hunks (o.finished ++ hunk o.entry (o.blocks ++ b ∷ []) ∷ []) o.ahead

-- where a whole block leads, and here while it is open
abbrev left_at : numbers.OpenHunk → Position → BlockNext → Position
left_at o here (Open x) = here
left_at o here (Whole body) = closed o (standing body)

after_position : (o : HunkSoFar) (word : ℕ) (n : BlockNext) (here : Position) (p : Option Phase) → left_at (open_of o) here n ≡ here → next_phase n ≡ p → position_of (after o word n) ≡ scan.onward (open_of o) here p
after_position o word (Open x) here p e d = ap (scan.onward (open_of o) here) d
after_position o word (Whole body) here p e d = closed_position o (block word body) (standing body) ∙ e ∙ ap (scan.onward (open_of o) here) d

module _ (o : numbers.OpenHunk) where
  -- after a whole payload
  abbrev filled : Filling → Position
  filled (Counted c) = scan.at o phases.BlockWord
  filled f = scan.at (scan.with_content o) phases.BlockWord

  fill_left : (f : Filling) (done : List ℕ) (owed : ℕ) → left_at o (filled f) (fill f done owed) ≡ filled f
  fill_left (Counted ForName) done zero = refl
  fill_left _ done zero = refl
  fill_left _ done (suc owed) = refl

  name_left : (here : Position) (es : List SymbolEntry) (word : ℕ) (done : List ℕ) (owed : ℕ) → left_at o here (name_entry es word done owed) ≡ here
  name_left here es word done zero = refl
  name_left here es word done (suc owed) = refl

  ext_left : (here : Position) (es : List ExtEntry) (word : ℕ) (done : List ℕ) (owed : ℕ) → left_at o here (name_external es word done owed) ≡ here
  ext_left here es word done zero = by_shape (λ n. left_at o here n ≡ here) (entry_type word) es word done refl refl refl refl
  ext_left here es word done (suc owed) = refl

  -- A whole block leaves the hunk as the phase of its last longword tells.
  inside_left : (x : Inside) (w : ℕ) → left_at o (scan.after o (phase_of x)) (step_inside x w) ≡ scan.after o (phase_of x)
  inside_left (AtCount ForName) w = fill_left (Counted ForName) [] w
  inside_left (AtCount c) w = fill_left (Counted c) [] w
  inside_left (AtSize ForCode) w = fill_left (SizedCode (w / 2 ^ 30)) [] (w % 2 ^ 30)
  inside_left (AtSize ForData) w = fill_left (SizedData (w / 2 ^ 30)) [] (w % 2 ^ 30)
  inside_left (InPayload (Counted c) done owed) w = fill_left (Counted c) (done ++ w ∷ []) owed
  inside_left (InPayload f done owed) w = fill_left f (done ++ w ∷ []) owed
  inside_left (AtGroup groups) zero = refl
  inside_left (InOffsets groups target done zero) w = refl
  inside_left (AtEntry es) zero = refl
  inside_left (AtEntry es) (suc w) = name_left _ es (suc w) [] (suc w % 2 ^ 24)
  inside_left (InName es word done owed) w = name_left _ es word (done ++ w ∷ []) owed
  inside_left (AtExtWord es) zero = refl
  inside_left (AtExtWord es) (suc w) = ext_left _ es (suc w) [] (suc w % 2 ^ 24)
  inside_left (InExtName es word done owed) w = ext_left _ es word (done ++ w ∷ []) owed
  inside_left (AtExtCount es word name value) zero = refl
  inside_left (InExtOffsets es word name value done zero) w = refl
  inside_left _ w = refl

  begin_left : (k : Kind) → left_at o (scan.close o) (begin_body k) ≡ scan.close o
  begin_left kinds.Name = refl
  begin_left _ = refl

  block_step : (w : ℕ) (blocks : List BlockValue) → scan.begin o (kind w) ≡ scan.step (positions.Body o (block_phase blocks)) w
  block_step w [] = refl
  block_step w (b ∷ blocks) = refl

-- A step of the reader is a step of its position.
pub step_position : (p : Progress) (w : ℕ) → ProgressFits p → position_of (step_file p w) ≡ scan.step (position_of (More p)) w
step_position (AtLastHunk hunks) w f = rows_position hunks [] hunks (omega arith)
step_position (AtSizeWord hunks done owed) w f = sized_position hunks done w owed (has_both_bits w) f.counts
step_position (AtAttributes hunks done word owed) w f = rows_position hunks (done ++ table_entry word w ∷ []) owed (more_owed done (table_entry word w) owed ∙ f.0.counts)
step_position (AtBlock o) w f = after_position o w (begin_body (kind w)) _ _ (begin_left (open_of o) (kind w)) (begin_phase (kind w)) ∙ block_step (open_of o) w o.blocks
step_position (InBody o word x) w f = after_position o word (step_inside x w) _ _ (inside_left (open_of o) x w) (step_phase x w)
step_position _ w f = refl

-- ---- the open hunk

word_open : (o : numbers.OpenHunk) (p : Phase) → part_at p ≢ parts.BlockWord → is_between_hunks (positions.Body o p) ≡ false
word_open o phases.FirstBlock no_word = absurd (no_word refl)
word_open o _ no_word = refl

-- within a block the hunk is open
pub inside_open : (x : Inside) (o : numbers.OpenHunk) → is_between_hunks (positions.Body o (phase_of x)) ≡ false
inside_open x o = word_open o (phase_of x) (phase_no_word x)

-- the open hunk stays
abbrev pub Stays : Progress → Progress → Type 0
Stays p q = (open_longs q ≡ open_longs p) × (opened q ≡ opened p)

abbrev pub MovesTo : Progress → HunkSoFar → List BlockValue → Type 0
MovesTo p o [] = table o.finished ≡ opened p
MovesTo p o (b ∷ blocks) = Stays p (AtBlock o)

-- The open hunk stays, or it ends and the next opens.
abbrev pub Moves : Progress → Next → Type 0
Moves p (More (AtBlock o)) = MovesTo p o o.blocks
Moves p (More q) = Stays p q
Moves p (Finished v) = table v ≡ opened p

open_moves : (p : Progress) (hunks : ℕ) (finished : List HunkValue) (ahead : List TableEntry) → table finished ≡ opened p → Moves p (open_hunk hunks finished ahead)
open_moves p hunks finished [] e = e
open_moves p hunks finished (x ∷ ahead) e = e

row_moves : (p : Progress) (hunks : ℕ) (done : List TableEntry) (owed : ℕ) → 0 ≡ open_longs p → [] ≡ opened p → Moves p (rows hunks done owed)
row_moves p hunks done zero l r = open_moves p hunks [] done r
row_moves p hunks done (suc owed) l r = (l, r)

sized_moves : (p : Progress) (hunks : ℕ) (done : List TableEntry) (w owed : ℕ) (b : Bool) → 0 ≡ open_longs p → [] ≡ opened p → Moves p (sized_row hunks done w owed b)
sized_moves p hunks done w owed true l r = (l, r)
sized_moves p hunks done w owed false l r = row_moves p hunks (done ++ table_entry w 0 ∷ []) owed l r

block_moves : (p : Progress) (o : HunkSoFar) (blocks : List BlockValue) (b : BlockValue) → Stays p (AtBlock o) → MovesTo p o (blocks ++ b ∷ [])
block_moves p o [] b s = s
block_moves p o (c ∷ blocks) b s = s

after_moves : (p : Progress) (o : HunkSoFar) (word : ℕ) (n : BlockNext) → Stays p (AtBlock o) → Moves p (after o word n)
after_moves p o word (Open x) s = s
after_moves p o word (Whole body) s = go (standing body)
  where
    go : (t : BlockStanding) → Moves p (close_by o (block word body) t)
    go Beside = block_moves p (with_block o (block word body) o.has_content) o.blocks (block word body) s
    go Relocating = block_moves p (with_block o (block word body) o.has_content) o.blocks (block word body) s
    go Content = block_moves p (with_block o (block word body) true) o.blocks (block word body) s
    go Ending =
        open_moves p o.hunks (o.finished ++ hunk o.entry (o.blocks ++ block word body ∷ []) ∷ []) o.ahead
        (map-more (λ (h : HunkValue). h.entry) o.finished (hunk o.entry (o.blocks ++ block word body ∷ [])) ∙ s.1)

pub step_moves : (p : Progress) (w : ℕ) → Moves p (step_file p w)
step_moves (AtLastHunk hunks) w = row_moves (AtLastHunk hunks) hunks [] hunks refl refl
step_moves (AtSizeWord hunks done owed) w = sized_moves (AtSizeWord hunks done owed) hunks done w owed (has_both_bits w) refl refl
step_moves (AtAttributes hunks done word owed) w = row_moves (AtAttributes hunks done word owed) hunks (done ++ table_entry word w ∷ []) owed refl refl
step_moves (AtBlock o) w = after_moves (AtBlock o) o w (begin_body (kind w)) (refl, refl)
step_moves (InBody o word x) w = after_moves (InBody o word x) o word (step_inside x w) (refl, refl)
step_moves _ w = (refl, refl)
