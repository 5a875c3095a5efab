-- The state of the loader is the reader of load files, without what was read.
use Rattle.std.proofs.Common.{rules, ◌≡◌, ℕ, ◌+◌, ◌*◌, true, false, List, [], ◌∷◌, ◌++◌, length, get_or, refl, ap, ◌∙◌, append_assoc, arith}
use Rattle.std.proofs.lemmas.Grind.{common_steps}
use Rattle.std.proofs.lemmas.List.{length-map, length-append, map-append, get_or_at}
use Rattle.std.proofs.lemmas.List.Sums.{sum_by-append, sum_by-cons}
use Rattle.hunk_words.specs.Bits.{size_longs}
use Rattle.hunk_blocks.specs.{Values.BlockValue, BlockSteps.BlockNext}
use Rattle.hunk_files.specs.{Image.declared_bytes, LoadFile.{TableEntry, HunkValue}, LoadText.table}
use Rattle.hunk_files.specs.FileSteps.{HunkSoFar, Progress, AtBlock, InBody, Next, More, Finished, role_of, open_hunk, after, step_file}
use Rattle.hunk_files.specs.ReaderPosition.{position_of, open_of, block_phase, open_longs, opened, open_table, table_of, IsAfterHeader}
use Rattle.hunk_grammar.specs.{Roles.refuse, declared.position.Position.Position, Positions.is_between_hunks}
use Rattle.hunk_files.proofs.{walk.FileProgress.ProgressFits, walk.Positions.{Moves, MovesTo, step_moves, step_position, inside_open}}
use Rattle.hunk_blocks.proofs.Lists.{map-more}
use Rattle.hunk_grammar.specs.declared.position.Position.TheVariants as positions
use Rattle.hunk_scatter.specs.BodyReader.{sizes_of, before, state_at, state_of}
use Rattle.hunk_scatter.specs.BodySteps.{longs_at, refusal, move_to, step_body}

-- ---- the table at the open hunk

pub sizes-at : (finished : List HunkValue) (e : TableEntry) (ahead : List TableEntry) → get_or (sizes_of (table finished ++ e ∷ ahead)) (length finished) 0 ≡ e.word
sizes-at finished e ahead = search (rules, map-append, get_or_at, length-map)

-- ---- each step

pub before_is : (hs : List HunkValue) → declared_bytes (table hs) ≡ before hs
before_is [] = refl
before_is (h ∷ hs) = omega (arith, sum_by-cons, before_is hs)

last_bytes : (es : List TableEntry) (e : TableEntry) → declared_bytes (es ++ e ∷ []) ≡ declared_bytes es + 4 * size_longs e.word
last_bytes es e = omega (arith, sum_by-append)

-- from the open hunk
module _ (o : HunkSoFar) where
  declared : longs_at (sizes_of (open_table o)) (length o.finished) ≡ size_longs o.entry.word
  declared = ap size_longs (sizes-at o.finished o.entry o.ahead)

  -- the next opens, or the file is whole
  next_state : (hs : List HunkValue) (p : Position) → table hs ≡ table o.finished ++ o.entry ∷ [] → is_between_hunks p ≡ true → state_at hs p ≡ move_to (sizes_of (open_table o)) (state_at o.finished p) p
  next_state hs p e b = search (rules, length-append, length-map, before_is, last_bytes, declared)

  -- the hunk stays
  same_hunk : (hs : List HunkValue) (e : TableEntry) (p : Position) → table hs ++ e ∷ [] ≡ table o.finished ++ o.entry ∷ [] → size_longs e.word ≡ size_longs o.entry.word → is_between_hunks p ≡ false →
      state_at hs p ≡ move_to (sizes_of (open_table o)) (state_at o.finished p) p
  same_hunk hs e p same longs b = grind (arith, common_steps, before_is)

  module _ (p : Progress) (opened_is : opened p ≡ table o.finished ++ o.entry ∷ []) (longs_is : open_longs p ≡ size_longs o.entry.word) where
    block_state : (q : HunkSoFar) (blocks : List BlockValue) → MovesTo p q blocks →
        (let at = positions.Body (open_of q) (block_phase blocks) in state_at q.finished at ≡ move_to (sizes_of (open_table o)) (state_at o.finished at) at)
    block_state q [] m = next_state q.finished _ (m ∙ opened_is) refl
    block_state q (b ∷ blocks) m = same_hunk q.finished q.entry _ (m.1 ∙ opened_is) (m.0 ∙ longs_is) refl

    after_state : (n : Next) → IsAfterHeader n → Moves p n → state_of n ≡ move_to (sizes_of (open_table o)) (state_at o.finished (position_of n)) (position_of n)
    after_state (More (AtBlock q)) b m = block_state q q.blocks m
    after_state (More (InBody q word x)) b m = same_hunk q.finished q.entry _ (m.1 ∙ opened_is) (m.0 ∙ longs_is) (inside_open x (open_of q))
    after_state (Finished v) b m = next_state v positions.Done (m ∙ opened_is) refl
    after_state _ b m = absurd cc

-- ---- the table stays

-- the table stays, and the header was read
abbrev Keeps : List TableEntry → Next → Type 0
Keeps table n = (table_of n ≡ table) × IsAfterHeader n

open_keeps : (hunks : ℕ) (finished : List HunkValue) (x : HunkValue) (ahead : List TableEntry) →
    Keeps (table finished ++ x.entry ∷ ahead) (open_hunk hunks (finished ++ x ∷ []) ahead)
open_keeps hunks finished x ahead = search (rules, map-more, append_assoc)

after_keeps : (o : HunkSoFar) (word : ℕ) (n : BlockNext) → Keeps (open_table o) (after o word n)
after_keeps o word n = search (rules, open_keeps)

step_keeps : (p : Progress) (w : ℕ) → IsAfterHeader (More p) → Keeps (table_of (More p)) (step_file p w)
step_keeps p w h = search (rules, after_keeps)

pub step_table : (p : Progress) (w : ℕ) → IsAfterHeader (More p) → table_of (step_file p w) ≡ table_of (More p)
step_table p w h = (step_keeps p w h).0

pub step_after : (p : Progress) (w : ℕ) → IsAfterHeader (More p) → IsAfterHeader (step_file p w)
step_after p w h = (step_keeps p w h).1

-- A step of the reader is a step of the state.
pub step_state : (p : Progress) (w : ℕ) → IsAfterHeader (More p) → ProgressFits p → state_of (step_file p w) ≡ step_body (sizes_of (table_of (More p))) (state_of (More p)) w
step_state (AtBlock o) w b f =
    after_state o (AtBlock o) refl refl (step_file (AtBlock o) w) (step_after (AtBlock o) w b) (step_moves (AtBlock o) w)
    ∙ ap (λ (p : Position). move_to (sizes_of (open_table o)) (state_at o.finished p) p) (step_position (AtBlock o) w f)
step_state (InBody o word x) w b f =
    after_state o (InBody o word x) refl refl (step_file (InBody o word x) w) (step_after (InBody o word x) w b) (step_moves (InBody o word x) w)
    ∙ ap (λ (p : Position). move_to (sizes_of (open_table o)) (state_at o.finished p) p) (step_position (InBody o word x) w f)
step_state _ w b f = absurd cc

-- The state tells the refusal.
pub refusal_same : (p : Progress) (w : ℕ) → IsAfterHeader (More p) → ProgressFits p → refuse (role_of p) w ≡ refusal (sizes_of (table_of (More p))) (state_of (More p)) w
refusal_same p w b f = search (rules, declared)
