-- A walk over a load file keeps the position of what was read, and the entry of the open hunk.
use Rattle.std.proofs.Common.{rules, ◌≡◌, ℕ, zero, suc, ◌+◌, ◌-◌, ◌*◌, ◌<◌, ◌≤◌, true, false, List, [], ◌∷◌, ◌++◌, length, get_or, take, drop, refl, sym, ap, ap₂, subst, ◌∙◌, append_assoc, length-append, arith, Option, Some, None, if◌then◌else◌, inl, inr}
use Rattle.std.proofs.lemmas.Grind.{common_steps}
use Rattle.std.specs.List.{flat_map}
use Rattle.std.proofs.lemmas.List.{length-map, length-take-le, get_or_at, map-append, take-append-drop, take_all, get_or-take}
use Rattle.std.proofs.lemmas.List.Concat.{flat_map-append}
use Rattle.hunk_words.specs.{declared.reason.Reason.Reason, Longs.{IsBytes, longs, bytes_of}}
use Rattle.hunk_words.specs.Bits.{size_longs, has_both_bits, entry_longs}
use Rattle.hunk_words.specs.declared.reason.Reason.TheVariants as reasons
use Rattle.hunk_words.proofs.LongLaws.{longs_fit, length-longs}
use Rattle.hunk_blocks.specs.{Values.BlockValue, Faults.words}
use Rattle.hunk_grammar.specs.declared.phase.Phase.TheVariants as phases
use Rattle.hunk_grammar.specs.PhaseSteps as inside
use Rattle.hunk_blocks.proofs.Decoding.{front_bytes}
use Rattle.hunk_blocks.proofs.KeptWalks.{OnePasses, HasRuns, StandsAt as StandsFor, Walks as WalksOf, starts, word_refused, word_reads, word_passes}
use Rattle.hunk_grammar.specs.{declared.position.Position.Position, Positions.{role_at, is_between_hunks}}
use Rattle.hunk_grammar.specs.Roles.{Role, refuse, Role as roles}
use Rattle.hunk_grammar.specs.declared.position.Position.TheVariants as positions
use Rattle.hunk_grammar.specs.Positions as scan
use Rattle.hunk_files.specs.{LoadFile.TableEntry, LoadText.{entry_labelled, hunk_labelled, blocks_labelled, table}}
use Rattle.hunk_files.specs.{Fault.{HasFault, HasLoadText, IsTruncated, load_files}, declared.load.walk.DeclaredHunk.DeclaredHunk}
use Rattle.hunk_files.specs.Entries.{entry_after, entry_at}
use Rattle.hunk_files.specs.FileSteps.{HunkSoFar, Progress, AtFirst, AtBlock, InBody, Next, More, Finished, role_of, step_file}
use Rattle.hunk_files.specs.{ReaderPosition.{open_of, block_phase, position_of, open_longs, opened, part_in}, WordsRead.{HasRead, Labelled}}
use Rattle.hunk_files.specs.{FileParts.IsLoadPart, declared.part.Part.Part}
use Rattle.hunk_files.specs.declared.part.Part.TheVariants as parts
use Rattle.hunk_files.proofs.walk.FileProgress.{header_so_far, open_so_far}
use Rattle.hunk_files.proofs.walk.Positions.{Moves, MovesTo, refuse_same, step_position, step_moves}
use Rattle.hunk_files.proofs.{walk.Reading.{read_ended, reads}, walk.Scan.{load_reader, keeps, truncated_of}}
use Rattle.hunk_files.proofs.{parts.LoadParts.part_fits, parts.TextPlaces.read_part}

-- the longword after these entries
abbrev row_past : List TableEntry → ℕ
row_past es = 5 + length (flat_map entry_labelled es)

-- the longword at which the next entry stands
abbrev row_of : Progress → ℕ
row_of p = row_past (opened p)

-- the entry of the open hunk
abbrev entry_of : Progress → DeclaredHunk
entry_of p = record { longs = open_longs p; next = row_of p }

-- What is kept of what was read: nothing where the file is whole.
abbrev pub kept_of : Next → Option (Position × DeclaredHunk)
kept_of (More p) = Some (position_of (More p), entry_of p)
kept_of (Finished v) = None

abbrev pub run_of : Option (Position × DeclaredHunk) → ℕ
run_of (Some k) = scan.run k.0
run_of None = 0

-- after the longwords that no test looks at
abbrev pub passed : Position → Position
passed (positions.Body o (phases.Offset target owed)) = positions.Body o (phases.Offset target owed)
passed (positions.Body o phase) = scan.onward o (scan.after o phase) (inside.pass_longest_run phase)
passed p = p

abbrev pub after_run : Option (Position × DeclaredHunk) → Option (Position × DeclaredHunk)
after_run (Some k) = Some (passed k.0, k.1)
after_run None = None

same_entry : (e d : DeclaredHunk) → e.longs ≡ d.longs → e.next ≡ d.next → e ≡ d
same_entry e d l n = λ i. record { longs = l i; next = n i }

-- ---- where the entry of a hunk stands

-- the size word of the entry of the open hunk, in the text so far
entry_split : (o : HunkSoFar) → (more : Labelled) × (open_so_far o ≡ header_so_far o.hunks (table o.finished) ++ (roles.SizeWord, o.entry.word) ∷ more)
entry_split o =
    let before = header_so_far o.hunks (table o.finished) in
    let entries = flat_map entry_labelled (o.entry ∷ o.ahead) in
    let extra = if has_both_bits o.entry.word then (roles.Attributes, o.entry.extra) ∷ [] else [] in
    let hunks = flat_map (hunk_labelled o.hunks) o.finished in
    let blocks = blocks_labelled o.hunks (size_longs o.entry.word) false o.blocks in (
      ((extra ++ flat_map entry_labelled o.ahead) ++ hunks) ++ blocks,
      ap (λ (l : Labelled). ((header_so_far o.hunks [] ++ l) ++ hunks) ++ blocks) (flat_map-append entry_labelled (table o.finished) (o.entry ∷ o.ahead))
          ∙ ap (λ (l : Labelled). l ++ blocks) (append_assoc before entries hunks)
          ∙ append_assoc before (entries ++ hunks) blocks,
    )

module _ (ws : List ℕ) (o : HunkSoFar) (h : HasRead ws (More (AtBlock o))) where
  after_length : length (words (header_so_far o.hunks (table o.finished))) ≡ row_past (table o.finished)
  after_length = omega (arith, length-map (header_so_far o.hunks (table o.finished)) (λ (x : Role × ℕ). x.1))

  read_split : ws ≡ words (header_so_far o.hunks (table o.finished)) ++ o.entry.word ∷ words (entry_split o).0
  read_split = sym h.all ∙ ap words (sym (reads h).1 ∙ (entry_split o).1) ∙ map-append (λ (x : Role × ℕ). x.1) (header_so_far o.hunks (table o.finished)) ((roles.SizeWord, o.entry.word) ∷ (entry_split o).0)

  row_inside : row_past (table o.finished) < length ws
  row_inside = omega (arith, after_length, ap length read_split, length-append (words (header_so_far o.hunks (table o.finished))) (o.entry.word ∷ words (entry_split o).0))

  row_word : get_or ws (row_past (table o.finished)) 0 ≡ o.entry.word
  row_word = simp (get_or, row_past, read_split, get_or_at, header_so_far, after_length)

row_after : (es : List TableEntry) (e : TableEntry) → row_past (es ++ e ∷ []) ≡ row_past es + entry_longs e.word
row_after es e = grind (arith, common_steps)

-- ---- one more longword

-- after these longwords of the input, where the last was read at p
module _ (all : List ℕ) (at : ℕ) (whole : at ≤ length all) (p : Progress) where
  module _ (o : HunkSoFar) (read : HasRead (take at all) (More (AtBlock o))) where
    opens_inside : row_past (table o.finished) ≡ row_of p → row_of p < at
    opens_inside e = omega (arith, e, row_inside (take at all) o read, length-take-le at all whole)

    opened_entry : row_past (table o.finished) ≡ row_of p → entry_of (AtBlock o) ≡ entry_after (get_or all (row_of p) 0) (row_of p)
    opened_entry e =
        let word : o.entry.word ≡ get_or all (row_of p) 0 =
        sym (row_word (take at all) o read)
        ∙ ap (λ (r : ℕ). get_or (take at all) r 0) e
        ∙ get_or-take at all (row_of p) 0 (opens_inside e) in
        same_entry _ _ (ap size_longs word) (row_after (table o.finished) o.entry ∙ ap₂ (λ (r w : ℕ). r + entry_longs w) e word)

    block_entry : (blocks : List BlockValue) → MovesTo p o blocks →
        (is_between_hunks (positions.Body (open_of o) (block_phase blocks)) ≡ true → row_of p < at)
        × (entry_of (AtBlock o) ≡ entry_at all (positions.Body (open_of o) (block_phase blocks)) (entry_of p))
    block_entry [] m = let e = ap row_past m in ((λ b. opens_inside e), opened_entry e)
    block_entry (b ∷ blocks) m = ((λ e. absurd cc), same_entry _ _ m.0 (ap row_past m.1))

  -- Where a hunk opens, its entry was read, and is the next of the table.
  entry_now : (q : Progress) → HasRead (take at all) (More q) → Moves p (More q) → (is_between_hunks (position_of (More q)) ≡ true → row_of p < at) × (entry_of q ≡ entry_at all (position_of (More q)) (entry_of p))
  entry_now (AtBlock o) h m = block_entry o h o.blocks m
  entry_now (InBody o word x) h m = search rules
  entry_now _ h m = ((λ e. absurd cc), same_entry _ _ m.0 (ap row_past m.1))

-- ---- runs

block_stays : (p : Progress) (o : HunkSoFar) (blocks : List BlockValue) → MovesTo p o blocks → is_between_hunks (positions.Body (open_of o) (block_phase blocks)) ≡ false → entry_of (AtBlock o) ≡ entry_of p
block_stays p o [] m b = absurd cc
block_stays p o (c ∷ blocks) m b = same_entry _ _ m.0 (ap row_past m.1)

-- Where no hunk opens, the entry stays.
stays : (p : Progress) (n : Next) → Moves p n → is_between_hunks (position_of n) ≡ false → kept_of n ≡ Some (position_of n, entry_of p)
stays p (Finished v) m b = absurd cc
stays p (More (AtBlock o)) m b = ap (λ (e : DeclaredHunk). Some (position_of (More (AtBlock o)), e)) (block_stays p o o.blocks m b)
stays p (More q) m b = ap (λ (e : DeclaredHunk). Some (position_of (More q), e)) (same_entry _ _ m.0 (ap row_past m.1))

-- One longword of a run, of which this number is left, where the open hunk declares this number of longs.
pub record OneOfRun (p : Position) (declared left w : ℕ) : Type 0 where
  pub passes : refuse (role_at declared p) w ≡ None
  pub stays_open : is_between_hunks (scan.step p w) ≡ false
  pub run_is : scan.run (scan.step p w) ≡ left
  pub after_is : passed (scan.step p w) ≡ passed p

pub none_left : (n : ℕ) → n - n ≡ 0
none_left n = omega arith

pub one_of_run : (p : Position) (declared left w : ℕ) → scan.run p ≡ suc left → OneOfRun p declared left w
one_of_run (positions.Body o (phases.Content all zero)) declared left w e = record { passes = refl; stays_open = refl; run_is = omega (arith, e); after_is = refl }
one_of_run (positions.Body o (phases.Content all (suc owed))) declared left w e = record { passes = refl; stays_open = refl; run_is = omega (arith, e); after_is = refl }
one_of_run (positions.Body o (phases.Payload zero)) declared left w e = record { passes = refl; stays_open = refl; run_is = omega (arith, e); after_is = refl }
one_of_run (positions.Body o (phases.Payload (suc owed))) declared left w e = record { passes = refl; stays_open = refl; run_is = omega (arith, e); after_is = refl }
one_of_run (positions.Body o (phases.Symbol zero)) declared left w e = record { passes = refl; stays_open = refl; run_is = omega (arith, e); after_is = refl }
one_of_run (positions.Body o (phases.Symbol (suc owed))) declared left w e = record { passes = refl; stays_open = refl; run_is = omega (arith, e); after_is = refl }
one_of_run (positions.Body o (phases.ExtFront zero)) declared left w e = record { passes = refl; stays_open = refl; run_is = omega (arith, e); after_is = refl }
one_of_run (positions.Body o (phases.ExtFront (suc owed))) declared left w e = record { passes = refl; stays_open = refl; run_is = omega (arith, e); after_is = refl }
one_of_run (positions.Body o (phases.ExtRest zero)) declared left w e = record { passes = refl; stays_open = refl; run_is = omega (arith, e); after_is = refl }
one_of_run (positions.Body o (phases.ExtRest (suc owed))) declared left w e = record { passes = refl; stays_open = refl; run_is = omega (arith, e); after_is = refl }
one_of_run _ declared left w e = absurd (omega (arith, e))

-- A run is passed over at once.
pub all_passed : (p : Position) → scan.pass p (scan.run p) ≡ passed p
all_passed (positions.Body o (phases.Content all owed)) = ap (λ (k : ℕ). scan.owe_content o all k) (none_left owed)
all_passed (positions.Body o (phases.Payload owed)) = ap (λ (k : ℕ). scan.owe_payload o k) (none_left owed)
all_passed (positions.Body o (phases.Symbol owed)) = ap (λ (k : ℕ). scan.owe_symbol o k) (none_left owed)
all_passed (positions.Body o (phases.ExtFront owed)) = ap (λ (k : ℕ). scan.onward o (scan.at o phases.BlockWord) (inside.owe_front k)) (none_left owed)
all_passed (positions.Body o (phases.ExtRest owed)) = ap (λ (k : ℕ). scan.onward o (scan.at o phases.BlockWord) (inside.owe_rest k)) (none_left owed)
all_passed _ = refl

runs : HasRuns load_files load_reader keeps kept_of run_of after_run
unfolding keeps
runs = record { one = one; none = none }
  where
    one : (s : Next) (before : List ℕ) (left w : ℕ) → HasRead before s → run_of (kept_of s) ≡ suc left → OnePasses load_files load_reader keeps kept_of run_of after_run s left w
    one (Finished v) before left w h e = absurd cc
    one (More p) before left w h e =
        let o = one_of_run (position_of (More p)) (open_longs p) left w e in
        let step = step_position p w (reads h).0 in
        let now : kept_of (step_file p w) ≡ Some (scan.step (position_of (More p)) w, entry_of p) =
        stays p (step_file p w) (step_moves p w) (ap is_between_hunks step ∙ o.stays_open) ∙ ap (λ (q : Position). Some (q, entry_of p)) step in
        record {
          role = role_of p;
          expects = refl;
          passes = refuse_same p w (reads h).0 ∙ o.passes;
          run_is = ap run_of now ∙ o.run_is;
          after_is = ap after_run now ∙ ap (λ (q : Position). Some (q, entry_of p)) o.after_is;
        }

    none : (s : Next) → run_of (kept_of s) ≡ 0 → after_run (kept_of s) ≡ kept_of s
    none (Finished v) e = refl
    none (More p) e = ap (λ (q : Position). Some (q, entry_of p)) (sym (all_passed (position_of (More p))) ∙ ap (λ (n : ℕ). scan.pass (position_of (More p)) n) e)

-- ---- the walk

abbrev pub Walks : List ℕ → ℕ → Position → DeclaredHunk → Type 0
Walks bytes at position entry = WalksOf load_files load_reader keeps kept_of run_of after_run (longs bytes) at (Some (position, entry))

pub start_walk : (bytes : List ℕ) → Walks bytes 0 positions.FirstLong (record { longs = 0; next = 5 })
start_walk bytes = starts load_files load_reader keeps kept_of run_of after_run (longs bytes)

-- What was read up to a longword at which the walk stands.
record IsHere (bytes : List ℕ) (at : ℕ) (position : Position) (entry : DeclaredHunk) : Type 0 where
  progress : Progress
  so_far : HasRead (take at (longs bytes)) (More progress)
  position_is : position_of (More progress) ≡ position
  entry_is : entry_of progress ≡ entry
  whole : at ≤ length (longs bytes)

is_here : (bytes : List ℕ) (at : ℕ) (position : Position) (entry : DeclaredHunk) → Walks bytes at position entry → at ≤ length (longs bytes) → IsHere bytes at position entry
unfolding keeps
is_here bytes at position entry h l = search rules

not_done : (p : Progress) → position_of (More p) ≡ positions.Done → ⊥
not_done AtFirst e = cc
not_done _ e = cc

module _ (bytes : List ℕ) (fit : IsBytes bytes) (at : ℕ) (position : Position) (entry : DeclaredHunk) (h : Walks bytes at position entry) (l : at < length (longs bytes)) (w : ℕ) (is : w ≡ get_or (longs bytes) at 0) where
  here : IsHere bytes at position entry
  here = is_here bytes at position entry h (omega (arith, l))

  s : StandsFor load_files load_reader keeps kept_of run_of after_run (longs bytes) at (Some (position, entry))
  unfolding keeps
  s = record { state = More here.progress; so_far = here.so_far; position_is = λ i. Some (here.position_is i, here.entry_is i); whole = here.whole }

  same : refuse (role_of here.progress) (get_or (longs bytes) at 0) ≡ refuse (role_at entry.longs position) w
  same =
      refuse_same here.progress (get_or (longs bytes) at 0) (reads here.so_far).0
      ∙ ap₂ (λ (e : DeclaredHunk) (p : Position). refuse (role_at e.longs p) (get_or (longs bytes) at 0)) here.entry_is here.position_is
      ∙ ap (refuse (role_at entry.longs position)) (sym is)

  -- The longword is refused.
  pub refused : (reason : Reason) → refuse (role_at entry.longs position) w ≡ Some reason → HasFault bytes (4 * at) reason
  unfolding s
  refused reason e =
      inl (word_refused load_files load_reader keeps kept_of run_of after_run (longs bytes) (longs_fit bytes fit) at (Some (position, entry)) s l (role_of here.progress) refl reason (same ∙ e))

  module _ (after : Position) (steps : after ≡ scan.step position w) (ok : refuse (role_at entry.longs position) w ≡ None) where
    next : Next
    next = step_file here.progress (get_or (longs bytes) at 0)

    read : HasRead (take (at + 1) (longs bytes)) next
    unfolding keeps s next
    read = word_reads load_files load_reader keeps kept_of run_of after_run (longs bytes) (longs_fit bytes fit) at (Some (position, entry)) s l (role_of here.progress) refl (same ∙ ok)

    position_is : position_of next ≡ after
    unfolding next
    position_is =
        step_position here.progress (get_or (longs bytes) at 0) (reads here.so_far).0
        ∙ ap₂ (λ (p : Position) (x : ℕ). scan.step p x) here.position_is (sym is)
        ∙ sym steps

    -- It ends the file.
    pub ends : after ≡ positions.Done → HasLoadText bytes (4 * (at + 1))
    ends e = go next read (position_is ∙ e)
      where
        go : (n : Next) → HasRead (take (at + 1) (longs bytes)) n → position_of n ≡ positions.Done → HasLoadText bytes (4 * (at + 1))
        go (More p) f d = absurd (not_done p d)
        go (Finished v) f d =
            let whole = read_ended (take (at + 1) (longs bytes)) v f in
            let size : 4 * length (take (at + 1) (longs bytes)) ≡ 4 * (at + 1) = omega (arith, l, length-take-le (at + 1) (longs bytes)) in
            let x = front_bytes bytes (take (at + 1) (longs bytes)) (drop (at + 1) (longs bytes)) fit (sym (take-append-drop (at + 1) (longs bytes))) in
            record {
              value = v;
              is_load_file = whole.0;
              text_is = ap (λ (n : ℕ). take n bytes) (sym size) ∙ x.0 ∙ ap bytes_of (sym whole.1);
              whole = omega (arith, size, x.1);
            }

    -- the entry after it
    abbrev Onward : Position → DeclaredHunk → Type 0
    Onward p e = (is_between_hunks p ≡ true → e.next < at + 1) × (kept_of next ≡ Some (p, entry_at (longs bytes) p e))

    onward : (after ≡ positions.Done → ⊥) → Onward after entry
    unfolding next
    onward more = subst (Onward after) here.entry_is (go next read (step_moves here.progress (get_or (longs bytes) at 0)) position_is)
      where
        go : (n : Next) → HasRead (take (at + 1) (longs bytes)) n → Moves here.progress n → position_of n ≡ after → (is_between_hunks after ≡ true → row_of here.progress < at + 1) × (kept_of n ≡ Some (after, entry_at (longs bytes) after (entry_of here.progress)))
        go (Finished v) f m e = absurd (more (sym e))
        go (More q) f m e =
            let x = entry_now (longs bytes) (at + 1) (omega (arith, l)) here.progress q f m in
            ((λ b. x.0 (ap is_between_hunks e ∙ b)), ap₂ (λ (p : Position) (d : DeclaredHunk). Some (p, d)) e (x.1 ∙ ap (λ (p : Position). entry_at (longs bytes) p (entry_of here.progress)) e))

    -- A hunk opens after it, and its entry was read.
    pub opens : (after ≡ positions.Done → ⊥) → is_between_hunks after ≡ true → 4 * entry.next + 4 ≤ length bytes
    opens more between = omega (arith, (onward more).0 between, l, length-longs bytes)

    -- The walk goes on after it and its run.
    pub passes : (after ≡ positions.Done → ⊥) → Walks bytes (at + (1 + scan.run after)) (scan.pass after (scan.run after)) (entry_at (longs bytes) after entry)
    unfolding s next
    passes more =
        subst (λ (p : Position). Walks bytes (at + (1 + scan.run after)) p (entry_at (longs bytes) after entry)) (sym (all_passed after))
        (word_passes load_files load_reader keeps kept_of run_of after_run (longs bytes) (longs_fit bytes fit) at (Some (position, entry)) s l (role_of here.progress) refl runs (same ∙ ok)
        (Some (after, entry_at (longs bytes) after entry)) (onward more).1)

-- ---- the end

-- All longwords were read, and the file goes on.
pub ends_early : (bytes : List ℕ) (at : ℕ) (position : Position) (entry : DeclaredHunk) → Walks bytes at position entry → length (longs bytes) ≤ at → HasFault bytes (4 * length (longs bytes)) reasons.Truncated
unfolding keeps
ends_early bytes at position entry h l = inr (
  refl,
  elim h [
    | inl s ↦ go s.state (subst (λ (ws : List ℕ). HasRead ws s.state) (take_all at (longs bytes) l) s.so_far) (λ e. absurd (cc (s.position_is, e)))
    | inr s ↦ go s.state s.so_far (λ e. absurd (omega (arith, s.inside, ap run_of e)))
  ],
)
  where
    go : (n : Next) → HasRead (longs bytes) n → (kept_of n ≡ None → ⊥) → IsTruncated bytes (4 * length (longs bytes))
    go (More p) f more = truncated_of bytes p f
    go (Finished v) f more = absurd (more refl)

-- ---- the part

-- A run stays in its part.
run_part : (p : Position) → part_in (passed p) ≡ part_in p
run_part (positions.Body o (phases.Content all owed)) = refl
run_part (positions.Body o (phases.Payload owed)) = refl
run_part (positions.Body o (phases.Offset target owed)) = refl
run_part (positions.Body o (phases.Symbol owed)) = refl
run_part (positions.Body o (phases.ExtFront owed)) = refl
run_part (positions.Body o (phases.ExtRest owed)) = refl
run_part _ = refl

-- The next longword is of the part that the position says.
part_is : (ws : List ℕ) (p : Progress) (part : Part) → HasRead ws (More p) → part_in (position_of (More p)) ≡ part → IsLoadPart ws part
part_is ws p part h e = subst (IsLoadPart ws) (sym (part_fits p (reads h).0) ∙ e) (read_part ws p h)

pub part_here : (bytes : List ℕ) (at : ℕ) (position : Position) (entry : DeclaredHunk) → Walks bytes at position entry → at ≤ length (longs bytes) → IsLoadPart (take at (longs bytes)) (part_in position)
part_here bytes at position entry h l =
    let here = is_here bytes at position entry h l in
    part_is (take at (longs bytes)) here.progress (part_in position) here.so_far (ap part_in here.position_is)

abbrev part_kept : Option (Position × DeclaredHunk) → Part
part_kept (Some k) = part_in k.0
part_kept None = parts.Header

-- So it is where the input ends.
pub part_at_end : (bytes : List ℕ) (at : ℕ) (position : Position) (entry : DeclaredHunk) → Walks bytes at position entry → length (longs bytes) ≤ at → IsLoadPart (longs bytes) (part_in position)
unfolding keeps
part_at_end bytes at position entry (inl s) l =
    subst (λ (ws : List ℕ). IsLoadPart ws (part_in position)) (take_all at (longs bytes) l) (part_here bytes at position entry (inl s) s.whole)
part_at_end bytes at position entry (inr s) l = go s.state s.so_far s.position_is
  where
    go : (n : Next) → HasRead (longs bytes) n → after_run (kept_of n) ≡ Some (position, entry) → IsLoadPart (longs bytes) (part_in position)
    go (Finished v) f e = absurd cc
    go (More p) f e = part_is (longs bytes) p (part_in position) f (sym (run_part (position_of (More p))) ∙ ap part_kept e)
