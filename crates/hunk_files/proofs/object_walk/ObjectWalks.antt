-- A walk over the longwords of an object file reaches its end or the first fault.
use Rattle.hunk_files.specs.FileParts.{counted, part_by}
use Rattle.std.proofs.Common.{rules, ◌≡◌, ℕ, zero, suc, ◌+◌, ◌*◌, ◌<◌, ◌≤◌, true, List, [], ◌∷◌, ◌++◌, length, get_or, take, refl, sym, ap, subst, ◌∙◌, append-nil, length-append, arith, Option, Some, None, inl, inr}
use Rattle.std.proofs.lemmas.List.{take_all}
use Rattle.hunk_words.specs.{declared.reason.Reason.Reason, Longs.{longs, bytes_of, IsBytes}}
use Rattle.hunk_words.specs.declared.reason.Reason.TheVariants as reasons
use Rattle.hunk_words.proofs.LongLaws.{length-bytes_of, longs_fit, spelled}
use Rattle.hunk_blocks.specs.BlockSteps.{BlockNext, Open, Whole, part_of}
use Rattle.hunk_grammar.specs.PhaseSteps.{part_at, longest_run_of, pass_longest_run_of}
use Rattle.hunk_blocks.specs.ReaderPhase.{phase_of, next_phase}
use Rattle.hunk_grammar.specs.declared.phase.Phase.{Phase}
use Rattle.hunk_blocks.proofs.{FaultScan.Machine, Outcomes.{Keeps, state_after, front}}
use Rattle.hunk_blocks.proofs.BlockPhases.{step_phase, refuse_phase, longest_runs_inside, no_run}
use Rattle.hunk_blocks.proofs.KeptWalks.{OnePasses, HasRuns, StandsAt, Walks, starts, stands, word_refused, word_passes}
use Rattle.hunk_grammar.specs.declared.object_position.ObjectPosition.{ObjectPosition}
use Rattle.hunk_files.specs.HunkFile.{AreObjectFile}
use Rattle.hunk_files.specs.ObjectFile.{object_text}
use Rattle.hunk_grammar.specs.declared.object_position.WordPlace.{WordPlace}
use Rattle.hunk_grammar.specs.declared.object_position.WordPlace.TheVariants.{BeforeUnits, BetweenHunks, InHunk}
use Rattle.hunk_grammar.specs.ObjectRoles.{ObjectRole, WordAt, UnitCount, UnitName, Within, refuse_object}
use Rattle.hunk_files.specs.ObjectFault.{objects, HasObjectFault}
use Rattle.hunk_grammar.specs.ObjectPositions.{role_at, within}
use Rattle.hunk_grammar.specs.declared.object_position.ObjectPosition.TheVariants as positions
use Rattle.hunk_grammar.specs.ObjectPositions as scan
use Rattle.hunk_files.specs.FileParts.{IsUnitPart}
use Rattle.hunk_files.proofs.{object_walk.ObjectOutcome.leads_there, object_walk.ObjectGoesOn.{counted_expects, counted_goes_on, never, whole_units}}
use Rattle.hunk_grammar.proofs.ObjectWords.{within_split}
use Rattle.hunk_files.proofs.{object_walk.ObjectProgress.{Counted, Reached}, parts.UnitParts.part_counted}
use Rattle.hunk_files.proofs.object_walk.OneObjectFault.{ObjectState, AtWord, AtCount, InName, InBlock, in_block, after_name, reader}
use Rattle.hunk_files.proofs.cuts.UnitReading.{text_longs}

-- ---- positions

abbrev pub position_of : ObjectState → ObjectPosition
position_of (AtWord place) = positions.Word place
position_of AtCount = positions.UnitCount
position_of (InName owed) = positions.UnitName owed
position_of (InBlock next x) = positions.Block next (phase_of x)

within_position : (next : WordPlace) (n : BlockNext) → position_of (in_block next n) ≡ within next (next_phase n)
within_position next (Open x) = refl
within_position next (Whole b) = refl

name_position : (owed : ℕ) → position_of (after_name owed) ≡ scan.owe_name owed
name_position zero = refl
name_position (suc owed) = refl

-- A step of the reader is a step of its position.
pub step_position : (s : ObjectState) (w : ℕ) → position_of (reader.step s w) ≡ scan.step (position_of s) w
step_position (AtWord place) w = search rules
step_position AtCount w = name_position w
step_position (InName owed) w = name_position owed
step_position (InBlock next x) w = within_position next _ ∙ ap (within next) (step_phase x w)

-- the role of the next longword
pub record Expected (s : ObjectState) (w : ℕ) : Type 0 where
  pub role : ObjectRole
  pub expects : reader.expects s ≡ Some role
  pub refuse_is : refuse_object role w ≡ refuse_object (role_at (position_of s)) w

pub expected : (s : ObjectState) (w : ℕ) → Expected s w
expected (AtWord place) w = record { role = WordAt place; expects = refl; refuse_is = refl }
expected AtCount w = record { role = UnitCount; expects = refl; refuse_is = refl }
expected (InName owed) w = record { role = UnitName; expects = refl; refuse_is = refl }
expected (InBlock next x) w = record {
  role = Within (part_of x);
  expects = refl;
  refuse_is = within_split (part_of x) w ∙ refuse_phase x w ∙ sym (within_split (part_at (phase_of x)) w);
}

-- ---- units and whole parts, as the walk counts them

abbrev Counts : Type 0
Counts = ℕ × ℕ

-- The reader, with what was counted before its position.
abbrev pub State : Type 0
State = ObjectState × Counts

-- what is counted at it
abbrev counts_at : State → Counts
counts_at c = counted (position_of c.0) c.1

abbrev pub counter : Machine State ObjectRole
counter =
    record {
      start = (AtWord BeforeUnits, (0, 0));
      expects = λ c. reader.expects c.0;
      step = λ c w. (reader.step c.0 w, counts_at c);
    }

reached : (s : ObjectState) (n : Counts) (ws : List ℕ) → Reached s n.0 n.1 ws → Counted s (counts_at (s, n)).0 (counts_at (s, n)).1 ws
reached (AtWord BeforeUnits) n ws h = h
reached (AtWord BetweenHunks) n ws h = h
reached (AtWord (InHunk has)) n ws h = h
reached AtCount n ws h = h
reached (InName owed) n ws h = h
reached (InBlock next x) n ws h = h

run_more : (s : ObjectState) (ws : List ℕ) (w : ℕ) → state_after reader s (ws ++ w ∷ []) ≡ reader.step (state_after reader s ws) w
run_more s [] w = refl
run_more s (v ∷ ws) w = run_more (reader.step s v) ws w

-- What was read is counted, and led there.
abbrev pub SoFar : State → List ℕ → Type 0
SoFar c ws = Counted c.0 (counts_at c).0 (counts_at c).1 ws × (state_after reader reader.start ws ≡ c.0)

pub counts : Keeps objects counter
counts =
    record {
      SoFar = SoFar;
      begins = ((refl, refl, refl), refl);
      expects = λ c before role h e. counted_expects c.0 (counts_at c).0 (counts_at c).1 before role h.0 e;
      goes_on = λ c before role w h e l ok. (
        reached (reader.step c.0 w) (counts_at c) (before ++ w ∷ []) (counted_goes_on c.0 (counts_at c).0 (counts_at c).1 before role w h.0 e l ok),
        run_more reader.start before w ∙ ap (λ (t : ObjectState). reader.step t w) h.1,
      );
      ends = λ c before h e. absurd (never c.0 e);
    }

-- ---- runs

-- a position, with what was counted before it
abbrev pub Place : Type 0
Place = ObjectPosition × Counts

abbrev pub place_of : State → Place
place_of c = (position_of c.0, c.1)

abbrev pub run_at : Place → ℕ
run_at p = scan.run p.0

abbrev pub after_run : Place → Place
after_run p = (scan.pass_run p.0, p.1)

run_within : (next : WordPlace) (n : BlockNext) → scan.run (position_of (in_block next n)) ≡ longest_run_of (next_phase n)
run_within next (Open x) = refl
run_within next (Whole b) = refl

after_within : (next : WordPlace) (n : BlockNext) → scan.pass_run (position_of (in_block next n)) ≡ within next (pass_longest_run_of (next_phase n))
after_within next (Open x) = refl
after_within next (Whole b) = refl

pub runs : HasRuns objects counter counts place_of run_at after_run
runs = record { one = λ c before left w h e. one c.0 c.1 left w e; none = λ c e. none c.0 c.1 e }
  where
    one : (s : ObjectState) (n : Counts) (left w : ℕ) → scan.run (position_of s) ≡ suc left → OnePasses objects counter counts place_of run_at after_run (s, n) left w
    one (AtWord place) n left w e = absurd (omega (arith, e))
    one AtCount n left w e = absurd (omega (arith, e))
    one (InName zero) n left w e = record { role = UnitName; expects = refl; passes = refl; run_is = omega (arith, e); after_is = refl }
    one (InName (suc owed)) n left w e = record { role = UnitName; expects = refl; passes = refl; run_is = omega (arith, e); after_is = refl }
    one (InBlock next x) n left w e =
        let o = longest_runs_inside x left w e in
        record {
          role = Within (part_of x);
          expects = refl;
          passes = within_split (part_of x) w ∙ o.0;
          run_is = run_within next _ ∙ o.1;
          after_is = ap (λ (q : ObjectPosition). (q, n)) (after_within next _ ∙ ap (within next) o.2);
        }

    none : (s : ObjectState) (n : Counts) → scan.run (position_of s) ≡ 0 → after_run (place_of (s, n)) ≡ place_of (s, n)
    none (AtWord place) n e = refl
    none AtCount n e = refl
    none (InName owed) n e = absurd (omega (arith, e))
    none (InBlock next x) n e = ap (λ (o : Option Phase). (within next o, n)) (no_run (phase_of x) e)

-- ---- the walk

abbrev pub ObjectWalks : List ℕ → ℕ → ObjectPosition → ℕ → ℕ → Type 0
ObjectWalks bytes at p begun whole = Walks objects counter counts place_of run_at after_run (longs bytes) at (p, (begun, whole))

module _ (bytes : List ℕ) (fit : IsBytes bytes) where
  pub start : ObjectWalks bytes 0 (positions.Word BeforeUnits) 0 0
  start = starts objects counter counts place_of run_at after_run (longs bytes)

  module _ (at : ℕ) (p : ObjectPosition) (begun whole : ℕ) (h : ObjectWalks bytes at p begun whole) where
    -- It stands here.
    s : (l : at ≤ length (longs bytes)) → StandsAt objects counter counts place_of run_at after_run (longs bytes) at (p, (begun, whole))
    s l = stands objects counter counts place_of run_at after_run (longs bytes) at (p, (begun, whole)) h l

    module _ (l : at < length (longs bytes)) (w : ℕ) (is : w ≡ get_or (longs bytes) at 0) where
      here : StandsAt objects counter counts place_of run_at after_run (longs bytes) at (p, (begun, whole))
      here = s (omega (arith, l))

      n : Expected here.state.0 (get_or (longs bytes) at 0)
      n = expected here.state.0 (get_or (longs bytes) at 0)

      position_is : position_of here.state.0 ≡ p
      position_is = ap (λ (q : Place). q.0) here.position_is

      same : refuse_object n.role (get_or (longs bytes) at 0) ≡ refuse_object (role_at p) w
      same = n.refuse_is ∙ ap (λ (q : ObjectPosition). refuse_object (role_at q) (get_or (longs bytes) at 0)) position_is ∙ ap (refuse_object (role_at p)) (sym is)

      -- The longword is refused.
      pub refused : (reason : Reason) → refuse_object (role_at p) w ≡ Some reason → HasObjectFault bytes (4 * at) reason
      refused reason e = inl (word_refused objects counter counts place_of run_at after_run (longs bytes) (longs_fit bytes fit) at (p, (begun, whole)) here l n.role n.expects reason (same ∙ e))

      -- The walk goes on after it.
      pub passes : refuse_object (role_at p) w ≡ None →
          (let m = counted p (begun, whole) in ObjectWalks bytes (at + (1 + scan.run (scan.step p w))) (scan.pass_run (scan.step p w)) m.0 m.1)
      passes e =
          word_passes objects counter counts place_of run_at after_run (longs bytes) (longs_fit bytes fit) at (p, (begun, whole)) here l n.role n.expects runs (same ∙ e) (scan.step p w, counted p (begun, whole))
          (λ i. (
            (step_position here.state.0 (get_or (longs bytes) at 0) ∙ ap (λ (q : ObjectPosition). scan.step q (get_or (longs bytes) at 0)) position_is ∙ ap (scan.step p) (sym is)) i,
            ap (λ (q : Place). counted q.0 q.1) here.position_is i,
          ))

    -- ---- the part

    -- The next longword is of the part that is counted.
    pub part_here : at ≤ length (longs bytes) → (let m = counted p (begun, whole) in IsUnitPart (take at (longs bytes)) (part_by m.0 m.1))
    unfolding counts
    part_here l =
        let c = (s l).state in
        subst (λ (m : Counts). IsUnitPart (take at (longs bytes)) (part_by m.0 m.1)) (ap (λ (q : Place). counted q.0 q.1) (s l).position_is)
        (part_counted c.0 (counts_at c).0 (counts_at c).1 (take at (longs bytes)) (s l).so_far.0)

    -- In a run nothing is counted.
    run_counts : (q : ObjectPosition) (m : Counts) → 0 < scan.run q → counted q m ≡ m
    run_counts (positions.Word place) m r = absurd (omega (arith, r))
    run_counts positions.UnitCount m r = absurd (omega (arith, r))
    run_counts (positions.UnitName owed) m r = refl
    run_counts (positions.Block next phase) m r = refl

    -- So where the input ends in it.
    pub part_cut : length (longs bytes) < at → IsUnitPart (longs bytes) (part_by begun whole)
    unfolding counts
    part_cut l = go h
      where
        go : ObjectWalks bytes at p begun whole → IsUnitPart (longs bytes) (part_by begun whole)
        go (inl t) = absurd (omega (arith, t.whole, l))
        go (inr t) =
            let c = t.state in
            subst (λ (m : Counts). IsUnitPart (longs bytes) (part_by m.0 m.1)) (run_counts (position_of c.0) c.1 t.inside ∙ ap (λ (q : Place). q.1) t.position_is)
            (part_counted c.0 (counts_at c).0 (counts_at c).1 (longs bytes) t.so_far.0)

  -- ---- the end

  between : (s : ObjectState) → position_of s ≡ positions.Word BetweenHunks → s ≡ AtWord BetweenHunks
  between (AtWord place) e = search rules
  between AtCount e = absurd cc
  between (InName owed) e = absurd cc
  between (InBlock next x) e = absurd cc

  end_between : (p : ObjectPosition) → scan.may_end p ≡ true → p ≡ positions.Word BetweenHunks
  end_between (positions.Word BetweenHunks) e = refl
  end_between (positions.Word BeforeUnits) e = absurd cc
  end_between (positions.Word (InHunk has)) e = absurd cc
  end_between positions.UnitCount e = absurd cc
  end_between (positions.UnitName owed) e = absurd cc
  end_between (positions.Block next phase) e = absurd cc

  -- The file is whole.
  pub ends : (at : ℕ) (p : ObjectPosition) (begun whole : ℕ) → ObjectWalks bytes at p begun whole → scan.may_end p ≡ true → at ≤ length (longs bytes) → length (longs bytes) ≤ at → length bytes ≡ 4 * length (longs bytes) → AreObjectFile bytes
  unfolding counts
  ends at p begun whole h may few many all =
      let t = s at p begun whole h few in
      let c = t.state in
      let read = subst (SoFar c) (take_all at (longs bytes) many) t.so_far in
      let last = between c.0 (ap (λ (q : Place). q.0) t.position_is ∙ end_between p may) in
      let o = whole_units (counts_at c).0 (counts_at c).1 (longs bytes) (subst (λ (u : ObjectState). Counted u (counts_at c).0 (counts_at c).1 (longs bytes)) last read.0) in
      record { value = o.0; is_object_file = o.1; text_is = all_bytes (spelled bytes fit).over (spelled bytes fit).split ∙ ap bytes_of o.2 }
    where
      all_bytes : (over : List ℕ) → bytes ≡ bytes_of (longs bytes) ++ over → bytes ≡ bytes_of (longs bytes)
      all_bytes [] e = e ∙ append-nil (bytes_of (longs bytes))
      all_bytes (b ∷ over) e = absurd (omega (arith, ap length e, length-append (bytes_of (longs bytes)) (b ∷ over), length-bytes_of (longs bytes), all))

  -- No object file is all of the bytes, and one begins with their longwords.
  cut_short : (c : State) → SoFar c (longs bytes) → (length bytes ≡ 4 * length (longs bytes) → c.0 ≡ AtWord BetweenHunks → ⊥) → HasObjectFault bytes (4 * length (longs bytes)) reasons.Truncated
  unfolding counts
  cut_short c h open_still =
      inr (
        refl,
        record {
          place = refl;
          not_whole = λ o is e.
              open_still (ap length e ∙ length-bytes_of (object_text o) ∙ ap (λ (ws : List ℕ). 4 * length ws) (sym (text_longs bytes o is.units e))) (sym h.1 ∙ leads_there bytes o is e);
          front = front objects counter counts c (longs bytes) h;
        },
      )

  -- The input ends early.
  pub ends_early : (at : ℕ) (p : ObjectPosition) (begun whole : ℕ) → ObjectWalks bytes at p begun whole → length (longs bytes) ≤ at → (at ≤ length (longs bytes) → length bytes ≡ 4 * length (longs bytes) → scan.may_end p ≡ true → ⊥) →
      HasObjectFault bytes (4 * length (longs bytes)) reasons.Truncated
  unfolding counts
  ends_early at p begun whole (inl t) l open_still =
      cut_short t.state (subst (SoFar t.state) (take_all at (longs bytes) l) t.so_far)
      (λ all e. open_still t.whole all (ap (λ (q : Place). scan.may_end q.0) (sym t.position_is) ∙ ap (λ (u : ObjectState). scan.may_end (position_of u)) e))
  ends_early at p begun whole (inr t) l open_still =
      cut_short t.state t.so_far (λ all e. omega (arith, t.inside, ap (λ (u : ObjectState). scan.run (position_of u)) e))
