-- A walk keeps a state of a machine in which the longwords up to it were read, and passes over runs at once.
use Rattle.std.proofs.Common.{rules, ◌≡◌, ℕ, zero, suc, ◌+◌, ◌*◌, ◌<◌, ◌≤◌, List, [], ◌∷◌, ◌++◌, length, get_or, take, drop, refl, sym, ap, subst, ◌∙◌, append_assoc, append-nil, arith, Some, None, ◌⊎◌, inl, inr}
use Rattle.std.proofs.{Math.Seq.take-add, lemmas.{List.Elements.All-from_recursion, Bool.cases_lt}}
use Rattle.std.proofs.lemmas.List.{length-take-le, length-drop, take_more, drop_more, take-append-drop}
use Rattle.hunk_words.specs.{declared.reason.Reason.Reason, Longs.{IsLong, AreLongs}}
use Rattle.hunk_blocks.specs.Faults.{Grammar, HasRefusal}
use Rattle.hunk_blocks.proofs.{FaultScan.Machine, Fronts.{All-left, All-right}, Outcomes.Keeps}

-- The position of a state, how many longwords come there that no test looks at, and the position after them.
module _ {Value State Role Pos : Type 0} (g : Grammar Value Role) (m : Machine State Role) (k : Keeps g m) (pos : State → Pos) (run : Pos → ℕ) (after : Pos → Pos) where
  -- one longword of a run, of which this number is left
  pub record OnePasses (s : State) (left w : ℕ) : Type 0 where
    pub role : Role
    pub expects : m.expects s ≡ Some role
    pub passes : g.refuse role w ≡ None
    pub run_is : run (pos (m.step s w)) ≡ left
    pub after_is : after (pos (m.step s w)) ≡ after (pos s)

  pub record HasRuns : Type 0 where
    pub one : (s : State) (before : List ℕ) (left w : ℕ) → k.SoFar s before → run (pos s) ≡ suc left → OnePasses s left w
    pub none : (s : State) → run (pos s) ≡ 0 → after (pos s) ≡ pos s

  -- It stands at this longword.
  pub record StandsAt (ws : List ℕ) (at : ℕ) (p : Pos) : Type 0 where
    pub state : State
    pub so_far : k.SoFar state (take at ws)
    pub position_is : pos state ≡ p
    pub whole : at ≤ length ws

  -- All longwords are passed over, and the run, after which this position comes, goes on.
  pub record HasPassed (ws : List ℕ) (at : ℕ) (p : Pos) : Type 0 where
    pub state : State
    pub so_far : k.SoFar state ws
    pub position_is : after (pos state) ≡ p
    pub inside : 0 < run (pos state)
    pub beyond : length ws < at

  abbrev pub Walks : List ℕ → ℕ → Pos → Type 0
  Walks ws at p = StandsAt ws at p ⊎ HasPassed ws at p

  pub starts : (ws : List ℕ) → Walks ws 0 (pos m.start)
  starts ws = inl (record { state = m.start; so_far = k.begins; position_is = refl; whole = omega arith })

  pub stands : (ws : List ℕ) (at : ℕ) (p : Pos) → Walks ws at p → at ≤ length ws → StandsAt ws at p
  stands ws at p h l = search rules

  -- a part of a run
  record Passed (s : State) (before ws : List ℕ) : Type 0 where
    state : State
    so_far : k.SoFar state (before ++ ws)
    run_is : run (pos state) + length ws ≡ run (pos s)
    after_is : after (pos state) ≡ after (pos s)

  passes_one : HasRuns → (s : State) (before : List ℕ) (w : ℕ) (ws : List ℕ) → k.SoFar s before → IsLong w → suc (length ws) ≤ run (pos s) → ((t : State) (done : List ℕ) → k.SoFar t done → length ws ≤ run (pos t) → Passed t done ws) → Passed s before (w ∷ ws)
  passes_one runs s before w ws h l few rest = go (run (pos s)) refl
    where
      go : (r : ℕ) → run (pos s) ≡ r → Passed s before (w ∷ ws)
      go zero e = absurd (omega (arith, few, e))
      go (suc left) e =
          let o = runs.one s before left w h e in
          let n = rest (m.step s w) (before ++ w ∷ []) (k.goes_on s before o.role w h o.expects l o.passes) (omega (arith, few, e, o.run_is)) in
          record {
            state = n.state;
            so_far = subst (k.SoFar n.state) (append_assoc before (w ∷ []) ws) n.so_far;
            run_is = omega (arith, n.run_is, o.run_is, e);
            after_is = n.after_is ∙ o.after_is;
          }

  passes_run : HasRuns → (s : State) (before ws : List ℕ) → k.SoFar s before → AreLongs ws → length ws ≤ run (pos s) → Passed s before ws
  passes_run runs s before [] h l few = record { state = s; so_far = subst (k.SoFar s) (sym (append-nil before)) h; run_is = omega arith; after_is = refl }
  passes_run runs s before (w ∷ ws) h l few = passes_one runs s before w ws h l.0 (omega (arith, few)) (λ t done d more. passes_run runs t done ws d l.1 more)

  module _ (ws : List ℕ) (fit : AreLongs ws) (at : ℕ) (p : Pos) (s : StandsAt ws at p) (l : at < length ws) (role : Role) (expects : m.expects s.state ≡ Some role) where
    -- The longword is refused.
    pub word_refused : (reason : Reason) → g.refuse role (get_or ws at 0) ≡ Some reason → HasRefusal g ws (4 * at) reason
    word_refused reason e =
        record {
          before = take at ws;
          word = get_or ws at 0;
          after = drop (at + 1) ws;
          role = role;
          split = sym (take-append-drop at ws) ∙ ap (λ r. take at ws ++ r) (drop_more ws at 0 l);
          place = omega (arith, length-take-le at ws s.whole);
          expects = k.expects s.state (take at ws) role s.so_far expects;
          refuses = e;
        }

    -- It is read.
    pub word_reads : g.refuse role (get_or ws at 0) ≡ None → k.SoFar (m.step s.state (get_or ws at 0)) (take (at + 1) ws)
    word_reads ok =
        subst (k.SoFar (m.step s.state (get_or ws at 0))) (sym (take_more ws at 0 l))
        (k.goes_on s.state (take at ws) role (get_or ws at 0) s.so_far expects (All-from_recursion IsLong ws fit at 0 l) ok)

    next : State
    next = m.step s.state (get_or ws at 0)

    rest : List ℕ
    rest = drop (at + 1) ws

    rest_fits : AreLongs rest
    unfolding rest
    rest_fits = All-right IsLong (take (at + 1) ws) rest (subst AreLongs (sym (take-append-drop (at + 1) ws)) fit)

    module _ (runs : HasRuns) (ok : g.refuse role (get_or ws at 0) ≡ None) (q : Pos) (e : pos (m.step s.state (get_or ws at 0)) ≡ q) where
      run_is : run (pos next) ≡ run q
      unfolding next
      run_is = ap run e

      all_passed : length ws < at + (1 + run q) → HasPassed ws (at + (1 + run q)) (after q)
      unfolding rest next
      all_passed beyond =
          let n = passes_run runs next (take (at + 1) ws) rest (word_reads ok) rest_fits (omega (arith, length-drop (at + 1) ws, l, beyond, run_is)) in
          record {
            state = n.state;
            so_far = subst (k.SoFar n.state) (take-append-drop (at + 1) ws) n.so_far;
            position_is = n.after_is ∙ ap after e;
            inside = omega (arith, n.run_is, run_is, length-drop (at + 1) ws, l, beyond);
            beyond = beyond;
          }

      some_passed : at + (1 + run q) ≤ length ws → StandsAt ws (at + (1 + run q)) (after q)
      unfolding rest next
      some_passed some =
          let many : length (take (run q) rest) ≡ run q = length-take-le (run q) rest (omega (arith, length-drop (at + 1) ws, some)) in
          let n = passes_run runs next (take (at + 1) ws) (take (run q) rest) (word_reads ok) (All-left IsLong (take (run q) rest) _ (subst AreLongs (sym (take-append-drop (run q) rest)) rest_fits)) (omega (arith, many, run_is)) in
          let place : at + 1 + run q ≡ at + (1 + run q) = omega arith in
          record {
            state = n.state;
            so_far = subst (k.SoFar n.state) (sym (take-add (at + 1) (run q) ws) ∙ ap (λ (i : ℕ). take i ws) place) n.so_far;
            position_is = sym (runs.none n.state (omega (arith, n.run_is, many, run_is))) ∙ n.after_is ∙ ap after e;
            whole = some;
          }

      -- The walk goes on after it and its run.
      pub word_passes : Walks ws (at + (1 + run q)) (after q)
      word_passes = elim (cases_lt (length ws) (at + (1 + run q))) [ inl beyond ↦ inr (all_passed beyond) | inr some ↦ inl (some_passed some) ]
